-- The members of a sorted list that a test keeps, one after another.
use Rattle.vdb_file.proofs.Common.{◌≡◌, ℕ, zero, suc, ◌<◌, Bool, true, false, cond, List, [], ◌∷◌, ◌++◌, length, refl, sym, ap, subst, ◌∙◌, arith, Option, Some, None, AllByRecursion, Contains, filter, IsTotalOrder, ordering_reverse, Ordering, Less, All-contains, All-from_recursion, Follows}
use Rattle.std.specs.Prelude.{slice_index_or}
use Rattle.std.specs.List.Sorted.{IsStrictlySortedBy}

-- ---- members

module _ {K : Type 0} where
  pub first_member : (x : K) (xs : List K) → Contains (x ∷ xs) x
  first_member x xs = (0, omega arith, refl)

  pub later_member : (x : K) (xs : List K) (k : K) → Contains xs k → Contains (x ∷ xs) k
  later_member x xs k m = (suc m.0, omega (arith, m.1), m.2)

  -- a property of each member holds of the whole list
  pub by_member : (P : K → Type 0) (xs : List K) → ((k : K) → Contains xs k → P k) → AllByRecursion P xs
  by_member P [] h = tt
  by_member P (x ∷ xs) h = (h x (first_member x xs), by_member P xs (λ k m. h k (later_member x xs k m)))

  -- a property of the whole list holds of each member
  pub at_member : (P : K → Type 0) (xs : List K) (k : K) → AllByRecursion P xs → Contains xs k → P k
  at_member P xs k all m = All-contains P xs k (All-from_recursion P xs all) m

  pub none_kept : (test : K → Bool) (xs : List K) → AllByRecursion (λ k. test k ≡ false) xs → filter test xs ≡ []
  none_kept test [] all = refl
  none_kept test (x ∷ xs) all = rw all.0 (none_kept test xs all.1)

  -- the last of them, or the one before if the list is empty
  abbrev pub last_of : Option K → List K → Option K
  last_of before [] = before
  last_of before (x ∷ xs) = last_of (Some x) xs

  pub last_more : (before : Option K) (xs : List K) (k : K) → last_of before (xs ++ k ∷ []) ≡ Some k
  last_more before [] k = refl
  last_more before (x ∷ xs) k = last_more (Some x) xs k

module _ {K : Type 0} (cmp : K → K → Ordering) where
  -- a coordinate or key past the members of a sorted list follows the last of them
  pub next_follows : (xs : List K) (k : K) (rest : List K) → IsStrictlySortedBy cmp (xs ++ k ∷ rest) → Follows cmp (last_of None xs) k
  unfolding IsStrictlySortedBy
  next_follows [] k rest s = tt
  next_follows (x ∷ xs) k rest s = after x xs s
    where
      after : (x : K) (xs : List K) → IsStrictlySortedBy cmp (x ∷ (xs ++ k ∷ rest)) → Follows cmp (last_of (Some x) xs) k
      after x [] s = s.0.0
      after x (y ∷ ys) s = after y ys s.1

module _ {K : Type 0} {cmp : K → K → Ordering} (total : IsTotalOrder cmp) where
  -- nothing comes after itself
  pub not_before : (k : K) → cmp k k ≡ Less → ⊥
  not_before k h = let back : cmp k k ≡ ordering_reverse (cmp k k) = total.antisymm k k in let more : Less ≡ ordering_reverse Less = sym h ∙ back ∙ ap ordering_reverse h in cc

  -- one more member of a sorted list is kept: one past all that were kept before
  pub one_kept_more : (s t : K → Bool) (k : K) (xs : List K) → IsStrictlySortedBy cmp xs → (i : ℕ) → i < length xs → slice_index_or xs i k ≡ k
      → ((l : K) → Contains xs l → (l ≡ k → ⊥) → t l ≡ s l) → t k ≡ true → s k ≡ false → ((l : K) → Contains xs l → cmp k l ≡ Less → s l ≡ false)
      → filter t xs ≡ filter s xs ++ k ∷ []
  unfolding IsStrictlySortedBy
  one_kept_more s t k [] sorted i h e same new here later = absurd (omega (arith, h))
  one_kept_more s t k (x ∷ xs) sorted zero h e same new here later =
      let above : (l : K) → Contains xs l → cmp x l ≡ Less = λ l m. at_member (λ l. cmp x l ≡ Less) xs l sorted.0 m in
      let out : (l : K) → Contains xs l → s l ≡ false = λ l m. later l (later_member x xs l m) (subst (λ z. cmp z l ≡ Less) e (above l m)) in
      let gone : filter s xs ≡ [] = none_kept s xs (by_member (λ l. s l ≡ false) xs out) in
      let none : filter t xs ≡ [] = none_kept t xs (by_member (λ l. t l ≡ false) xs (λ l m. same l (later_member x xs l m) (λ q. not_before k (subst (λ z. cmp k z ≡ Less) q (subst (λ z. cmp z l ≡ Less) e (above l m)))) ∙ out l m)) in
      subst (λ z. filter t (z ∷ xs) ≡ filter s (z ∷ xs) ++ k ∷ []) (sym e)
      (rw (new, here) (ap (λ ys. k ∷ ys) none ∙ sym (ap (λ ys. ys ++ k ∷ []) gone)))
  one_kept_more s t k (x ∷ xs) sorted (suc i) h e same new here later =
      let member : Contains xs k = (i, omega (arith, h), e) in
      let below : cmp x k ≡ Less = at_member (λ l. cmp x l ≡ Less) xs k sorted.0 member in
      either (s x) (t x) (filter s xs) (filter t xs) (same x (first_member x xs) (λ q. not_before k (subst (λ z. cmp z k ≡ Less) q below)))
      (one_kept_more s t k xs sorted.1 i (omega (arith, h)) e (λ l m. same l (later_member x xs l m)) new here (λ l m. later l (later_member x xs l m)))
    where
      either : (b c : Bool) (ys zs : List K) → c ≡ b → zs ≡ ys ++ k ∷ [] → cond c (x ∷ zs) zs ≡ cond b (x ∷ ys) ys ++ k ∷ []
      either true true ys zs q r = ap (λ l. x ∷ l) r
      either true false ys zs q r = absurd cc
      either false true ys zs q r = absurd cc
      either false false ys zs q r = r
