-- What the members that pass a test show about all members of a list.
use Rattle.vdb_file.proofs.Common.{◌≡◌, ℕ, ◌<◌, ◌≤◌, Bool, true, false, cond, List, [], ◌∷◌, length, sym, subst, ◌∙◌, arith, AllByRecursion, Contains, filter, range_with_len, All-contains, All-from_recursion, filter_passes, recursion_from_All, length-range_with_len, same_truth}
use Rattle.std.proofs.lemmas.List.Elements.{All-filter}
use Rattle.std.proofs.lemmas.List.FromFn.{get_or-range_with_len}
use Rattle.std.proofs.lemmas.List.Sums.{count_by-le-length, length-filter}

module _ {K : Type 0} where
  -- one member, which a filter keeps or not
  one_kept : (P : K → Type 0) (b : Bool) (x : K) (xs : List K) → AllByRecursion P (cond b (x ∷ xs) xs) → (b ≡ true → P x) × AllByRecursion P xs
  one_kept P true x xs all = (λ h. all.0, all.1)
  one_kept P false x xs all = (λ h. absurd cc, all)

  -- if all members that pass have P, each member has it if it passes
  each_kept : (P : K → Type 0) (test : K → Bool) (xs : List K) → AllByRecursion P (filter test xs) → AllByRecursion (λ x. test x ≡ true → P x) xs
  each_kept P test [] all = tt
  each_kept P test (x ∷ xs) all = let s = one_kept P (test x) x (filter test xs) all in (s.0, each_kept P test xs s.1)

  -- one member that passes has P
  pub at_kept : (P : K → Type 0) (test : K → Bool) (xs : List K) → AllByRecursion P (filter test xs) → (x : K) → Contains xs x → test x ≡ true → P x
  at_kept P test xs all x member = All-contains (λ y. test y ≡ true → P y) xs x (All-from_recursion (λ y. test y ≡ true → P y) xs (each_kept P test xs all)) member

  -- two tests that the same members pass are the same at each
  pub same_tests : (s t : K → Bool) (xs : List K) → filter s xs ≡ filter t xs → (x : K) → Contains xs x → s x ≡ t x
  same_tests s t xs e x member =
      let passes : (test : K → Bool) → AllByRecursion (λ y. test y ≡ true) (filter test xs) = λ test. recursion_from_All (λ y. test y ≡ true) (filter test xs) (filter_passes test xs) in
      same_truth (s x) (t x)
      (at_kept (λ y. t y ≡ true) s xs (subst (AllByRecursion (λ y. t y ≡ true)) (sym e) (passes t)) x member)
      (at_kept (λ y. s y ≡ true) t xs (subst (AllByRecursion (λ y. s y ≡ true)) e (passes s)) x member)

  -- if all members have P, those that pass have it
  pub all_kept : (P : K → Type 0) (test : K → Bool) (xs : List K) → AllByRecursion P xs → AllByRecursion P (filter test xs)
  all_kept P test xs all = recursion_from_All P (filter test xs) (All-filter test P xs (All-from_recursion P xs all))

  -- no more members pass than the list has
  pub few_kept : (test : K → Bool) (xs : List K) → length (filter test xs) ≤ length xs
  few_kept test xs = rw (length-filter test xs) (count_by-le-length test xs)

-- ---- the numbers below n

-- each number that is listed is below n
pub range_below : (n : ℕ) → AllByRecursion (λ i. i < n) (range_with_len 0 n)
range_below n =
    recursion_from_All (λ i. i < n) (range_with_len 0 n)
    (λ i d h. let small : i < n = omega (arith, length-range_with_len 0 n) in rw (get_or-range_with_len 0 n i d small) (omega arith))

-- each number below n is listed
pub range_has : (n i : ℕ) → i < n → Contains (range_with_len 0 n) i
range_has n i h = (i, omega (arith, length-range_with_len 0 n), get_or-range_with_len 0 n i i h ∙ omega arith)
