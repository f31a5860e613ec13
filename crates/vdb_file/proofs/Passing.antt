-- The numbers that pass a test, collected one after another.
use Rattle.vdb_file.proofs.Common.{◌≡◌, ◌⊎◌, inl, inr, ℕ, zero, suc, ◌+◌, ◌-◌, ◌<◌, ◌≤◌, Bool, true, false, cond, not, List, [], ◌∷◌, ◌++◌, arith, refl, sym, ap, subst, ◌∙◌, append-nil, length, length-append, Option, Some, take, flat_map, range_with_len, slice_get, w16, to_be_bytes, flat_map-append, IsFirstWithoutAt, Puts, Sent, numbered, passing}
use Rattle.std.proofs.Common.{filter, take_all}
use Rattle.std.proofs.lemmas.List.Elements.{filter-append}
use Rattle.vdb_file.proofs.Outputs.{puts_same, puts_then}

range_more : (a n : ℕ) → range_with_len a (n + 1) ≡ range_with_len a n ++ (a + n) ∷ []
range_more a zero = let e : a ≡ a + 0 = omega arith in λ j. e j ∷ []
range_more a (suc n) =
    let e : a + 1 + n ≡ a + suc n = omega arith in
    let k : suc n + 1 ≡ suc (n + 1) = omega arith in
    ap (range_with_len a) k ∙ ap (λ (t : List ℕ). a ∷ t) (range_more (a + 1) n ∙ ap (λ m. range_with_len (a + 1) n ++ m ∷ []) e)

true_or_false : (b : Bool) → (b ≡ true) ⊎ (b ≡ false)
true_or_false true = inl refl
true_or_false false = inr refl

module _ (test : ℕ → Bool) where
  one_more : (n : ℕ) → passing test (n + 1) ≡ passing test n ++ cond (test n) (n ∷ []) []
  one_more n =
      let e : 0 + n ≡ n = omega arith in
      ap (filter test) (range_more 0 n ∙ ap (λ m. range_with_len 0 n ++ m ∷ []) e) ∙ filter-append test (range_with_len 0 n) (n ∷ [])

  -- a number that passes is collected last
  pub passing_in : (n : ℕ) → test n ≡ true → passing test (n + 1) ≡ passing test n ++ n ∷ []
  passing_in n h = one_more n ∙ ap (λ b. passing test n ++ cond b (n ∷ []) []) h

  -- a number that doesn't pass isn't collected
  pub passing_out : (n : ℕ) → test n ≡ false → passing test (n + 1) ≡ passing test n
  passing_out n h = one_more n ∙ ap (λ b. passing test n ++ cond b (n ∷ []) []) h ∙ append-nil (passing test n)

  -- none of several numbers that don't pass is collected
  pub passing_over : (n k : ℕ) → ((i : ℕ) → n ≤ i → i < n + k → test i ≡ false) → passing test (n + k) ≡ passing test n
  passing_over n zero none = ap (passing test) (let e : n + 0 ≡ n = omega arith in e)
  passing_over n (suc k) none =
      let e : n + suc k ≡ n + k + 1 = omega arith in
      ap (passing test) e ∙ passing_out (n + k) (none (n + k) (omega arith) (omega arith)) ∙ passing_over n k (λ i from less. none i from (omega (arith, less)))

  -- no more numbers pass than there are
  pub passing_few : (n : ℕ) → length (passing test n) ≤ n
  passing_few zero = omega arith
  passing_few (suc n) =
      let e : suc n ≡ n + 1 = omega arith in
      let less = passing_few n in
      elim (true_or_false (test n)) [
        | inl h ↦ let k = ap (λ (m : ℕ). length (passing test m)) e ∙ ap length (passing_in n h) ∙ length-append (passing test n) (n ∷ []) in omega (arith, k, less)
        | inr h ↦ let k = ap (λ (m : ℕ). length (passing test m)) e ∙ ap length (passing_out n h) in omega (arith, k, less)
      ]

  -- the count of the numbers that pass: one more if the next one passes, else the same
  pub counted_in : (n count : ℕ) → test n ≡ true → count ≡ length (passing test n) → count + 1 ≡ length (passing test (n + 1))
  counted_in n count h e = let k = ap length (passing_in n h) ∙ length-append (passing test n) (n ∷ []) in omega (arith, k, e)

  pub counted_out : (n count : ℕ) → test n ≡ false → count ≡ length (passing test n) → count ≡ length (passing test (n + 1))
  counted_out n count h e = e ∙ ap length (sym (passing_out n h))

-- ---- the numbers that fail another test

module _ (flat : ℕ → Bool) where
  abbrev pub others : ℕ → Bool
  others i = not (flat i)

  fails : (b : Bool) → b ≡ true → not b ≡ false
  fails b h = ap not h

  passes : (b : Bool) → (b ≡ true → ⊥) → not b ≡ true
  passes true h = absurd (h refl)
  passes false h = refl

  -- the next such number is collected last
  pub others_next : (n from i : ℕ) → IsFirstWithoutAt (λ k. flat k ≡ true) n from i → passing others (i + 1) ≡ passing others from ++ i ∷ []
  others_next n from i next =
      let e : from + (i - from) ≡ i = let h = next.from_on in omega (arith, h) in
      let over = passing_over others from (i - from) (λ k more less. fails (flat k) (next.before k more (let l : k < from + (i - from) = less in omega (arith, l, e)))) in
      passing_in others i (passes (flat i) next.here) ∙ ap (λ (l : List ℕ). l ++ i ∷ []) (ap (passing others) (sym e) ∙ over)

  pub others_counted : (n from i count : ℕ) → IsFirstWithoutAt (λ k. flat k ≡ true) n from i → count ≡ length (passing others from) → count + 1 ≡ length (passing others (i + 1))
  others_counted n from i count next e = let k = ap length (others_next n from i next) ∙ length-append (passing others from) (i ∷ []) in omega (arith, k, e)

  -- if no such number is left, all are collected
  pub others_end : (n from : ℕ) → from ≤ n → ((i : ℕ) → from ≤ i → i < n → flat i ≡ true) → passing others n ≡ passing others from
  others_end n from few none =
      let e : from + (n - from) ≡ n = omega (arith, few) in
      ap (passing others) (sym e) ∙ passing_over others from (n - from) (λ k more less. fails (flat k) (none k more (let l : k < from + (n - from) = less in omega (arith, l, e))))

-- two tests that agree
pub passing_same : (s t : ℕ → Bool) (n : ℕ) → ((i : ℕ) → i < n → s i ≡ t i) → passing s n ≡ passing t n
passing_same s t zero same = refl
passing_same s t (suc n) same =
    let e : suc n ≡ n + 1 = omega arith in
    ap (passing s) e ∙ one_more s n
    ∙ ap (λ (l : List ℕ). l ++ cond (s n) (n ∷ []) []) (passing_same s t n (λ i less. same i (omega (arith, less))))
    ∙ ap (λ (b : Bool). passing t n ++ cond b (n ∷ []) []) (same n (omega arith))
    ∙ sym (ap (passing t) e ∙ one_more t n)

-- ---- entries after their numbers

pub numbered_more : (entry : ℕ → List ℕ) (is : List ℕ) (i : ℕ) → numbered entry (is ++ i ∷ []) ≡ numbered entry is ++ (to_be_bytes w16 i ++ entry i)
numbered_more entry is i =
    flat_map-append (λ k. to_be_bytes w16 k ++ entry k) is (i ∷ []) ∙ ap (λ (l : List ℕ). numbered entry is ++ l) (append-nil (to_be_bytes w16 i ++ entry i))

-- one more entry is written
pub entry_put : (entry : ℕ → List ℕ) (a b c : Sent) (is : List ℕ) (i : ℕ) (more : List ℕ) → Puts a b (numbered entry is) → Puts b c (to_be_bytes w16 i ++ entry i) → more ≡ is ++ i ∷ [] → Puts a c (numbered entry more)
entry_put entry a b c is i more first second e =
    subst (Puts a c) (sym (ap (numbered entry) e ∙ numbered_more entry is i)) (puts_then a b c (numbered entry is) (to_be_bytes w16 i ++ entry i) first second)

-- entries that agree at each number
pub numbered_same : (test : ℕ → Bool) (left right : ℕ → List ℕ) (n : ℕ) → ((i : ℕ) → i < n → left i ≡ right i) → numbered left (passing test n) ≡ numbered right (passing test n)
numbered_same test left right zero same = refl
numbered_same test left right (suc n) same =
    let e : suc n ≡ n + 1 = omega arith in
    let before = numbered_same test left right n (λ i less. same i (omega (arith, less))) in
    let here = same n (omega arith) in
    elim (true_or_false (test n)) [
      | inl h ↦
          ap (λ (k : ℕ). numbered left (passing test k)) e ∙ ap (numbered left) (passing_in test n h) ∙ numbered_more left (passing test n) n
          ∙ ap (λ (l : List ℕ). l ++ (to_be_bytes w16 n ++ left n)) before ∙ ap (λ (l : List ℕ). numbered right (passing test n) ++ (to_be_bytes w16 n ++ l)) here
          ∙ sym (ap (λ (k : ℕ). numbered right (passing test k)) e ∙ ap (numbered right) (passing_in test n h) ∙ numbered_more right (passing test n) n)
      | inr h ↦
          ap (λ (k : ℕ). numbered left (passing test k)) e ∙ ap (numbered left) (passing_out test n h) ∙ before
          ∙ sym (ap (λ (k : ℕ). numbered right (passing test k)) e ∙ ap (numbered right) (passing_out test n h))
    ]

-- ---- lists one member after another

pub same_some : {A : Type 0} (x y : A) → ◌≡◌ {A = Option A} (Some x) (Some y) → x ≡ y
same_some x y e = cc

-- the first members of a list, up to one that exists
pub take_next : {A : Type 0} (xs : List A) (i : ℕ) (x : A) → slice_get xs i ≡ Some x → take (i + 1) xs ≡ take i xs ++ x ∷ []
take_next [] i x h = cc
take_next (y ∷ ys) zero x h = ap (λ z. z ∷ []) (same_some y x h)
take_next (y ∷ ys) (suc i) x h =
    let e : suc i + 1 ≡ suc (i + 1) = omega arith in
    ap (λ n. take n (y ∷ ys)) e ∙ ap (λ l. y ∷ l) (take_next ys i x h)

-- a member exists at each index below the list's length
pub member_at : {A : Type 0} (xs : List A) (i : ℕ) → i < length xs → (x : A) × (slice_get xs i ≡ Some x)
member_at [] i h = absurd (omega (arith, h))
member_at (y ∷ ys) zero h = (y, refl)
member_at (y ∷ ys) (suc i) h = member_at ys i (omega (arith, h))

-- one more member of a list is written
pub taken_put : {A : Type 0} (entry : A → List ℕ) (xs : List A) (i : ℕ) (x : A) → slice_get xs i ≡ Some x → (a b c : Sent) → Puts a b (flat_map entry (take i xs)) → Puts b c (entry x) → Puts a c (flat_map entry (take (i + 1) xs))
taken_put entry xs i x h a b c so_far more =
    puts_same a c (flat_map entry (take i xs) ++ entry x) (flat_map entry (take (i + 1) xs))
    (sym (ap (flat_map entry) (take_next xs i x h) ∙ flat_map-append entry (take i xs) (x ∷ []) ∙ ap (λ l. flat_map entry (take i xs) ++ l) (append-nil (entry x))))
    (puts_then a b c (flat_map entry (take i xs)) (entry x) so_far more)

-- in the end all members are written
pub all_taken : {A : Type 0} (entry : A → List ℕ) (xs : List A) (i : ℕ) → length xs ≤ i → (a b : Sent) → Puts a b (flat_map entry (take i xs)) → Puts a b (flat_map entry xs)
all_taken entry xs i h a b put = puts_same a b (flat_map entry (take i xs)) (flat_map entry xs) (ap (flat_map entry) (take_all i xs h)) put
