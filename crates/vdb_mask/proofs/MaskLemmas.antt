-- For callers: how the count of a mask and its first indices follow from its values.
use Rattle.std.proofs.Common.{◌≡◌, ◌+◌, ◌<◌, ◌≤◌, ℕ, Bool, true, false, List, Option, Some, None, cond, zero, suc, refl, ◌∙◌, inl, inr, arith}
use Rattle.std.specs.List.{count_by, range_with_len}
use Rattle.std.proofs.lemmas.Bool.{cases_Bool, cases_lt}
use Rattle.std.proofs.lemmas.Bool.Decides.{eqb_tells}
use Rattle.std.proofs.lemmas.List.Sums.{sum_by-cons}
use Rattle.vdb_mask.specs.Mask.{is_on, on_count, IsFirstOn, IsNext, IsNextAt}

count_by-range_more : (p : ℕ → Bool) (a n : ℕ) → count_by p (range_with_len a (suc n)) ≡ count_by p (range_with_len a n) + cond (p (a + n)) 1 0
count_by-range_more p a zero =
    let same : a + 0 ≡ a = omega arith in
    rw same refl
count_by-range_more p a (suc n) =
    let same : a + suc n ≡ (a + 1) + n = omega arith in
    let long = sum_by-cons (λ i. cond (p i) 1 0) a (range_with_len (a + 1) (suc n)) in
    let short = sum_by-cons (λ i. cond (p i) 1 0) a (range_with_len (a + 1) n) in
    rw same (omega (arith, count_by-range_more p (a + 1) n, long, short))

-- none of the first 0 values is on
pub on_count-zero : (mask : List Bool) → on_count mask 0 ≡ 0
unfolding on_count
on_count-zero mask = refl

-- the step of a count, for an induction
pub on_count-suc : (mask : List Bool) (n : ℕ) → on_count mask (suc n) ≡ on_count mask n + cond (is_on mask n) 1 0
unfolding on_count
on_count-suc mask n =
    let same : 0 + n ≡ n = omega arith in
    rw same at (count_by-range_more (is_on mask) 0 n)

-- the step of a count, for a loop
pub on_count-more : (mask : List Bool) (n : ℕ) → on_count mask (n + 1) ≡ on_count mask n + cond (is_on mask n) 1 0
on_count-more mask n =
    let same : n + 1 ≡ suc n = omega arith in
    rw same (on_count-suc mask n)

-- at most n of n values are on
pub on_count-le : (mask : List Bool) (n : ℕ) → on_count mask n ≤ n
on_count-le mask zero = omega (arith, on_count-zero mask)
on_count-le mask (suc n) =
    elim (cases_Bool (is_on mask n)) [
      | inl e ↦ let step = rw e at (on_count-suc mask n) in omega (arith, step, on_count-le mask n)
      | inr e ↦ let step = rw e at (on_count-suc mask n) in omega (arith, step, on_count-le mask n)
    ]

-- if a mask is off from m on, its first n values have as many on as its first m
pub on_count-past : (mask : List Bool) (m n : ℕ) → m ≤ n → ((i : ℕ) → m ≤ i → i < n → is_on mask i ≡ false) → on_count mask n ≡ on_count mask m
on_count-past mask m zero h off =
    let same : m ≡ 0 = omega (arith, h) in
    rw same refl
on_count-past mask m (suc n) h off =
    elim (eqb_tells m (suc n)) [
      | inl e ↦ rw e.1 refl
      | inr e ↦
          let before = on_count-past mask m n (omega (arith, h, e.1)) (λ i from below. off i from (omega (arith, below))) in
          on_count-suc mask n ∙ (rw (off n (omega (arith, h, e.1)) (omega arith)) (omega (arith, before)))
    ]

-- if a mask is off from m on, an index below n that is on is below m
pub below_from_on : (mask : List Bool) (m n index : ℕ) → ((i : ℕ) → m ≤ i → i < n → is_on mask i ≡ false) → index < n → is_on mask index ≡ true → index < m
below_from_on mask m n index off within here =
    elim (cases_lt index m) [
      | inl h ↦ h
      | inr h ↦ absurd (let there : is_on mask index ≡ false = off index h within in cc)
    ]

-- the first index below n, if it is below m, is the first below m
pub IsNextAt-below : (value : Bool) (mask : List Bool) (m n from index : ℕ) → index < m → IsNextAt value mask n from index → IsNextAt value mask m from index
IsNextAt-below value mask m n from index h next = record { within = h; from_on = next.from_on; here = next.here; before = next.before }

-- if a mask is off from m on, the first index on and below n is the first below m: so `next_on` answers an index below m
pub IsNext-on_below : (mask : List Bool) (m n from : ℕ) (result : Option ℕ) → m ≤ n → ((i : ℕ) → m ≤ i → i < n → is_on mask i ≡ false)
    → IsNext true mask n from result → IsNext true mask m from result
IsNext-on_below mask m n from (Some index) h off next =
    IsNextAt-below true mask m n from index (below_from_on mask m n index off next.within next.here) next
IsNext-on_below mask m n from None h off next = λ i least below. next i least (omega (arith, below, h))

-- if `on` is false from m on, the first index on and below n is the first below m
pub IsFirstOn-below : (on : ℕ → Bool) (m n from : ℕ) (result : Option ℕ) → m ≤ n → ((i : ℕ) → m ≤ i → i < n → on i ≡ false)
    → IsFirstOn on n from result → IsFirstOn on m from result
IsFirstOn-below on m n from (Some index) h off first =
    record {
      within = elim (cases_lt index m) [
        | inl below ↦ below
        | inr past ↦ absurd (let there : on index ≡ false = off index past first.within in let here = first.here in cc)
      ];
      from_on = first.from_on;
      here = first.here;
      before = first.before;
    }
IsFirstOn-below on m n from None h off first = λ i least below. first i least (omega (arith, below, h))
