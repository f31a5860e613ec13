-- Arrays that calls fill row by row.
use Rattle.vdb_c.proofs.Common.{◌≡◌, ◌<◌, ◌≤◌, ◌≢◌, ◌⊎◌, inl, inr, ℕ, zero, suc, ◌+◌, ◌*◌, refl, sym, ◌∙◌, ap, subst, true, ◌||◌, IsTrue, List, length, set, get_or, arith, rules, add-one, get_or-set_same, get_or-set_other, Option, Some, nat_eq, cases_eq, nat_tests, put_mid, mul-le, Coord, HasRows, HasRun, last_before, voxel_at, corner_coord, Corner}
use Rattle.std.proofs.lemmas.List.{places}
use Rattle.std.proofs.Math.Nat.{mul-suc}
use Rattle.vdb_c.specs.Leaves.{has_rows}

times_more : (size k : ℕ) → size * (k + 1) ≡ size * k + size
times_more size k = ap (λ (m : ℕ). size * m) (add-one k) ∙ mul-suc size k

module _ {X : Type 0} where
  -- ---- a run

  pub run_none : (first : ℕ) (run : ℕ → X → Type 0) (xs : List X) → HasRun first 0 run xs xs
  run_none first run xs = record { len = refl; elements = λ i d l _. absurd (omega (arith, l)); before = λ i d l. refl; after = λ i d l. refl }

  pub run_as : (first size : ℕ) (run to : ℕ → X → Type 0) (xs ys : List X) → ((i : ℕ) (x : X) → i < size → run i x → to i x) → HasRun first size run xs ys → HasRun first size to xs ys
  run_as first size run to xs ys f h = record { len = h.len; elements = λ i d l lt. f i (get_or ys (first + i) d) l (h.elements i d l lt); before = h.before; after = h.after }

  -- a run put in its place
  module _ (first size k : ℕ) (run : ℕ → X → Type 0) (old mid : List X) (all : k ≡ size) (room : first + size ≤ length old) (len : length mid ≡ size)
      (each : (i : ℕ) (d : X) → i < size → run i (get_or mid i d)) where
    at_run : (i : ℕ) (d : X) → i < size → get_or (put_mid first k old mid) (first + i) d ≡ get_or mid i d
    at_run i d l = search (rules, places)

    before_run : (i : ℕ) (d : X) → i < first → get_or (put_mid first k old mid) i d ≡ get_or old i d
    before_run i d l = search (rules, places)

    after_run : (i : ℕ) (d : X) → first + size ≤ i → get_or (put_mid first k old mid) i d ≡ get_or old i d
    after_run i d l = search (rules, places)

    same_len : length (put_mid first k old mid) ≡ length old
    same_len = search (rules, places)

    pub run_put : HasRun first size run old (put_mid first k old mid)
    run_put = record { len = same_len; elements = λ i d l _. subst (run i) (sym (at_run i d l)) (each i d l); before = before_run; after = after_run }

  -- ---- rows

  pub rows_none : (size : ℕ) (row : ℕ → ℕ → X → Type 0) (xs : List X) → HasRows size 0 row xs xs
  rows_none size row xs = record { len = refl; rows = λ k i d l _ _. absurd (omega (arith, l)); others = λ i d l. refl }

  pub rows_as : (size n : ℕ) (row to : ℕ → ℕ → X → Type 0) (xs ys : List X) → ((k i : ℕ) (x : X) → k < n → row k i x → to k i x) → HasRows size n row xs ys → HasRows size n to xs ys
  rows_as size n row to xs ys f h = record { len = h.len; rows = λ k i d l m lt. f k i (get_or ys (size * k + i) d) l (h.rows k i d l m lt); others = h.others }

  -- one more row
  module _ (size n : ℕ) (row : ℕ → ℕ → X → Type 0) (xs ys zs : List X) (h : HasRows size n row xs ys) (last : HasRun (size * n) size (row n) ys zs) where
    in_earlier : (k i : ℕ) → k < n → i < size → size * k + i < size * n
    in_earlier k i l m =
        let fits : size * (k + 1) ≤ size * n = mul-le size (k + 1) size n (omega arith) (omega (arith, l)) in
        let more = times_more size k in omega (arith, fits, more, m)

    row_at : (k i : ℕ) (d : X) → k < n + 1 → i < size → size * k + i < length xs → (k ≡ n) ⊎ (k ≢ n) → row k i (get_or zs (size * k + i) d)
    row_at k i d l m lt (inl same) = rw same (last.elements i d m (let e : size * k ≡ size * n = ap (λ (j : ℕ). size * j) same in omega (arith, lt, e, h.len)))
    row_at k i d l m lt (inr other) =
        let below : k < n = omega (arith, l, other) in
        subst (row k i) (sym (last.before (size * k + i) d (in_earlier k i below m))) (h.rows k i d below m lt)

    pub rows_next : HasRows size (n + 1) row xs zs
    rows_next = record {
      len = last.len ∙ h.len;
      rows = λ k i d l m lt. row_at k i d l m lt (cases_eq k n);
      others = λ i d l. let more = times_more size n in last.after i d (omega (arith, l, more)) ∙ h.others i d (omega (arith, l, more));
    }

-- ---- the leaves in an array

pub voxel_other : (at : List Corner) (k : ℕ) (c : Corner) (j : ℕ) → j ≢ k → voxel_at (set at k c) j ≡ voxel_at at j
voxel_other at k c j other = ap corner_coord (get_or-set_other at k j c _ other)

pub voxel_set : (at : List Corner) (k : ℕ) (c : Corner) → k < length at → voxel_at (set at k c) k ≡ corner_coord c
voxel_set at k c l = ap corner_coord (get_or-set_same at k c _ l)

pub last_other : (after : Option Coord) (at : List Corner) (k : ℕ) (c : Corner) (j : ℕ) → j ≤ k → last_before after (set at k c) j ≡ last_before after at j
last_other after at k c zero h = refl
last_other after at k c (suc j) h = ap Some (voxel_other at k c j (λ e. absurd (omega (arith, h, e))))

pub last_next : (after : Option Coord) (at : List Corner) (k : ℕ) → last_before after at (k + 1) ≡ Some (voxel_at at k)
last_next after at k = ap (last_before after at) (add-one k)

-- the row of a leaf lies in its array
pub row_room : (size count len k : ℕ) → IsTrue (has_rows size count len) → k < count → 0 < len → size * k + size ≤ len
row_room size count len k h l some =
    let full : len ≡ size * count = full_of h in
    let fits : size * (k + 1) ≤ size * count = mul-le size (k + 1) size count (omega arith) (omega (arith, l)) in
    let more = times_more size k in omega (arith, fits, more, full)
  where
    full_of : (nat_eq len 0 || nat_eq len (size * count)) ≡ true → len ≡ size * count
    full_of h = grind (arith, nat_tests)
