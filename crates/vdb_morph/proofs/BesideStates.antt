-- The bit beside another is the state behind a face.
use Rattle.vdb_morph.proofs.Common.{Bool, true, ◌≡◌, ◌+◌, ◌-◌, ◌*◌, ◌/◌, ◌%◌, ◌<◌, ◌≤◌, ℕ, ℤ, pos, ◌+ℤ◌, ◌-ℤ◌, ◌*ℤ◌, false, List, [], ◌∷◌, refl, sym, ap, ◌∙◌, inl, inr, arith, ◌&&◌, if◌then◌else◌, list_any, eqb_tells, ints, offset, vdb, faces, toward, coord, coord_eq, Coord, Leaf, Face, MinusX, PlusX, MinusY, PlusY, MinusZ, PlusZ, not_true, parts, quotient, quotient_of, rest, rest_below, coord_equiv, coord_exact, is_on, state_beside, bit_after, bit_before, bit_beside, is_on_beside, is_around}
use Rattle.vdb_coord.proofs.Division.{rest_of}

-- ---- one component

some : 0 < 8
some = omega arith

-- a component, by its block and its position
at_position : (n : ℤ) (d : ℕ) (x : ℤ) → d < 8 → n *ℤ pos 8 +ℤ pos d ≡ x → (quotient 8 x ≡ n) × (rest 8 x ≡ d)
at_position n d x h e = (ap (quotient 8) (sym e) ∙ quotient_of 8 n d h, ap (rest 8) (sym e) ∙ rest_of 8 n d h)

one_less : (first x : ℤ) (d : ℕ) → first +ℤ pos d ≡ x → 0 < d → first +ℤ pos (d - 1) ≡ x -ℤ pos 1
one_less first x d e h = omega (arith, ints, e, h)

one_more : (first x : ℤ) (d : ℕ) → first +ℤ pos d ≡ x → first +ℤ pos (d + 1) ≡ x +ℤ pos 1
one_more first x d e = omega (arith, ints, e)

last_before : (n x : ℤ) (d : ℕ) → n *ℤ pos 8 +ℤ pos d ≡ x → d ≡ 0 → (n -ℤ pos 1) *ℤ pos 8 +ℤ pos 7 ≡ x -ℤ pos 1
last_before n x d e h = omega (arith, ints, e, h)

first_after : (n x : ℤ) (d : ℕ) → n *ℤ pos 8 +ℤ pos d ≡ x → d ≡ 7 → (n +ℤ pos 1) *ℤ pos 8 +ℤ pos 0 ≡ x +ℤ pos 1
first_after n x d e h = omega (arith, ints, e, h)

not_before : (n : ℤ) → n -ℤ pos 1 ≡ n → ⊥
not_before n e = omega (arith, ints, e)

not_after : (n : ℤ) → n +ℤ pos 1 ≡ n → ⊥
not_after n e = omega (arith, ints, e)

module _ (x : ℤ) where
  own_parts : quotient 8 x *ℤ pos 8 +ℤ pos (rest 8 x) ≡ x
  own_parts = parts 8 x some

  below : rest 8 x < 8
  below = rest_below 8 x some

  -- one less, in the block and out of it
  less_in : 0 < rest 8 x → (quotient 8 (x -ℤ pos 1) ≡ quotient 8 x) × (rest 8 (x -ℤ pos 1) ≡ rest 8 x - 1)
  less_in h = at_position (quotient 8 x) (rest 8 x - 1) (x -ℤ pos 1) (omega (arith, below)) (one_less (quotient 8 x *ℤ pos 8) x (rest 8 x) own_parts h)

  less_out : rest 8 x ≡ 0 → (quotient 8 (x -ℤ pos 1) ≡ quotient 8 x -ℤ pos 1) × (rest 8 (x -ℤ pos 1) ≡ 7)
  less_out h = at_position (quotient 8 x -ℤ pos 1) 7 (x -ℤ pos 1) (omega arith) (last_before (quotient 8 x) x (rest 8 x) own_parts h)

  -- one more
  more_in : rest 8 x < 7 → (quotient 8 (x +ℤ pos 1) ≡ quotient 8 x) × (rest 8 (x +ℤ pos 1) ≡ rest 8 x + 1)
  more_in h = at_position (quotient 8 x) (rest 8 x + 1) (x +ℤ pos 1) (omega (arith, h)) (one_more (quotient 8 x *ℤ pos 8) x (rest 8 x) own_parts)

  more_out : rest 8 x ≡ 7 → (quotient 8 (x +ℤ pos 1) ≡ quotient 8 x +ℤ pos 1) × (rest 8 (x +ℤ pos 1) ≡ 0)
  more_out h = at_position (quotient 8 x +ℤ pos 1) 0 (x +ℤ pos 1) some (first_after (quotient 8 x) x (rest 8 x) own_parts h)

-- ---- one axis: block number and index in the block of a coordinate that moves along it

module _ (own other : List Bool) (x : ℤ) (number : ℤ → Coord) (component : Coord → ℤ) (is : (n : ℤ) → component (number n) ≡ n) (step : ℕ) (index : ℕ → ℕ)
    (row : index (rest 8 x) / step % 8 ≡ rest 8 x) where
  apart : (n m : ℤ) → (m ≡ n → ⊥) → coord_eq (number m) (number n) ≡ false
  apart n m differ =
      not_true (coord_eq (number m) (number n)) (λ e. differ (sym (is m) ∙ ap component (coord_exact (number m) (number n) e) ∙ is n))

  before_is : (rest 8 x ≡ 0 → index (rest 8 x) + 7 * step ≡ index 7) → (0 < rest 8 x → index (rest 8 x) - step ≡ index (rest 8 x - 1))
      → bit_before step (is_on own) (is_on other) (index (rest 8 x)) ≡ is_on (if coord_eq (number (quotient 8 (x -ℤ pos 1))) (number (quotient 8 x)) then own else other) (index (rest 8 (x -ℤ pos 1)))
  before_is last lower =
      rw row
      (elim (eqb_tells (rest 8 x) 0) [
        | inl e ↦
            let out = less_out x e.1 in
            rw (e.0, out.0, out.1, last e.1, apart (quotient 8 x) (quotient 8 x -ℤ pos 1) (not_before (quotient 8 x))) refl
        | inr e ↦
            let high : 0 < rest 8 x = omega (arith, e.1) in
            let within = less_in x high in
            rw (e.0, within.0, within.1, lower high, coord_equiv.refl (number (quotient 8 x))) refl
      ])

  after_is : (rest 8 x ≡ 7 → index (rest 8 x) - 7 * step ≡ index 0) → (rest 8 x < 7 → index (rest 8 x) + step ≡ index (rest 8 x + 1))
      → bit_after step (is_on own) (is_on other) (index (rest 8 x)) ≡ is_on (if coord_eq (number (quotient 8 (x +ℤ pos 1))) (number (quotient 8 x)) then own else other) (index (rest 8 (x +ℤ pos 1)))
  after_is first higher =
      rw row
      (elim (eqb_tells (rest 8 x) 7) [
        | inl e ↦
            let out = more_out x e.1 in
            rw (e.0, out.0, out.1, first e.1, apart (quotient 8 x) (quotient 8 x +ℤ pos 1) (not_after (quotient 8 x))) refl
        | inr e ↦
            let low : rest 8 x < 7 = omega (arith, e.1, below x) in
            let within = more_in x low in
            rw (e.0, within.0, within.1, higher low, coord_equiv.refl (number (quotient 8 x))) refl
      ])

-- ---- lists of tests

-- tests that agree at each element pass in the same lists
any_same : {X : Type 0} (s t : X → Bool) → ((x : X) → s x ≡ t x) → (xs : List X) → list_any s xs ≡ list_any t xs
any_same s t same [] = refl
any_same s t same (x ∷ xs) = rw (same x, any_same s t same xs) refl

-- if nothing is on in the other block
on_in_own : (near : Bool) (own : List Bool) (i : ℕ) → is_on (if near then own else []) i ≡ (near && is_on own i)
on_in_own true own i = refl
on_in_own false own i = refl

-- ---- the six faces

-- the offset of these positions, as `offset` computes it
abbrev index_of : ℕ → ℕ → ℕ → ℕ
index_of x y z = (x / 1 * 8 + y / 1) * 8 + z / 1

module _ (own other : List Bool) (q : Coord) where
  pub beside_is : (face : Face) → bit_beside face (is_on own) (is_on other) (offset vdb Leaf q) ≡ state_beside vdb own other face q
  beside_is MinusX =
      before_is own other q.x (λ n. coord n (quotient 8 q.y) (quotient 8 q.z)) (λ n. n.x) (λ n. refl) 64 (λ d. index_of d (rest 8 q.y) (rest 8 q.z))
      (omega (arith, below q.x, below q.y, below q.z)) (λ e. omega (arith, e)) (λ h. omega (arith, h))
  beside_is PlusX =
      after_is own other q.x (λ n. coord n (quotient 8 q.y) (quotient 8 q.z)) (λ n. n.x) (λ n. refl) 64 (λ d. index_of d (rest 8 q.y) (rest 8 q.z))
      (omega (arith, below q.x, below q.y, below q.z)) (λ e. omega (arith, e)) (λ h. omega (arith, h))
  beside_is MinusY =
      before_is own other q.y (λ n. coord (quotient 8 q.x) n (quotient 8 q.z)) (λ n. n.y) (λ n. refl) 8 (λ d. index_of (rest 8 q.x) d (rest 8 q.z))
      (omega (arith, below q.x, below q.y, below q.z)) (λ e. omega (arith, e)) (λ h. omega (arith, h))
  beside_is PlusY =
      after_is own other q.y (λ n. coord (quotient 8 q.x) n (quotient 8 q.z)) (λ n. n.y) (λ n. refl) 8 (λ d. index_of (rest 8 q.x) d (rest 8 q.z))
      (omega (arith, below q.x, below q.y, below q.z)) (λ e. omega (arith, e)) (λ h. omega (arith, h))
  beside_is MinusZ =
      before_is own other q.z (λ n. coord (quotient 8 q.x) (quotient 8 q.y) n) (λ n. n.z) (λ n. refl) 1 (λ d. index_of (rest 8 q.x) (rest 8 q.y) d)
      (omega (arith, below q.x, below q.y, below q.z)) (λ e. omega (arith, e)) (λ h. omega (arith, h))
  beside_is PlusZ =
      after_is own other q.z (λ n. coord (quotient 8 q.x) (quotient 8 q.y) n) (λ n. n.z) (λ n. refl) 1 (λ d. index_of (rest 8 q.x) (rest 8 q.y) d)
      (omega (arith, below q.x, below q.y, below q.z)) (λ e. omega (arith, e)) (λ h. omega (arith, h))

module _ (own : List Bool) (q : Coord) where
  -- behind any face
  pub beside_any_is : is_on_beside own (offset vdb Leaf q) ≡ list_any (λ face. is_around vdb q (toward face q) && is_on own (offset vdb Leaf (toward face q))) faces
  beside_any_is =
      any_same (λ face. bit_beside face (is_on own) (is_on []) (offset vdb Leaf q))
      (λ face. is_around vdb q (toward face q) && is_on own (offset vdb Leaf (toward face q)))
      (λ face. beside_is own [] q face ∙ on_in_own (is_around vdb q (toward face q)) own (offset vdb Leaf (toward face q)))
      faces

-- each offset lies in the first 8 words
pub offset_low : (q : Coord) (k : ℕ) → 8 ≤ k → offset vdb Leaf q < 64 * k
offset_low q k h = omega (arith, below q.x, below q.y, below q.z, h)
