-- A walk over the blocks that meet a box.
use Rattle.vdb_coord.proofs.Common.{◌≡◌, ◌⊎◌, inl, inr, ℕ, ℤ, pos, ◌+ℤ◌, ◌≤ℤ◌, ◌<ℤ◌, ◌<◌, Bool, true, false, ◌&&◌, int_le, arith, ap, sym, ◌∙◌, refl, Some, None, SFits, w32, ◌^◌, ◌-ℤ◌, unsigned_abs, ints, block_bits, block_number, first_of, last_of, number_at, Box, coord, is_box, is_inside, IsBefore, IsBlockBefore, IsNextBlock, Bits, Coord, Level}
use Rattle.vdb_coord.specs.Walk.{coordinates_after}
use Rattle.vdb_coord.proofs.Boxes.{both, three, together}
use Rattle.vdb_coord.proofs.Digits.{inside_own, number_mono}
use Rattle.vdb_coord.proofs.Meeting.{begins_by, ends_by, le_from_test, number_of_last, test_from_le}

-- ---- along one axis

not_below : (x y : ℤ) → int_le x y ≡ false → y <ℤ x
not_below x y h = grind (arith, ints)

no_less : {m n : ℤ} → m ≤ℤ n → n <ℤ m → ⊥
no_less {m} {n} a c = omega (arith, ints, a, c)

above_last : (y : ℤ) → int_le (y +ℤ pos 1) y ≡ false
above_last y = grind (arith, ints)

module _ (k : ℕ) (x : ℤ) where
  abbrev end : ℤ
  end = last_of k (number_at k x)

  pub own_end : x ≤ℤ end
  own_end = le_from_test x end (both (int_le (first_of k (number_at k x)) x) (int_le x end) (inside_own k x)).1

  -- the number behind a block's last lies in the next block
  behind_above : number_at k x <ℤ number_at k (end +ℤ pos 1)
  behind_above = not_below (number_at k (end +ℤ pos 1)) (number_at k x) (sym (ends_by k (number_at k x) (end +ℤ pos 1)) ∙ above_last end)

  behind_near : number_at k (end +ℤ pos 1) ≤ℤ (number_at k x +ℤ pos 1)
  behind_near =
      let n = number_at k x in
      let later : end <ℤ first_of k (n +ℤ pos 1) = not_below (first_of k (n +ℤ pos 1)) end (begins_by k (n +ℤ pos 1) end ∙ ap (int_le (n +ℤ pos 1)) (number_of_last k n) ∙ above_last n) in
      let reach : int_le (end +ℤ pos 1) (last_of k (n +ℤ pos 1)) ≡ true = grind (arith, ints) in
      le_from_test _ _ (sym (ends_by k (n +ℤ pos 1) (end +ℤ pos 1)) ∙ reach)

  -- what comes before the next block lies no further than the block itself
  before_behind : (y : ℤ) → number_at k y <ℤ number_at k (end +ℤ pos 1) → number_at k y ≤ℤ number_at k x
  before_behind y h = let near = behind_near in omega (arith, ints, near, h)

  up_to_end : (y : ℤ) → y ≤ℤ end → number_at k y ≤ℤ number_at k x
  up_to_end y h = le_from_test _ _ (sym (ends_by k (number_at k x) y) ∙ test_from_le y end h)

less_or_same : (m n : ℤ) → m ≤ℤ n → (m <ℤ n) ⊎ (m ≡ n)
less_or_same m n h = elim (bool_of (int_le n m)) [
  | inl e ↦ inr (let back = le_from_test n m e in omega (arith, ints, h, back))
  | inr e ↦ inl (not_below n m e)
]
  where
    bool_of : (b : Bool) → (b ≡ true) ⊎ (b ≡ false)
    bool_of true = inl refl
    bool_of false = inr refl

-- ---- numbers of blocks

pub same_number : (m n : Coord) → m.x ≡ n.x → m.y ≡ n.y → m.z ≡ n.z → m ≡ n
same_number m n a b c = λ i. record { x = a i; y = b i; z = c i }

up_to_z : (m n : Coord) → m.x ≡ n.x → m.y ≡ n.y → m.z ≤ℤ n.z → IsBefore m n ⊎ (m ≡ n)
up_to_z m n a b h = elim (less_or_same m.z n.z h) [
  | inl l ↦ inl (inr (a, inr (b, l)))
  | inr e ↦ inr (same_number m n a b e)
]

up_to_y : (m n : Coord) → m.x ≡ n.x → m.y ≤ℤ n.y → m.z ≤ℤ n.z → IsBefore m n ⊎ (m ≡ n)
up_to_y m n a h c = elim (less_or_same m.y n.y h) [
  | inl l ↦ inl (inr (a, inl l))
  | inr e ↦ up_to_z m n a e c
]

pub up_to_x : (m n : Coord) → m.x ≤ℤ n.x → m.y ≤ℤ n.y → m.z ≤ℤ n.z → IsBefore m n ⊎ (m ≡ n)
up_to_x m n h b c = elim (less_or_same m.x n.x h) [
  | inl l ↦ inl (inl l)
  | inr e ↦ up_to_y m n e b c
]

-- ---- the next block

pub inside_parts : (b : Box) (q : Coord) → is_inside b q ≡ true → ((b.min.x ≤ℤ q.x) × (q.x ≤ℤ b.max.x)) × ((b.min.y ≤ℤ q.y) × (q.y ≤ℤ b.max.y)) × ((b.min.z ≤ℤ q.z) × (q.z ≤ℤ b.max.z))
inside_parts b q h =
    let t = three (int_le b.min.x q.x && int_le q.x b.max.x) (int_le b.min.y q.y && int_le q.y b.max.y) (int_le b.min.z q.z && int_le q.z b.max.z) h in
    (pair b.min.x q.x b.max.x t.0, pair b.min.y q.y b.max.y t.1, pair b.min.z q.z b.max.z t.2)
  where
    pair : (a x c : ℤ) → (int_le a x && int_le x c) ≡ true → (a ≤ℤ x) × (x ≤ℤ c)
    pair a x c h = let s = both (int_le a x) (int_le x c) h in (le_from_test a x s.0, le_from_test x c s.1)

pub inside_from : (b : Box) (q : Coord) → b.min.x ≤ℤ q.x → q.x ≤ℤ b.max.x → b.min.y ≤ℤ q.y → q.y ≤ℤ b.max.y → b.min.z ≤ℤ q.z → q.z ≤ℤ b.max.z → is_inside b q ≡ true
inside_from b q a c d e f g =
    let pair : (a x c : ℤ) → a ≤ℤ x → x ≤ℤ c → (int_le a x && int_le x c) ≡ true = λ a x c h k. rw (test_from_le a x h, test_from_le x c k) refl in
    together _ _ _ (pair b.min.x q.x b.max.x a c) (pair b.min.y q.y b.max.y d e) (pair b.min.z q.z b.max.z f g)

module _ (bits : Bits) (level : Level) (b : Box) (p : Coord) (inside : is_inside b p ≡ true) where
  abbrev k : ℕ
  k = block_bits bits level

  abbrev last : ℤ → ℤ
  last x = last_of k (number_at k x)

  parts : ((b.min.x ≤ℤ p.x) × (p.x ≤ℤ b.max.x)) × ((b.min.y ≤ℤ p.y) × (p.y ≤ℤ b.max.y)) × ((b.min.z ≤ℤ p.z) × (p.z ≤ℤ b.max.z))
  parts = inside_parts b p inside

  -- along z
  pub next_z : last p.z <ℤ b.max.z → IsNextBlock bits level b p (Some (coord p.x p.y (last p.z +ℤ pos 1)))
  next_z h =
      let own = own_end k p.z in
      let low = parts.2.0 in (
        inside_from b (coord p.x p.y (last p.z +ℤ pos 1)) parts.0.0 parts.0.1 parts.1.0 parts.1.1 (omega (arith, ints, own, low)) (omega (arith, ints, h)),
        inr (refl, inr (refl, behind_above k p.z)),
        λ q _ before. elim before [
          | inl x ↦ inl (inl x)
          | inr r ↦ elim r.1 [
            | inl y ↦ inl (inr (r.0, inl y))
            | inr s ↦ up_to_z (block_number bits level q) (block_number bits level p) r.0 s.0 (before_behind k p.z q.z s.1)
          ]
        ],
      )

  -- along y
  pub next_y : b.max.z ≤ℤ last p.z → last p.y <ℤ b.max.y → IsNextBlock bits level b p (Some (coord p.x (last p.y +ℤ pos 1) b.min.z))
  next_y covered h =
      let own = own_end k p.y in
      let low = parts.1.0 in
      let range = parts.2 in (
        inside_from b (coord p.x (last p.y +ℤ pos 1) b.min.z) parts.0.0 parts.0.1 (omega (arith, ints, own, low)) (omega (arith, ints, h)) (omega (arith, ints)) (omega (arith, ints, range.0, range.1)),
        inr (refl, inl (behind_above k p.y)),
        λ q in_box before.
            let at = inside_parts b q in_box in
            let high = at.2.1 in
            let z : number_at k q.z ≤ℤ number_at k p.z = up_to_end k p.z q.z (omega (arith, ints, high, covered)) in
            elim before [
              | inl x ↦ inl (inl x)
              | inr r ↦ elim r.1 [
                | inl y ↦ up_to_y (block_number bits level q) (block_number bits level p) r.0 (before_behind k p.y q.y y) z
                | inr s ↦ absurd (no_less (number_mono k b.min.z q.z at.2.0) s.1)
              ]
            ],
      )

  -- along x
  pub next_x : b.max.z ≤ℤ last p.z → b.max.y ≤ℤ last p.y → last p.x <ℤ b.max.x → IsNextBlock bits level b p (Some (coord (last p.x +ℤ pos 1) b.min.y b.min.z))
  next_x high_z high_y h =
      let own = own_end k p.x in
      let low = parts.0.0 in
      let ys = parts.1 in
      let zs = parts.2 in (
        inside_from b (coord (last p.x +ℤ pos 1) b.min.y b.min.z) (omega (arith, ints, own, low)) (omega (arith, ints, h)) (omega (arith, ints)) (omega (arith, ints, ys.0, ys.1)) (omega (arith, ints)) (omega (arith, ints, zs.0, zs.1)),
        inl (behind_above k p.x),
        λ q in_box before.
            let at = inside_parts b q in_box in
            let y = at.1.1 in
            let z = at.2.1 in
            elim before [
              | inl x ↦ up_to_x (block_number bits level q) (block_number bits level p) (before_behind k p.x q.x x) (up_to_end k p.y q.y (omega (arith, ints, y, high_y))) (up_to_end k p.z q.z (omega (arith, ints, z, high_z)))
              | inr r ↦ elim r.1 [
                | inl less ↦ absurd (no_less (number_mono k b.min.y q.y at.1.0) less)
                | inr s ↦ absurd (no_less (number_mono k b.min.z q.z at.2.0) s.1)
              ]
            ],
      )

  -- no further block
  pub no_next : b.max.z ≤ℤ last p.z → b.max.y ≤ℤ last p.y → b.max.x ≤ℤ last p.x → IsNextBlock bits level b p None
  no_next high_z high_y high_x = λ q in_box.
      let at = inside_parts b q in_box in
      let x = at.0.1 in
      let y = at.1.1 in
      let z = at.2.1 in
      up_to_x (block_number bits level q) (block_number bits level p) (up_to_end k p.x q.x (omega (arith, ints, x, high_x))) (up_to_end k p.y q.y (omega (arith, ints, y, high_y)))
      (up_to_end k p.z q.z (omega (arith, ints, z, high_z)))

-- ---- how many coordinates come after

abbrev after : ℤ → ℕ
after x = unsigned_abs (pos 2147483647 -ℤ x)

fewer_after : (z w : ℤ) → z <ℤ w → w ≤ℤ pos 2147483647 → after w < after z
fewer_after z w h k = grind (arith, ints)

pub few_after : (z : ℤ) → SFits w32 z → after z < 2 ^ 32
few_after z h = grind (arith, ints)

module _ (p q : Coord) (high_x : q.x ≤ℤ pos 2147483647) (high_y : q.y ≤ℤ pos 2147483647) (high_z : q.z ≤ℤ pos 2147483647) (few_y : after q.y < 2 ^ 32) (few_z : after q.z < 2 ^ 32) where
  pub nearer_z : p.x ≡ q.x → p.y ≡ q.y → p.z <ℤ q.z → coordinates_after q < coordinates_after p
  nearer_z x y h = let f = fewer_after p.z q.z h high_z in rw (x, y) (omega (arith, f))

  pub nearer_y : p.x ≡ q.x → p.y <ℤ q.y → coordinates_after q < coordinates_after p
  nearer_y x h = let f = fewer_after p.y q.y h high_y in rw x (omega (arith, f, few_z))

  pub nearer_x : p.x <ℤ q.x → coordinates_after q < coordinates_after p
  nearer_x h = let f = fewer_after p.x q.x h high_x in omega (arith, f, few_y, few_z)

-- ---- the start of a walk

-- a box holds its least corner
pub min_inside : (b : Box) → is_box b ≡ true → is_inside b b.min ≡ true
min_inside b h =
    let t = three (int_le b.min.x b.max.x) (int_le b.min.y b.max.y) (int_le b.min.z b.max.z) h in
    let self : (x : ℤ) → x ≤ℤ x = λ x. omega (arith, ints) in
    inside_from b b.min (self b.min.x) (le_from_test _ _ t.0) (self b.min.y) (le_from_test _ _ t.1) (self b.min.z) (le_from_test _ _ t.2)

-- no coordinate of a box lies in a block before that of its least corner
pub none_before : (bits : Bits) (level : Level) (b : Box) (q : Coord) → is_inside b q ≡ true → IsBlockBefore bits level q b.min → ⊥
none_before bits level b q inside before =
    let k = block_bits bits level in
    let at = inside_parts b q inside in
    elim before [
      | inl x ↦ no_less (number_mono k b.min.x q.x at.0.0) x
      | inr r ↦ elim r.1 [
        | inl y ↦ no_less (number_mono k b.min.y q.y at.1.0) y
        | inr s ↦ no_less (number_mono k b.min.z q.z at.2.0) s.1
      ]
    ]
