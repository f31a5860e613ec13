-- The voxels of a leaf: their coordinates by entry, and the entries of voxels that follow one another along z.
use Rattle.vdb_walk.proofs.Common.{◌≡◌, ◌∙◌, sym, ap, subst, ℕ, ℤ, pos, ◌+◌, ◌-◌, ◌*◌, ◌<◌, ◌≤◌, ◌^◌, ◌+ℤ◌, ◌-ℤ◌, ◌≤ℤ◌, unsigned_abs, SFits, w32, true, arith, int_min, ints, pow_pos, block_around, offset, sub_block, digit, first_of, last_of, number_at, Box, coord, is_inside, Bits, Coord, Leaf, digit_is, number_zero, rest, rest_of, offset_is, inside_from, inside_parts, IsInFirstBlock}
use Rattle.std.proofs.Common.{◌/◌, ◌%◌}
use Rattle.std.proofs.Math.Nat.{div-div-eq-div-mul}
use Rattle.std.proofs.lemmas.Int.{clamps}
use Rattle.vdb_coord.proofs.Digits.{between_fits, first_fits, last_fits}
use Rattle.vdb_coord.proofs.Division.{parts}
use Rattle.vdb_coord.proofs.Walk.{own_end}
use Rattle.vdb_walk.proofs.VoxelSeeks.{same_entry}

-- ---- the voxel of an entry

-- a position in a block fits if the block does
pub position_fits : (bits : ℕ) (x : ℤ) (position : ℕ) → bits ≤ 5 → SFits w32 x → position < 2 ^ bits → SFits w32 (first_of bits (number_at bits x) +ℤ pos position)
position_fits bits x position few f less =
    let whole : bits ≤ 31 = omega (arith, few) in
    between_fits (first_of bits (number_at bits x)) (2 ^ bits - 1) position (first_fits bits x whole f) (last_fits bits x whole f) (omega (arith, less))

one_each : (k : ℕ) → k * 2 ^ 0 ≡ k
one_each k = omega arith

-- an entry's positions along each axis are those of its voxel
pub voxel_positions : (bits : Bits) (p : Coord) (i : ℕ) → let n = 2 ^ bits.leaf in let first : ℤ → ℤ = λ x. first_of bits.leaf (number_at bits.leaf x) in
    coord (first p.x +ℤ pos (i / n / n)) (first p.y +ℤ pos (i / n % n)) (first p.z +ℤ pos (i % n)) ≡ (sub_block bits Leaf (block_around bits Leaf p) i).min
voxel_positions bits p i =
    let n = 2 ^ bits.leaf in
    let first : ℤ → ℤ = λ x. first_of bits.leaf (number_at bits.leaf x) in
    let x : i / n / n ≡ i / (n * n) * 2 ^ 0 = div-div-eq-div-mul i n n ∙ sym (one_each (i / (n * n))) in
    let y : i / n % n ≡ i / n % n * 2 ^ 0 = sym (one_each (i / n % n)) in
    let z : i % n ≡ i % n * 2 ^ 0 = sym (one_each (i % n)) in
    λ j. coord (first p.x +ℤ pos (x j)) (first p.y +ℤ pos (y j)) (first p.z +ℤ pos (z j))

-- ---- along z

still_below : (y x : ℤ) (r k m : ℕ) → 0 < m → y +ℤ pos r ≡ x → (x +ℤ pos k) ≤ℤ (y +ℤ pos (m - 1)) → r + k < m
still_below y x r k m some e h = omega (arith, ints, some, e, h)

together : (y x : ℤ) (r k : ℕ) → y +ℤ pos r ≡ x → x +ℤ pos k ≡ y +ℤ pos (r + k)
together y x r k e = omega (arith, ints, e)

-- k numbers further in the same block, the position is k further
position_further : (b : ℕ) (x : ℤ) (k : ℕ) → (x +ℤ pos k) ≤ℤ last_of b (number_at b x) → digit 0 b (x +ℤ pos k) ≡ digit 0 b x + k
position_further b x k h =
    let m = 2 ^ b in
    let r = rest m x in
    let e = parts m x (pow_pos b) in
    let own : digit 0 b x ≡ r = digit_is 0 b x ∙ ap (rest m) (number_zero x) in
    let less : r + k < m = still_below _ x r k m (pow_pos b) e h in
    digit_is 0 b (x +ℤ pos k) ∙ ap (rest m) (number_zero (x +ℤ pos k) ∙ together _ x r k e) ∙ rest_of m (number_at b x) (r + k) less ∙ sym (ap (λ t. t + k) own)

regrouped : (a c k : ℕ) → a + (c + k) ≡ a + c + k
regrouped a c k = omega arith

-- k numbers further along z, the entry is k further
entry_further : (bits : Bits) (p : Coord) (k : ℕ) → (p.z +ℤ pos k) ≤ℤ last_of bits.leaf (number_at bits.leaf p.z) → offset bits Leaf (coord p.x p.y (p.z +ℤ pos k)) ≡ offset bits Leaf p + k
entry_further bits p k h =
    let n = 2 ^ bits.leaf in
    let d : ℤ → ℕ = digit 0 bits.leaf in
    let before = (d p.x * n + d p.y) * n in
    offset_is bits Leaf (coord p.x p.y (p.z +ℤ pos k)) ∙ ap (λ (t : ℕ). before + t) (position_further bits.leaf p.z k h) ∙ regrouped before (d p.z) k ∙ sym (ap (λ (t : ℕ). t + k) (offset_is bits Leaf p))

-- ---- voxels of two boxes

least_of : (x y z : ℤ) (k : ℕ) → x ≤ℤ y → x ≤ℤ z → k ≤ unsigned_abs (int_min y z -ℤ x) → ((x +ℤ pos k) ≤ℤ y) × ((x +ℤ pos k) ≤ℤ z)
least_of x y z k a b h = (grind (arith, ints, clamps), grind (arith, ints, clamps))

on_from : (y x : ℤ) (k : ℕ) → y ≤ℤ x → y ≤ℤ (x +ℤ pos k)
on_from y x k h = omega (arith, ints, h)

module _ (bits : Bits) (part other : Box) (block : IsInFirstBlock bits part) (p : Coord) (inside : is_inside part p ≡ true) (both : is_inside other p ≡ true) where
  -- a coordinate k further along z lies in both boxes
  further_inside : (k : ℕ) → k ≤ unsigned_abs (int_min part.max.z other.max.z -ℤ p.z)
      → (is_inside part (coord p.x p.y (p.z +ℤ pos k)) ≡ true) × (is_inside other (coord p.x p.y (p.z +ℤ pos k)) ≡ true)
  further_inside k h =
      let a = inside_parts part p inside in
      let b = inside_parts other p both in
      let ends = least_of p.z part.max.z other.max.z k a.2.1 b.2.1 h in (
        inside_from part (coord p.x p.y (p.z +ℤ pos k)) a.0.0 a.0.1 a.1.0 a.1.1 (on_from part.min.z p.z k a.2.0) ends.0,
        inside_from other (coord p.x p.y (p.z +ℤ pos k)) b.0.0 b.0.1 b.1.0 b.1.1 (on_from other.min.z p.z k b.2.0) ends.1,
      )

  -- the coordinate k further lies in the block of the part
  further_in_block : (k : ℕ) → is_inside part (coord p.x p.y (p.z +ℤ pos k)) ≡ true → (p.z +ℤ pos k) ≤ℤ last_of bits.leaf (number_at bits.leaf p.z)
  further_in_block k i =
      let z = p.z +ℤ pos k in
      let same : number_at bits.leaf z ≡ number_at bits.leaf p.z = ap (λ (t : Coord). t.z) (block (coord p.x p.y z) i ∙ sym (block p inside)) in
      subst (λ (t : ℤ). z ≤ℤ last_of bits.leaf t) same (own_end bits.leaf z)

  -- the entry of the coordinate k further is k further
  pub further_voxel : (k : ℕ) → k ≤ unsigned_abs (int_min part.max.z other.max.z -ℤ p.z)
      → (is_inside part (coord p.x p.y (p.z +ℤ pos k)) ≡ true) × (offset bits Leaf (coord p.x p.y (p.z +ℤ pos k)) ≡ offset bits Leaf p + k)
  further_voxel k h = let i = (further_inside k h).0 in (i, entry_further bits p k (further_in_block k i))

  -- a voxel of the part whose entry comes no further lies in the other box
  pub run_inside : (q : Coord) → is_inside part q ≡ true → offset bits Leaf p ≤ offset bits Leaf q
      → offset bits Leaf q < offset bits Leaf p + unsigned_abs (int_min part.max.z other.max.z -ℤ p.z) + 1 → is_inside other q ≡ true
  run_inside q i from to =
      let k = offset bits Leaf q - offset bits Leaf p in
      let at = further_inside k (omega (arith, from, to)) in
      let whole : offset bits Leaf p + k ≡ offset bits Leaf q = omega (arith, from) in
      let entry = (further_voxel k (omega (arith, from, to))).1 ∙ whole in
      subst (λ (t : Coord). is_inside other t ≡ true) (same_entry bits part block (coord p.x p.y (p.z +ℤ pos k)) q at.0 i entry) at.1
