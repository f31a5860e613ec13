-- A box cut in two along an axis.
use Rattle.vdb_walk.proofs.Common.{◌≡◌, refl, ◌<◌, ℤ, pos, ◌-ℤ◌, ◌≤ℤ◌, ◌<ℤ◌, Bool, true, false, not, ◌&&◌, ◌||◌, int_le, SFits, arith, of_z, to_z, w32, unsigned_abs, ints, to_z-of_z, Box, coord, is_between, is_box, Coord, both, three, together, test_from_le, IsHalved}
use Rattle.std.specs.Ordering.{int_eq}

-- the part of a box below a number along an axis, and the part from that number on
abbrev pub below_x : Box → ℤ → Box
below_x b x = record { min = b.min; max = coord (x -ℤ pos 1) b.max.y b.max.z }

abbrev pub from_x : Box → ℤ → Box
from_x b x = record { min = coord x b.min.y b.min.z; max = b.max }

abbrev pub below_y : Box → ℤ → Box
below_y b y = record { min = b.min; max = coord b.max.x (y -ℤ pos 1) b.max.z }

abbrev pub from_y : Box → ℤ → Box
from_y b y = record { min = coord b.min.x y b.min.z; max = b.max }

abbrev pub below_z : Box → ℤ → Box
below_z b z = record { min = b.min; max = coord b.max.x b.max.y (z -ℤ pos 1) }

abbrev pub from_z : Box → ℤ → Box
from_z b z = record { min = coord b.min.x b.min.y z; max = b.max }

-- ---- along one axis

either_part : (low high at v : ℤ) → low <ℤ at → at ≤ℤ high → is_between low high v ≡ (is_between low (at -ℤ pos 1) v || is_between at high v)
either_part low high at v h k = grind (arith, ints)

one_part : (low high at v : ℤ) → (is_between low (at -ℤ pos 1) v && is_between at high v) ≡ false
one_part low high at v = grind (arith, ints)

low_less : (low high at : ℤ) → low <ℤ at → at ≤ℤ high → unsigned_abs (at -ℤ pos 1 -ℤ low) < unsigned_abs (high -ℤ low)
low_less low high at h k = grind (arith, ints)

high_less : (low high at : ℤ) → low <ℤ at → at ≤ℤ high → unsigned_abs (high -ℤ at) < unsigned_abs (high -ℤ low)
high_less low high at h k = grind (arith, ints)

low_ordered : (low high at : ℤ) → low <ℤ at → int_le low (at -ℤ pos 1) ≡ true
low_ordered low high at h = grind (arith, ints)

-- ---- booleans

split_x : (x l h y z : Bool) → x ≡ (l || h) → (x && y && z) ≡ ((l && y && z) || (h && y && z))
split_x x true true true true e = rw e refl
split_x x true true true false e = rw e refl
split_x x true true false z e = rw e refl
split_x x true false true true e = rw e refl
split_x x true false true false e = rw e refl
split_x x true false false z e = rw e refl
split_x x false h y z e = rw e refl

split_y : (x y l h z : Bool) → y ≡ (l || h) → (x && y && z) ≡ ((x && l && z) || (x && h && z))
split_y true y true true true e = rw e refl
split_y true y true true false e = rw e refl
split_y true y true false true e = rw e refl
split_y true y true false false e = rw e refl
split_y true y false h z e = rw e refl
split_y false y l h z e = refl

split_z : (x y z l h : Bool) → z ≡ (l || h) → (x && y && z) ≡ ((x && y && l) || (x && y && h))
split_z true true z l h e = e
split_z true false z l h e = refl
split_z false y z l h e = refl

apart_x : (l h y z : Bool) → (l && h) ≡ false → ((l && y && z) && (h && y && z)) ≡ false
apart_x true true y z e = cc
apart_x true false true true e = refl
apart_x true false true false e = refl
apart_x true false false z e = refl
apart_x false h y z e = refl

apart_y : (x l h z : Bool) → (l && h) ≡ false → ((x && l && z) && (x && h && z)) ≡ false
apart_y true true true z e = cc
apart_y true true false true e = refl
apart_y true true false false e = refl
apart_y true false h z e = refl
apart_y false l h z e = refl

apart_z : (x y l h : Bool) → (l && h) ≡ false → ((x && y && l) && (x && y && h)) ≡ false
apart_z true true l h e = e
apart_z true false l h e = refl
apart_z false y l h e = refl

-- ---- boxes

module _ (b : Box) (at : ℤ) where
  module _ (low : b.min.x <ℤ at) (high : at ≤ℤ b.max.x) where
    pub cut_x : IsHalved b (below_x b at) (from_x b at)
    cut_x = record {
      each = λ p. split_x _ _ _ (is_between b.min.y b.max.y p.y) (is_between b.min.z b.max.z p.z) (either_part b.min.x b.max.x at p.x low high);
      apart = λ p. apart_x _ _ (is_between b.min.y b.max.y p.y) (is_between b.min.z b.max.z p.z) (one_part b.min.x b.max.x at p.x);
      first_less = let l = low_less b.min.x b.max.x at low high in omega (arith, l);
      second_less = let l = high_less b.min.x b.max.x at low high in omega (arith, l);
    }

    pub boxes_x : is_box b ≡ true → (is_box (below_x b at) ≡ true) × (is_box (from_x b at) ≡ true)
    boxes_x h =
        let t = three (int_le b.min.x b.max.x) (int_le b.min.y b.max.y) (int_le b.min.z b.max.z) h in
        (together _ _ _ (low_ordered b.min.x b.max.x at low) t.1 t.2, together _ _ _ (test_from_le at b.max.x high) t.1 t.2)

  module _ (low : b.min.y <ℤ at) (high : at ≤ℤ b.max.y) where
    pub cut_y : IsHalved b (below_y b at) (from_y b at)
    cut_y = record {
      each = λ p. split_y (is_between b.min.x b.max.x p.x) _ _ _ (is_between b.min.z b.max.z p.z) (either_part b.min.y b.max.y at p.y low high);
      apart = λ p. apart_y (is_between b.min.x b.max.x p.x) _ _ (is_between b.min.z b.max.z p.z) (one_part b.min.y b.max.y at p.y);
      first_less = let l = low_less b.min.y b.max.y at low high in omega (arith, l);
      second_less = let l = high_less b.min.y b.max.y at low high in omega (arith, l);
    }

    pub boxes_y : is_box b ≡ true → (is_box (below_y b at) ≡ true) × (is_box (from_y b at) ≡ true)
    boxes_y h =
        let t = three (int_le b.min.x b.max.x) (int_le b.min.y b.max.y) (int_le b.min.z b.max.z) h in
        (together _ _ _ t.0 (low_ordered b.min.y b.max.y at low) t.2, together _ _ _ t.0 (test_from_le at b.max.y high) t.2)

  module _ (low : b.min.z <ℤ at) (high : at ≤ℤ b.max.z) where
    pub cut_z : IsHalved b (below_z b at) (from_z b at)
    cut_z = record {
      each = λ p. split_z (is_between b.min.x b.max.x p.x) (is_between b.min.y b.max.y p.y) _ _ _ (either_part b.min.z b.max.z at p.z low high);
      apart = λ p. apart_z (is_between b.min.x b.max.x p.x) (is_between b.min.y b.max.y p.y) _ _ (one_part b.min.z b.max.z at p.z);
      first_less = let l = low_less b.min.z b.max.z at low high in omega (arith, l);
      second_less = let l = high_less b.min.z b.max.z at low high in omega (arith, l);
    }

    pub boxes_z : is_box b ≡ true → (is_box (below_z b at) ≡ true) × (is_box (from_z b at) ≡ true)
    boxes_z h =
        let t = three (int_le b.min.x b.max.x) (int_le b.min.y b.max.y) (int_le b.min.z b.max.z) h in
        (together _ _ _ t.0 t.1 (low_ordered b.min.z b.max.z at low), together _ _ _ t.0 t.1 (test_from_le at b.max.z high))

-- the number before x, if x isn't the least of 32 bits
pub lowered : (x m : ℤ) → SFits w32 x → SFits w32 m → m <ℤ x → to_z w32 (of_z w32 (to_z w32 (of_z w32 x) -ℤ pos 1)) ≡ x -ℤ pos 1
lowered x m fx fm h = let fits : SFits w32 (x -ℤ pos 1) = grind (arith, ints) in simp to_z-of_z

-- boxes are equal if their corners are
pub same_boxes : (b c : Box) → let same : Coord → Coord → Bool = λ p q. int_eq p.x q.x && (int_eq p.y q.y && int_eq p.z q.z) in false ≡ not (same b.min c.min && same b.max c.max) → b ≡ c
same_boxes b c h =
    let same : Coord → Coord → Bool = λ p q. int_eq p.x q.x && (int_eq p.y q.y && int_eq p.z q.z) in
    let corners = both (same b.min c.min) (same b.max c.max) (unturned _ h) in
    let min = corner b.min c.min corners.0 in
    let max = corner b.max c.max corners.1 in
    λ i. record { min = min i; max = max i }
  where
    unturned : (t : Bool) → false ≡ not t → t ≡ true
    unturned true e = refl
    unturned false e = cc

    one : (x y : ℤ) → int_eq x y ≡ true → x ≡ y
    one x y e = grind (arith, ints)

    corner : (p q : Coord) → (int_eq p.x q.x && (int_eq p.y q.y && int_eq p.z q.z)) ≡ true → p ≡ q
    corner p q e =
        let first = both (int_eq p.x q.x) (int_eq p.y q.y && int_eq p.z q.z) e in
        let rest = both (int_eq p.y q.y) (int_eq p.z q.z) first.1 in
        let x = one p.x q.x first.0 in
        let y = one p.y q.y rest.0 in
        let z = one p.z q.z rest.1 in
        λ i. record { x = x i; y = y i; z = z i }
