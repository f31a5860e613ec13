-- The half of all coordinates that lies past a face of a box.
use Rattle.vdb_region.proofs.Common.{◌≡◌, ◌∙◌, sym, refl, ap, true, false, Bool, not, ◌&&◌, ◌||◌, int_le, arith, None, int_lt, list_any, box_of, is_bounds, faces, Box, everywhere, is_between, is_box, is_inside, is_within, Coord, Face, MinusX, PlusX, MinusY, PlusY, MinusZ, PlusZ, both, box_from_inside, three, never, half, is_beyond}
use Rattle.std.proofs.Common.{ℤ, pos, negsuc, ◌+ℤ◌, ◌-ℤ◌, ◌≤ℤ◌}
use Rattle.std.proofs.lemmas.Int.{ints}
use Rattle.vdb_coord.proofs.Boxes.{box_of_none, not_true}
use Rattle.vdb_coord.proofs.Meeting.{le_from_test}

abbrev low : ℤ
low = negsuc 2147483647

abbrev high : ℤ
high = pos 2147483647

-- the numbers below a number, and those above it
below : (a x : ℤ) → a ≤ℤ high → is_between low (a -ℤ pos 1) x ≡ (is_between low high x && int_lt x a)
below a x h = grind (arith, ints)

above : (a x : ℤ) → low ≤ℤ a → is_between (a +ℤ pos 1) high x ≡ (is_between low high x && int_lt a x)
above a x h = grind (arith, ints)

along_x : (x t y z : Bool) → ((x && t) && y && z) ≡ ((x && y && z) && t)
along_x true true true true = refl
along_x true true true false = refl
along_x true true false z = refl
along_x true false true true = refl
along_x true false true false = refl
along_x true false false z = refl
along_x false t y z = refl

along_y : (x y t z : Bool) → (x && (y && t) && z) ≡ ((x && y && z) && t)
along_y false y t z = refl
along_y true false t z = refl
along_y true true true true = refl
along_y true true true false = refl
along_y true true false true = refl
along_y true true false false = refl

along_z : (x y z t : Bool) → (x && y && (z && t)) ≡ ((x && y && z) && t)
along_z false y z t = refl
along_z true false z t = refl
along_z true true z t = refl

-- the range of a box's corners
module _ (b : Box) (bounds : is_bounds b ≡ true) where
  corners : (is_inside everywhere b.min ≡ true) × (is_inside everywhere b.max ≡ true)
  corners = both (is_inside everywhere b.min) (is_inside everywhere b.max) (both (is_box b) (is_within b everywhere) bounds).1

  component : (p : Coord) → is_inside everywhere p ≡ true → ((low ≤ℤ p.x) × (p.x ≤ℤ high)) × ((low ≤ℤ p.y) × (p.y ≤ℤ high)) × ((low ≤ℤ p.z) × (p.z ≤ℤ high))
  component p h =
      let t = three (is_between low high p.x) (is_between low high p.y) (is_between low high p.z) h in
      (pair p.x t.0, pair p.y t.1, pair p.z t.2)
    where
      pair : (x : ℤ) → is_between low high x ≡ true → (low ≤ℤ x) × (x ≤ℤ high)
      pair x h = let s = both (int_le low x) (int_le x high) h in (le_from_test low x s.0, le_from_test x high s.1)

  -- the coordinates of a half are those beyond the face
  pub half_inside : (face : Face) (q : Coord) → is_inside (half b face) q ≡ (is_inside everywhere q && is_beyond b q face)
  half_inside MinusX q =
      let y = is_between low high q.y in
      let z = is_between low high q.z in
      ap (λ t. t && y && z) (below b.min.x q.x (component b.min corners.0).0.1) ∙ along_x (is_between low high q.x) (int_lt q.x b.min.x) y z
  half_inside PlusX q =
      let y = is_between low high q.y in
      let z = is_between low high q.z in
      ap (λ t. t && y && z) (above b.max.x q.x (component b.max corners.1).0.0) ∙ along_x (is_between low high q.x) (int_lt b.max.x q.x) y z
  half_inside MinusY q =
      let x = is_between low high q.x in
      let z = is_between low high q.z in
      ap (λ t. x && t && z) (below b.min.y q.y (component b.min corners.0).1.1) ∙ along_y x (is_between low high q.y) (int_lt q.y b.min.y) z
  half_inside PlusY q =
      let x = is_between low high q.x in
      let z = is_between low high q.z in
      ap (λ t. x && t && z) (above b.max.y q.y (component b.max corners.1).1.0) ∙ along_y x (is_between low high q.y) (int_lt b.max.y q.y) z
  half_inside MinusZ q =
      let x = is_between low high q.x in
      let y = is_between low high q.y in
      ap (λ t. x && y && t) (below b.min.z q.z (component b.min corners.0).2.1) ∙ along_z x y (is_between low high q.z) (int_lt q.z b.min.z)
  half_inside PlusZ q =
      let x = is_between low high q.x in
      let y = is_between low high q.y in
      ap (λ t. x && y && t) (above b.max.z q.z (component b.max corners.1).2.0) ∙ along_z x y (is_between low high q.z) (int_lt b.max.z q.z)

  -- if there is no half, nothing lies beyond the face
  pub no_half : (face : Face) → box_of (half b face).min (half b face).max ≡ None → (q : Coord) → (is_inside everywhere q && is_beyond b q face) ≡ false
  no_half face none q =
      let outside : is_inside (half b face) q ≡ false = not_true (is_inside (half b face) q) (λ h. never (box_of_none (half b face).min (half b face).max none) (box_from_inside (half b face) q h)) in
      sym (half_inside face q) ∙ outside

-- ---- all six

pub not_le : (a x : ℤ) → int_lt x a ≡ not (int_le a x)
not_le a x = grind (arith, ints)

one_axis : (a c : Bool) (x y : Bool) → x ≡ not y → (not a || (not c || x)) ≡ not ((a && c) && y)
one_axis true true x y h = h
one_axis true false x y h = refl
one_axis false c x y h = refl

last_axis : (a c : Bool) → (not a || (not c || false)) ≡ not (a && c)
last_axis true true = refl
last_axis true false = refl
last_axis false c = refl

all_three : (a b c : Bool) → (a && (b && c)) ≡ (a && b && c)
all_three true b c = refl
all_three false b c = refl

-- a coordinate that lies beyond some face lies outside, and the other way round
pub beyond_all : (b : Box) (q : Coord) → list_any (is_beyond b q) faces ≡ not (is_inside b q)
beyond_all b q =
    let tests : list_any (is_beyond b q) faces ≡ (not (int_le b.min.x q.x) || (not (int_le q.x b.max.x) || (not (int_le b.min.y q.y) || (not (int_le q.y b.max.y) || (not (int_le b.min.z q.z) || (not (int_le q.z b.max.z) || false)))))) =
    (λ i. not_le b.min.x q.x i || (not_le q.x b.max.x i || (not_le b.min.y q.y i || (not_le q.y b.max.y i || (not_le b.min.z q.z i || (not_le q.z b.max.z i || false)))))) in
    let x = is_between b.min.x b.max.x q.x in
    let y = is_between b.min.y b.max.y q.y in
    let z = is_between b.min.z b.max.z q.z in
    tests ∙ one_axis (int_le b.min.x q.x) (int_le q.x b.max.x) _ (y && z)
    (one_axis (int_le b.min.y q.y) (int_le q.y b.max.y) _ z (last_axis (int_le b.min.z q.z) (int_le q.z b.max.z)))
    ∙ ap not (all_three x y z)
