-- Counts of the active voxels of boxes.
use Rattle.vdb_walk.proofs.Common.{◌≡◌, sym, ap, ◌∙◌, refl, ◌+◌, ◌≤◌, ◌^◌, Bool, true, false, not, ◌&&◌, ◌||◌, List, [], length, arith, IsTrue, filter, length-filter_both, length-filter, is_member-filter, length-from_same_keys, is_bounds, Box, coord_eq, coordinates, everywhere, is_box, is_inside, is_within, Coord, both, member_passing, count_by_members, distinct_filter, distinct_coordinates, within_each, coord_equiv, coord_exact, Field, count, IsHalved}
use Rattle.std.specs.List.{IsDistinct}
use Rattle.std.proofs.lemmas.List.Sums.{count_by-le-length}
use Rattle.std.proofs.lemmas.Map.Made.{length-le_from_is_member}
use Rattle.vdb_coord.specs.Space.{volume}
use Rattle.vdb_coord.proofs.Members.{member_coordinates}
use Rattle.vdb_coord.proofs.Volume.{length_coordinates}

-- ---- booleans

-- a voxel passes and lies in the first part
in_first : (b c d t : Bool) → b ≡ (c || d) → ((b && t) && c) ≡ (c && t)
in_first b true d true e = rw e refl
in_first b true d false e = rw e refl
in_first b false true true e = rw e refl
in_first b false true false e = rw e refl
in_first b false false t e = rw e refl

-- a voxel passes and doesn't lie in the first part
in_second : (b c d t : Bool) → b ≡ (c || d) → (c && d) ≡ false → ((b && t) && not c) ≡ (d && t)
in_second b true true t e f = cc
in_second b true false true e f = rw e refl
in_second b true false false e f = rw e refl
in_second b false true true e f = rw e refl
in_second b false true false e f = rw e refl
in_second b false false t e f = rw e refl

all_on : (i t : Bool) → (i ≡ true → t ≡ true) → i ≡ (i && t)
all_on true t h = sym (h refl)
all_on false t h = refl

pub none_on : (i t : Bool) → (i ≡ true → t ≡ false) → false ≡ (i && t)
none_on true t h = sym (h refl)
none_on false t h = refl

pub nothing_apart : IsDistinct coord_eq []
unfolding IsDistinct
nothing_apart = tt

-- ---- any test

module _ (t : Coord → Bool) where
  abbrev pub those : Box → List Coord
  those b = filter t (coordinates b)

  those_apart : (b : Box) → IsDistinct coord_eq (those b)
  those_apart b = distinct_filter coord_eq t (coordinates b) (distinct_coordinates b)

  -- the voxels of a box that lie in a part
  passing_within : (b c : Box) (s : Coord → Bool) → ((p : Coord) → ((is_inside b p && t p) && s p) ≡ (is_inside c p && t p)) → length (filter s (those b)) ≡ length (those c)
  passing_within b c s same =
      length-from_same_keys coord_equiv (filter s (those b)) (those c) (distinct_filter coord_eq s (those b) (those_apart b)) (those_apart c)
      (λ q. is_member-filter coord_equiv s q (λ x e. ap s (coord_exact q x e)) (those b) ∙ ap (λ i. i && s q) (member_passing b t q) ∙ same q ∙ sym (member_passing c t q))

  -- the voxels of a box are those of its halves
  pub halved : (b c d : Box) → IsHalved b c d → length (those b) ≡ length (those c) + length (those d)
  halved b c d h =
      let first = passing_within b c (is_inside c) (λ p. in_first (is_inside b p) (is_inside c p) (is_inside d p) (t p) (h.each p)) in
      let second = passing_within b d (λ p. not (is_inside c p)) (λ p. in_second (is_inside b p) (is_inside c p) (is_inside d p) (t p) (h.each p) (h.apart p)) in
      let whole = length-filter_both (is_inside c) (λ p. not (is_inside c p)) (λ p. refl) (those b) in
      omega (arith, first, second, whole)

-- ---- active voxels

module _ {V : Type 0} (f : Field V) where
  abbrev on : Coord → Bool
  on p = (f.cell p).on

  counted : (b : Box) → count f b ≡ length (filter on (coordinates b))
  counted b = sym (length-filter on (coordinates b))

  -- the active voxels of a box are no more than its coordinates
  pub count_few : (b : Box) → count f b ≤ volume b
  count_few b = let few = count_by-le-length on (coordinates b) in let size = length_coordinates b in omega (arith, few, size)

  -- each voxel of the box is active
  pub count_all : (b : Box) → ((p : Coord) → IsTrue (is_inside b p) → (f.cell p).on ≡ true) → count f b ≡ volume b
  count_all b h =
      counted b
      ∙ count_by_members b on (coordinates b) (distinct_coordinates b) (λ p. member_coordinates b p ∙ all_on (is_inside b p) (on p) (h p))
      ∙ length_coordinates b

  -- no voxel of the box is active
  pub count_none : (b : Box) → ((p : Coord) → IsTrue (is_inside b p) → (f.cell p).on ≡ false) → count f b ≡ 0
  count_none b h = counted b ∙ count_by_members b on [] nothing_apart (λ p. none_on (is_inside b p) (on p) (h p))

-- ---- the greatest count

-- a box within the range has no more coordinates than the whole range
pub volume_few : (b : Box) → is_bounds b ≡ true → volume b ≤ 2 ^ 96
volume_few b h =
    let inside = (both (is_box b) (is_within b everywhere) h).1 in
    let few = length-le_from_is_member coord_equiv (coordinates b) (coordinates everywhere) (distinct_coordinates b)
    (λ q m. member_coordinates everywhere q ∙ within_each b everywhere q inside (sym (member_coordinates b q) ∙ m)) in
    let size = length_coordinates b in
    let all : length (coordinates everywhere) ≡ 2 ^ 96 = length_coordinates everywhere in
    omega (arith, few, size, all)
