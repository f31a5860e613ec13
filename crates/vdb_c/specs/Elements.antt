-- Arrays that have a box of voxels.
use Rattle.std.specs.Prelude.{◌≡◌, ◌≢◌, ◌⊎◌, ◌+◌, ◌*◌, ◌<◌, ◌||◌, ◌&&◌, ℕ, Bool, IsTrue, List, length, get_or, nat_eq, nat_lt}
use Rattle.std.specs.Int.{int_gap}
use Rattle.vdb_coord.specs.Space.{Box}
use Rattle.vdb_coord.specs.declared.Coord.{Coord}
use Rattle.vdb_c.specs.declared.boxes.elements.Axis.{Axis}
use Rattle.vdb_c.specs.declared.boxes.elements.Strides.{Strides}

-- how many elements lie from the least corner of a box to the greatest one along an axis
abbrev pub span : Axis → ℕ
span a = a.gap * a.stride

-- whether a step along an axis passes this many elements, or the box is one voxel wide along it
abbrev pub is_past : Axis → ℕ → Bool
is_past a last = nat_eq a.gap 0 || nat_lt last a.stride

-- whether a step along each axis passes all elements of the axes before it
abbrev pub are_nested : Axis → Axis → Axis → Bool
are_nested a b c = is_past a 0 && is_past b (span a) && is_past c (span a + span b)

module _ (b : Box) (s : Strides) where
  -- the element of a voxel: along each axis as many strides past that of the least corner as it is voxels past it
  abbrev pub place : Coord → ℕ
  place p = int_gap b.min.x p.x * s.x + (int_gap b.min.y p.y * s.y + int_gap b.min.z p.z * s.z)

  -- the axes
  abbrev pub axis_x : Axis
  axis_x = record { gap = int_gap b.min.x b.max.x; stride = s.x }

  abbrev pub axis_y : Axis
  axis_y = record { gap = int_gap b.min.y b.max.y; stride = s.y }

  abbrev pub axis_z : Axis
  axis_z = record { gap = int_gap b.min.z b.max.z; stride = s.z }

  -- whether the axes are nested in some order, so that no two voxels share an element
  abbrev pub are_apart : Bool
  are_apart =
      are_nested axis_z axis_y axis_x || are_nested axis_y axis_z axis_x || are_nested axis_z axis_x axis_y || are_nested axis_x axis_z axis_y || are_nested axis_y axis_x axis_z || are_nested axis_x axis_y axis_z

  -- whether an array of this length has an element for each voxel, or is empty
  abbrev pub has_places : ℕ → Bool
  has_places len = nat_eq len 0 || nat_lt (place b.max) len

  -- an array has what these voxels have, each at its element, and all other elements stay; an empty array stays so
  pub record IsLaid {X : Type 0} (within : Coord → Bool) (of : Coord → X) (old new : List X) : Type 0 where
    pub size : length new ≡ length old
    pub voxels : (p : Coord) (d : X) → IsTrue (within p) → place p < length old → get_or new (place p) d ≡ of p
    pub others : (i : ℕ) (d : X) → ((p : Coord) → IsTrue (within p) → place p ≢ i) → get_or new i d ≡ get_or old i d

-- each of these elements of an array has one that belongs to it in another array, and every other stays
pub record IsCopied {I X : Type 0} (Within : I → Type 0) (source target : I → ℕ) (from old new : List X) : Type 0 where
  pub size : length new ≡ length old
  pub each : (i : ℕ)
      → ((n : I) × Within n × (target n ≡ i) × ((d : X) → get_or new i d ≡ get_or from (source n) d)) ⊎ (((n : I) → Within n → target n ≢ i) × ((d : X) → get_or new i d ≡ get_or old i d))
