-- Bounding boxes of coordinates. Only private functions and proofs use these definitions.
use Rattle.std.specs.Prelude.{◌≡◌, Bool, false, ◌&&◌, ◌||◌, List, Option, Some, None, IfSome, IsTrue}
use Rattle.vdb_coord.specs.Order.{ComesBefore}
use Rattle.vdb_coord.specs.Space.{Box, everywhere, is_box, is_inside}
use Rattle.vdb_coord.specs.declared.Bits.{Bits}
use Rattle.vdb_coord.specs.declared.Coord.{Coord}
use Rattle.vdb_tree.specs.Field.{Field}
use Rattle.vdb_tree.specs.Parts.{is_left}
use Rattle.vdb_walk.specs.Reports.{HoldsActive}
use Rattle.vdb_walk.specs.internal.Voxels.{is_set}

-- whether a box is given and holds the coordinate
abbrev pub is_in : Option Box → Coord → Bool
is_in None p = false
is_in (Some box) p = is_inside box p

-- whether the coordinate lies in the box found so far, or is an active voxel of the part
abbrev pub is_wanted : {V : Type 0} → Field V → Option Box → Box → Coord → Bool
is_wanted f found part p = is_in found p || (is_inside part p && (f.cell p).on)

-- the box holds each of these coordinates and lies within every box that does; none only if no coordinate is wanted
pub record Surrounds (wanted : Coord → Bool) (found : Option Box) : Type 0 where
  pub holds : (p : Coord) → IsTrue (wanted p) → IsTrue (is_in found p)
  pub least : (other : Box) → ((p : Coord) → IsTrue (wanted p) → IsTrue (is_inside other p)) → (p : Coord) → IsTrue (is_in found p) → IsTrue (is_inside other p)

-- whether the coordinate lies in the box found so far, or is a voxel of the leaf's part whose state is on
abbrev pub is_wanted_by : Bits → List Bool → Option Box → Box → Coord → Bool
is_wanted_by bits states found part p = is_in found p || (is_inside part p && is_set bits states p)

-- the box found so far, if any, holds everything from p on that comes before `next`
abbrev pub IsFoundBetween : Bits → Coord → Coord → Option Box → Type 0
IsFoundBetween bits p next found = (q : Coord) → IsTrue (is_inside everywhere q) → (ComesBefore bits q p → ⊥) → ComesBefore bits q next → IsTrue (is_in found q)

-- the box found so far holds each active voxel before this coordinate, or each of all, and lies within every box that holds all
pub record IsFoundTo {V : Type 0} (bits : Bits) (f : Field V) (at : Option Coord) (found : Option Box) : Type 0 where
  pub holds : (p : Coord) → IsTrue (f.cell p).on → is_left bits at p ≡ false → IsTrue (is_in found p)
  pub least : (other : Box) → HoldsActive f other → (p : Coord) → IsTrue (is_in found p) → IsTrue (is_inside other p)
  pub order : IfSome found (λ box. IsTrue (is_box box))
