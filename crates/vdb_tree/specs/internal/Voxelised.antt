-- How the active tiles of a box become leaves, coordinate by coordinate in block order. Only the calls of this crate speak of it.
use Rattle.std.specs.Prelude.{◌≡◌, ◌⊎◌, true, false, Option, IsTrue}
use Rattle.vdb_coord.specs.Blocks.{block_number}
use Rattle.vdb_coord.specs.Order.{ComesBefore}
use Rattle.vdb_coord.specs.Space.{Box, is_inside}
use Rattle.vdb_coord.specs.declared.Bits.{Bits}
use Rattle.vdb_coord.specs.declared.Coord.{Coord}
use Rattle.vdb_coord.specs.declared.Level.{Level}
use Rattle.vdb_tree.specs.Layout.{Layout, field_of}
use Rattle.vdb_tree.specs.Parts.{is_left}
use Rattle.vdb_tree.specs.Paths.{in_leaf}

module _ {V : Type 0} (bits : Bits) (t : Layout V) where
  -- each active voxel of the level's block around p lies in a leaf
  abbrev pub IsVoxelisedAround : Level → Coord → Type 0
  IsVoxelisedAround level p = (q : Coord) → block_number bits level q ≡ block_number bits level p → ((field_of bits t).cell q).on ≡ true → IsTrue (in_leaf bits t q)

module _ {V : Type 0} (bits : Bits) (t : Layout V) (box : Box) where
  -- each active voxel of the box that comes before what is left lies in a leaf
  abbrev pub IsVoxelisedTo : Option Coord → Type 0
  IsVoxelisedTo next = (q : Coord) → IsTrue (is_inside box q) → is_left bits next q ≡ false → ((field_of bits t).cell q).on ≡ true → IsTrue (in_leaf bits t q)

  -- each active voxel of the box that isn't left and doesn't come before p lies in a leaf
  abbrev pub IsVoxelisedFrom : Coord → Option Coord → Type 0
  IsVoxelisedFrom p next =
      (q : Coord) → IsTrue (is_inside box q) → is_left bits next q ≡ false → ((field_of bits t).cell q).on ≡ true
      → ComesBefore bits q p ⊎ IsTrue (in_leaf bits t q)
