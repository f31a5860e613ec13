-- The voxels of a leaf in a box, by the states of the leaf. Only contracts of this crate use these definitions.
use Rattle.std.specs.Prelude.{◌≡◌, ◌≤◌, ◌<◌, ℕ, Bool, true, false, List, Option, Some, None, IsTrue, count_by}
use Rattle.vdb_coord.specs.Blocks.{block_number, offset}
use Rattle.vdb_coord.specs.Space.{Box, coordinates, is_inside}
use Rattle.vdb_coord.specs.declared.Bits.{Bits}
use Rattle.vdb_coord.specs.declared.Coord.{Coord}
use Rattle.vdb_coord.specs.declared.Level.TheVariants.{Leaf}
use Rattle.vdb_mask.specs.Mask.{is_on}

-- the box lies in the leaf block around its least corner
abbrev pub IsInFirstBlock : Bits → Box → Type 0
IsInFirstBlock bits box = (q : Coord) → IsTrue (is_inside box q) → block_number bits Leaf q ≡ block_number bits Leaf box.min

module _ (bits : Bits) (states : List Bool) where
  -- whether the voxel's state is on
  abbrev pub is_set : Coord → Bool
  is_set p = is_on states (offset bits Leaf p)

  -- how many voxels of the box have their states on
  abbrev pub set_count : Box → ℕ
  set_count box = count_by is_set (coordinates box)

  -- p, at this entry, is the first voxel of the box from the entry `from` on whose state is on
  pub record IsNextSetAt (box : Box) (from entry : ℕ) (p : Coord) : Type 0 where
    pub from_on : from ≤ entry
    pub inside : IsTrue (is_inside box p)
    pub at : offset bits Leaf p ≡ entry
    pub here : is_set p ≡ true
    pub before : (q : Coord) → IsTrue (is_inside box q) → from ≤ offset bits Leaf q → offset bits Leaf q < entry → is_set q ≡ false

  -- the entry and the voxel found; none if no such state is on
  abbrev pub IsNextSet : Box → ℕ → Option (ℕ × Coord) → Type 0
  IsNextSet box from (Some next) = IsNextSetAt box from next.0 next.1
  IsNextSet box from None = (q : Coord) → IsTrue (is_inside box q) → from ≤ offset bits Leaf q → is_set q ≡ false
