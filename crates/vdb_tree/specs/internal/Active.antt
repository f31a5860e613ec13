-- Active voxels of a block, and how a call passes over the entries of a node that may hold some. Only the calls of this crate
-- speak of them.
use Rattle.std.specs.Prelude.{◌≡◌, ◌<◌, ◌≤◌, ℕ, true, false, Option, Some, None}
use Rattle.vdb_coord.specs.Blocks.{block_number, entries, offset}
use Rattle.vdb_coord.specs.declared.Bits.{Bits}
use Rattle.vdb_coord.specs.declared.Coord.{Coord}
use Rattle.vdb_coord.specs.declared.Level.{Level}
use Rattle.vdb_tree.specs.Field.{Field}

module _ {V : Type 0} (bits : Bits) (f : Field V) (level : Level) (p : Coord) where
  -- no voxel of p's block of the level is active at entries from one on and before another
  abbrev pub IsInactiveFrom : ℕ → ℕ → Type 0
  IsInactiveFrom from to = (q : Coord) → block_number bits level q ≡ block_number bits level p → from ≤ offset bits level q → offset bits level q < to → (f.cell q).on ≡ false

  -- no voxel is active at the entries from one on and before this one
  pub record IsNextActiveAt (from index : ℕ) : Type 0 where
    pub within : index < entries bits level
    pub from_on : from ≤ index
    pub before : IsInactiveFrom from index

  -- no voxel is active at the entries from one on: those before the returned index, or all up to the end if none is returned
  abbrev pub IsNextActive : ℕ → Option ℕ → Type 0
  IsNextActive from (Some index) = IsNextActiveAt from index
  IsNextActive from None = IsInactiveFrom from (entries bits level)

  -- a voxel of p's block of the level is active
  abbrev pub HasActive : Type 0
  HasActive = (q : Coord) × (block_number bits level q ≡ block_number bits level p) × ((f.cell q).on ≡ true)

  -- no voxel of p's block of the level is active
  abbrev pub IsInactive : Type 0
  IsInactive = (q : Coord) → block_number bits level q ≡ block_number bits level p → (f.cell q).on ≡ false

-- a count that may stop at a number: if it is less than that, it is all, and else all or fewer
abbrev pub IsCountTo : ℕ → ℕ → ℕ → Type 0
IsCountTo enough all counted = (counted ≤ all) × (counted < enough → counted ≡ all)
