-- Blocks of one cell, and how a test for one passes over the entries of a node.
use Rattle.std.specs.Prelude.{◌≡◌, ◌<◌, ◌≤◌, ℕ, Option, Some, None, IsTrue}
use Rattle.vdb_coord.specs.Blocks.{block_number, entries, offset}
use Rattle.vdb_coord.specs.Space.{everywhere, is_inside}
use Rattle.vdb_coord.specs.declared.Bits.{Bits}
use Rattle.vdb_coord.specs.declared.Coord.{Coord}
use Rattle.vdb_coord.specs.declared.Level.{Level}
use Rattle.vdb_value.specs.declared.Cell.{Cell}
use Rattle.vdb_tree.specs.Field.{Field}

-- each cell of the field in p's block of the level is this one
abbrev pub IsOneCell : {V : Type 0} → Bits → Level → Field V → Coord → Cell V → Type 0
IsOneCell bits level f p cell = (q : Coord) → IsTrue (is_inside everywhere q) → block_number bits level q ≡ block_number bits level p → f.cell q ≡ cell

module _ {V : Type 0} (bits : Bits) (cells : Coord → Cell V) (level : Level) (p : Coord) (cell : Cell V) where
  -- each cell of p's block of the level, at entries from one on and before another, is this one
  abbrev pub IsCellFrom : ℕ → ℕ → Type 0
  IsCellFrom from to = (q : Coord) → block_number bits level q ≡ block_number bits level p → from ≤ offset bits level q → offset bits level q < to → cells q ≡ cell

  -- each entry from one on and before this one has the cell
  pub record IsNextUnlikeAt (from index : ℕ) : Type 0 where
    pub within : index < entries bits level
    pub from_on : from ≤ index
    pub before : IsCellFrom from index

  -- each entry from one on has the cell: those before the returned index, or all up to the end if none is returned
  abbrev pub IsNextUnlike : ℕ → Option ℕ → Type 0
  IsNextUnlike from (Some index) = IsNextUnlikeAt from index
  IsNextUnlike from None = IsCellFrom from (entries bits level)
