-- The children of a node, by the first coordinates of their entries.
use Rattle.std.specs.Prelude.{◌≡◌, ◌<◌, ◌≤◌, ℕ, Option, Some, None}
use Rattle.vdb_coord.specs.Blocks.{block_around, block_number, entries, offset, sub_block}
use Rattle.vdb_coord.specs.declared.Bits.{Bits}
use Rattle.vdb_coord.specs.declared.Coord.{Coord}
use Rattle.vdb_coord.specs.declared.Level.{Level}
use Rattle.vdb_node.specs.declared.Entry.{Entry}
use Rattle.vdb_node.specs.declared.Entry.TheVariants.{Child, Tile}
use Rattle.vdb_value.specs.declared.Cell.{Cell}

module _ {V : Type 0} (bits : Bits) (level : Level) (entry : Coord → Entry V) (p : Coord) where
  -- in the level's node around p no entry from one offset on and before another is a child
  abbrev pub IsChildless : ℕ → ℕ → Type 0
  IsChildless from to = (q : Coord) (slot : ℕ) → block_number bits level q ≡ block_number bits level p → from ≤ offset bits level q → offset bits level q < to → entry q ≡ Child slot → ⊥

  -- the first entry from this offset on that is a child, and its first coordinate
  pub record IsNextCornerAt (from index : ℕ) (corner : Coord) : Type 0 where
    pub within : index < entries bits level
    pub from_on : from ≤ index
    pub at : corner ≡ (sub_block bits level (block_around bits level p) index).min
    pub child : (slot : ℕ) × (entry corner ≡ Child slot)
    pub before : IsChildless from index

  abbrev pub IsNextCorner : ℕ → Option (ℕ × Coord) → Type 0
  IsNextCorner from (Some next) = IsNextCornerAt from next.0 next.1
  IsNextCorner from None = IsChildless from (entries bits level)

  -- each entry of the level's node around p is a tile of this cell
  abbrev pub IsTiled : Cell V → Type 0
  IsTiled cell = (q : Coord) → block_number bits level q ≡ block_number bits level p → entry q ≡ Tile cell

module _ {V : Type 0} (bits : Bits) (level : Level) (p : Coord) (old new : Coord → Entry V) where
  -- if no entry before one offset was a child, none is before the returned offset, or none at all if none is returned
  abbrev pub ClearsFrom : ℕ → Option ℕ → Type 0
  ClearsFrom from (Some next) = IsChildless bits level old p 0 from → IsChildless bits level new p 0 next
  ClearsFrom from None = IsChildless bits level old p 0 from → IsChildless bits level new p 0 (entries bits level)
