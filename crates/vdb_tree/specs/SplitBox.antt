-- When a box can be painted without memory.
use Rattle.std.specs.Prelude.{◌≡◌, ◌⊎◌, IsSome, IsTrue}
use Rattle.vdb_coord.specs.Blocks.{block_around, key}
use Rattle.vdb_coord.specs.Space.{Box, is_inside, is_within}
use Rattle.vdb_coord.specs.declared.Bits.{Bits}
use Rattle.vdb_coord.specs.declared.Coord.{Coord}
use Rattle.vdb_coord.specs.declared.Level.{Level}
use Rattle.vdb_coord.specs.declared.Level.TheVariants.{Leaf, Lower, Upper}
use Rattle.vdb_node.specs.declared.Entry.TheVariants.{Tile}
use Rattle.vdb_value.specs.declared.Cell.{Cell}
use Rattle.vdb_tree.specs.Layout.{Layout, entry_over, background_cell, root_at}

-- the level's block around p lies within the box
abbrev pub IsCovered : Bits → Box → Level → Coord → Type 0
IsCovered bits box level p = IsTrue (is_within (block_around bits level p) box)

module _ {V : Type 0} (bits : Bits) (box : Box) (cell : Cell V) where
  -- a tile of the level over p lies within the box, or has the cell
  abbrev pub IsSplitAt : Level → Layout V → Coord → Type 0
  IsSplitAt level t p = (tile : Cell V) → entry_over bits level t p ≡ Tile tile → IsCovered bits box level p ⊎ (tile ≡ cell)

  -- No tile crosses the edge of the box unless it has the cell. If the cell isn't the background, each upper extent that meets
  -- the box has an entry.
  pub record IsSplit (t : Layout V) : Type 0 where
    pub tiles : (level : Level) (p : Coord) → IsTrue (is_inside box p) → IsSplitAt level t p
    pub entered : (p : Coord) → IsTrue (is_inside box p) → (cell ≡ background_cell t) ⊎ IsSome (root_at t.root (key bits p))

  -- no tile over p, of the level or of a lower one, has to be split
  abbrev pub IsSplitTo : Level → Layout V → Coord → Type 0
  IsSplitTo Leaf t p = IsSplitAt Leaf t p
  IsSplitTo Lower t p = IsSplitAt Leaf t p × IsSplitAt Lower t p
  IsSplitTo Upper t p = IsSplitAt Leaf t p × IsSplitAt Lower t p × IsSplitAt Upper t p

  -- each block of these levels around p that lies within the box is one tile of the cell
  abbrev pub IsTiledAt : Level → Layout V → Coord → Type 0
  IsTiledAt level t p = IsCovered bits box level p → entry_over bits level t p ≡ Tile cell

  abbrev pub IsTiledTo : Level → Layout V → Coord → Type 0
  IsTiledTo Leaf t p = IsTiledAt Leaf t p
  IsTiledTo Lower t p = IsTiledAt Leaf t p × IsTiledAt Lower t p
  IsTiledTo Upper t p = IsTiledAt Leaf t p × IsTiledAt Lower t p × IsTiledAt Upper t p
