-- Removal of the entries of background upper extents.
use Rattle.std.specs.Prelude.{◌≡◌, ◌≢◌, ◌⊎◌}
use Rattle.vdb_coord.specs.Blocks.{key}
use Rattle.vdb_coord.specs.declared.Bits.{Bits}
use Rattle.vdb_coord.specs.declared.Coord.{Coord}
use Rattle.vdb_coord.specs.declared.Level.{Level}
use Rattle.vdb_node.specs.declared.Entry.TheVariants.{Tile}
use Rattle.vdb_value.specs.declared.Cell.{Cell}
use Rattle.vdb_tree.specs.Changes.{IsNoBackgroundRoot, Keeps}
use Rattle.vdb_tree.specs.Layout.{Layout, entry_over, background_cell, root_at}
use Rattle.vdb_tree.specs.Nodes.{MakesNoNode}

module _ {V : Type 0} (bits : Bits) where
  -- every cell stays, no node is added, and each tile existed already or is the background
  pub record AddsBackgroundTiles (old new : Layout V) : Type 0 where
    pub keeps : Keeps bits old new
    pub nodes : MakesNoNode bits old new
    pub tiles : (level : Level) (q : Coord) (tile : Cell V) → entry_over bits level new q ≡ Tile tile → (entry_over bits level old q ≡ Tile tile) ⊎ (tile ≡ background_cell old)

  -- the upper extent of this key has no entry if it is all background, and the table stays under each other key
  pub record ErasesRoot (old new : Layout V) (k : Coord) : Type 0 where
    pub adds : AddsBackgroundTiles old new
    pub table : (j : Coord) → j ≢ k → root_at new.root j ≡ root_at old.root j
    pub here : (q : Coord) → key bits q ≡ k → IsNoBackgroundRoot bits new q
