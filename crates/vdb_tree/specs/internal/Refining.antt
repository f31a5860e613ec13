-- Nodes that are made where another tree has nodes and a tile's state is to change.
use Rattle.std.specs.Prelude.{◌≡◌, ◌≢◌, ℕ, Option, Some, None, IsTrue}
use Rattle.vdb_coord.specs.declared.Bits.{Bits}
use Rattle.vdb_coord.specs.declared.Coord.{Coord}
use Rattle.vdb_coord.specs.declared.Level.{Level}
use Rattle.vdb_coord.specs.declared.Level.TheVariants.{Leaf, Lower, Upper}
use Rattle.vdb_node.specs.declared.Entry.TheVariants.{Child, Tile}
use Rattle.vdb_value.specs.declared.Cell.{Cell}
use Rattle.vdb_tree.specs.Changes.{AddsNodes, Keeps}
use Rattle.vdb_tree.specs.Layout.{Layout, entry_over}
use Rattle.vdb_tree.specs.Nodes.{KeepsAllBut, MakesOnly}
use Rattle.vdb_tree.specs.Paths.{is_child}
use Rattle.vdb_tree.specs.declared.pairs.StateRule.{StateRule}
use Rattle.vdb_tree.specs.internal.Pairing.{made}

module _ {V : Type 0} (bits : Bits) (rule : StateRule) where
  -- A node was made at most over p's block of the level, in place of a tile whose state the rule can change. No cell changed.
  pub record MakesNode (level : Level) (old new : Layout V) (p : Coord) : Type 0 where
    pub keeps : Keeps bits old new
    pub adds : AddsNodes bits old new
    pub but : KeepsAllBut bits level old new p
    pub from : (tile : Cell V) → entry_over bits level old p ≡ Tile tile → IsTrue (is_child (entry_over bits level new p)) → tile.on ≢ made rule

  -- over p's block of the level is the returned node, or, if none is returned, a tile with the state that the rule makes
  abbrev pub IsNodeOrMade : Level → Layout V → Coord → Option ℕ → Type 0
  IsNodeOrMade level t p (Some slot) = entry_over bits level t p ≡ Child slot
  IsNodeOrMade level t p None = (tile : Cell V) × (entry_over bits level t p ≡ Tile tile) × (tile.on ≡ made rule)

module _ {V X : Type 0} (bits : Bits) (rule : StateRule) (u : Layout X) where
  -- the tile's state is to change, and the other tree has a node over p's block of the level
  abbrev pub IsRefinable : Level → Coord → Cell V → Type 0
  IsRefinable level p tile = (tile.on ≢ made rule) × IsTrue (is_child (entry_over bits level u p))

  -- nodes were made, only over tiles whose state is to change and where the other tree has nodes; no cell changed
  pub record Refines (old new : Layout V) : Type 0 where
    pub keeps : Keeps bits old new
    pub adds : AddsNodes bits old new
    pub made : MakesOnly bits IsRefinable old new

  -- if the other tree has a node of the level over q, a tile of this tree there has the state that the rule makes
  abbrev pub IsRefinedAt : Level → Layout V → Coord → Type 0
  IsRefinedAt level t q = (tile : Cell V) (slot : ℕ) → entry_over bits level t q ≡ Tile tile → entry_over bits level u q ≡ Child slot → tile.on ≡ made rule

  -- at each of the level and the lower levels: if the other tree has a node over q, a tile there has the state that the rule makes
  abbrev pub IsRefinedTo : Level → Layout V → Coord → Type 0
  IsRefinedTo Leaf t q = IsRefinedAt Leaf t q
  IsRefinedTo Lower t q = IsRefinedAt Leaf t q × IsRefinedAt Lower t q
  IsRefinedTo Upper t q = IsRefinedAt Leaf t q × IsRefinedAt Lower t q × IsRefinedAt Upper t q
