-- How the states of two trees are combined in place: first the upper extents get entries, then the tree gets nodes where the
-- other tree has them, and then the states are set.
use Rattle.std.specs.Prelude.{◌≡◌, ◌≢◌, ◌⊎◌, ℕ, Bool, true, false, not, ◌&&◌, ◌||◌, None}
use Rattle.vdb_coord.specs.Blocks.{block_number, key}
use Rattle.vdb_coord.specs.declared.Bits.{Bits}
use Rattle.vdb_coord.specs.declared.Coord.{Coord}
use Rattle.vdb_coord.specs.declared.Level.{Level}
use Rattle.vdb_node.specs.declared.Entry.TheVariants.{Child, Tile}
use Rattle.vdb_value.specs.declared.Cell.{Cell}
use Rattle.vdb_tree.specs.Changes.{KeepsHead}
use Rattle.vdb_tree.specs.Layout.{Layout, cell_at, entry_over, root_at}
use Rattle.vdb_tree.specs.declared.pairs.StateRule.{StateRule}
use Rattle.vdb_tree.specs.declared.pairs.StateRule.TheVariants.{Unite, Subtract, Intersect}

-- the state of the other tree at which a rule changes a state
abbrev pub acts_at : StateRule → Bool
acts_at Unite = true
acts_at Subtract = true
acts_at Intersect = false

-- the state that the rule sets if it acts; otherwise a state stays
abbrev pub made : StateRule → Bool
made Unite = true
made Subtract = false
made Intersect = false

-- the state that two states combine to
abbrev pub state_of : StateRule → Bool → Bool → Bool
state_of Unite s t = s || t
state_of Subtract s t = s && not t
state_of Intersect s t = s && t

-- In p's block of the level each value stays and each state becomes that of the rule; each other cell stays. No node and no key
-- is added or removed, and a tile whose state changes has the state that the rule makes.
pub record SetsBlock {V X : Type 0} (bits : Bits) (rule : StateRule) (u : Layout X) (level : Level) (old new : Layout V) (p : Coord) : Type 0 where
  pub head : KeepsHead old new
  pub here : (q : Coord) → block_number bits level q ≡ block_number bits level p
      → cell_at bits new q ≡ record { value = (cell_at bits old q).value; on = state_of rule (cell_at bits old q).on (cell_at bits u q).on }
  pub there : (q : Coord) → block_number bits level q ≢ block_number bits level p → cell_at bits new q ≡ cell_at bits old q
  pub children : (l : Level) (q : Coord) (slot : ℕ) → entry_over bits l old q ≡ Child slot → entry_over bits l new q ≡ Child slot
  pub tiles : (l : Level) (q : Coord) (tile : Cell V) → entry_over bits l new q ≡ Tile tile
      → (was : Cell V) × (entry_over bits l old q ≡ Tile was) × ((tile ≡ was) ⊎ (tile.on ≡ made rule))
  pub keys : (k : Coord) → root_at new.root k ≡ None → root_at old.root k ≡ None

module _ {V X : Type 0} (bits : Bits) (rule : StateRule) (t : Layout V) (u : Layout X) where
  -- the state at q stays, because the rule doesn't change it if the other tree has this state there
  abbrev pub IsIdleAt : Coord → Type 0
  IsIdleAt q = (cell_at bits u q).on ≢ acts_at rule

  -- The states can be set without memory: if a tile's state is to change, the other tree has a tile there as well, and nothing
  -- becomes active in an upper extent without an entry.
  pub record IsRefinedFor : Type 0 where
    pub tiles : (level : Level) (q : Coord) (tile : Cell V) (slot : ℕ) → entry_over bits level t q ≡ Tile tile → entry_over bits level u q ≡ Child slot → (tile.on ≡ made rule) ⊎ IsIdleAt q
    pub entered : (q : Coord) → root_at t.root (key bits q) ≡ None → (made rule ≡ false) ⊎ IsIdleAt q
