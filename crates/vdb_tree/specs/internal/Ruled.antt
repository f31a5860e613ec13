-- How the states of a tree are set by a rule, one part after another.
use Rattle.std.specs.Prelude.{◌≡◌, ◌≢◌, ◌⊎◌, ◌<◌, ◌≤◌, ℕ, Option, Some, None}
use Rattle.vdb_coord.specs.Blocks.{block_number, entries, key, offset}
use Rattle.vdb_coord.specs.declared.Bits.{Bits}
use Rattle.vdb_coord.specs.declared.Coord.{Coord}
use Rattle.vdb_coord.specs.declared.Level.{Level}
use Rattle.vdb_node.specs.declared.Entry.{Entry}
use Rattle.vdb_node.specs.declared.Entry.TheVariants.{Child, Tile}
use Rattle.vdb_value.specs.declared.Cell.{Cell}
use Rattle.vdb_tree.specs.Changes.{KeepsHead}
use Rattle.vdb_tree.specs.Layout.{Layout, cell_at, entry_over, root_at}
use Rattle.vdb_tree.specs.internal.Pairing.{acts_at, made, state_of}
use Rattle.vdb_tree.specs.declared.pairs.StateRule.{StateRule}

-- a tile with a state at which the rule changes nothing
abbrev pub IsIdleTile : {X : Type 0} → StateRule → Entry X → Type 0
IsIdleTile {X} rule entry = (tile : Cell X) × (entry ≡ Tile tile) × (tile.on ≢ acts_at rule)

-- the tile with the state that the rule makes
abbrev pub made_tile : {V : Type 0} → StateRule → Cell V → Cell V
made_tile rule tile = record { value = tile.value; on = made rule }

module _ (bits : Bits) (level : Level) (p : Coord) where
  -- q lies in the level's node around p, at an entry from one offset on and before another
  pub record IsAmong (from to : ℕ) (q : Coord) : Type 0 where
    pub block : block_number bits level q ≡ block_number bits level p
    pub from_on : from ≤ offset bits level q
    pub before : offset bits level q < to

  -- this holds at the entries from one on and before this one
  pub record IsNextWithoutAt (Has : Coord → Type 0) (from index : ℕ) : Type 0 where
    pub within : index < entries bits level
    pub from_on : from ≤ index
    pub before : (q : Coord) → IsAmong from index q → Has q

  -- this holds at the entries from one on and before the returned index, or up to the end
  abbrev pub IsNextWithout : (Coord → Type 0) → ℕ → Option ℕ → Type 0
  IsNextWithout Has from (Some index) = IsNextWithoutAt Has from index
  IsNextWithout Has from None = (q : Coord) → IsAmong from (entries bits level) q → Has q

module _ {V X : Type 0} (bits : Bits) (rule : StateRule) (u : Layout X) where
  -- the rule leaves the state at q as it is
  abbrev pub IsSettled : Layout V → Coord → Type 0
  IsSettled t q = state_of rule (cell_at bits t q).on (cell_at bits u q).on ≡ (cell_at bits t q).on

  -- At these coordinates each value stays and each state becomes that of the rule; each other cell stays. No node and no key is
  -- added or removed, and a tile whose state changes has the state that the rule makes.
  pub record SetsWithin (In : Coord → Type 0) (old new : Layout V) : Type 0 where
    pub head : KeepsHead old new
    pub here : (q : Coord) → In q → cell_at bits new q ≡ record { value = (cell_at bits old q).value; on = state_of rule (cell_at bits old q).on (cell_at bits u q).on }
    pub there : (q : Coord) → (In q → ⊥) → cell_at bits new q ≡ cell_at bits old q
    pub children : (l : Level) (q : Coord) (slot : ℕ) → entry_over bits l old q ≡ Child slot → entry_over bits l new q ≡ Child slot
    pub tiles : (l : Level) (q : Coord) (tile : Cell V) → entry_over bits l new q ≡ Tile tile
        → (was : Cell V) × (entry_over bits l old q ≡ Tile was) × ((tile ≡ was) ⊎ (tile.on ≡ made rule))
    pub keys : (k : Coord) → root_at new.root k ≡ None → root_at old.root k ≡ None

  -- the rule sets the states at the entries of p's node from one offset on, up to the returned offset or up to the end
  abbrev pub SetsFrom : Level → Layout V → Layout V → Coord → ℕ → Option ℕ → Type 0
  SetsFrom level old new p from (Some next) = SetsWithin (IsAmong bits level p from next) old new
  SetsFrom level old new p from None = SetsWithin (IsAmong bits level p from (entries bits level)) old new

  -- the rule sets the states in the upper extent of this key, and the table stays under each other key
  pub record SetsRoot (old new : Layout V) (k : Coord) : Type 0 where
    pub sets : SetsWithin (λ q. key bits q ≡ k) old new
    pub table : (j : Coord) → j ≢ k → root_at new.root j ≡ root_at old.root j
