-- The progress of a pass over the entries of a node that sets states by a rule. Only the calls of this crate speak of it.
use Rattle.std.specs.Prelude.{◌≡◌, ◌≢◌, ◌⊎◌, ◌<◌, ◌≤◌, ℕ, Bool, not, List, Option, Some, None}
use Rattle.vdb_coord.specs.Blocks.{block_number, entries, offset}
use Rattle.vdb_coord.specs.declared.Bits.{Bits}
use Rattle.vdb_coord.specs.declared.Coord.{Coord}
use Rattle.vdb_coord.specs.declared.Level.{Level}
use Rattle.vdb_coord.specs.declared.Level.TheVariants.{Leaf}
use Rattle.vdb_mask.specs.Mask.{is_on}
use Rattle.vdb_node.specs.declared.Entry.TheVariants.{Child, Tile}
use Rattle.vdb_value.specs.declared.Cell.{Cell}
use Rattle.vdb_tree.specs.Changes.{KeepsHead}
use Rattle.vdb_tree.specs.Layout.{Layout, cell_at, entry_over, root_at}
use Rattle.vdb_tree.specs.declared.pairs.StateRule.{StateRule}
use Rattle.vdb_tree.specs.declared.pairs.StateRule.TheVariants.{Unite, Subtract, Intersect}
use Rattle.vdb_tree.specs.internal.Pairing.{made, state_of}

-- whether a rule changes a state if the other tree has this one
abbrev pub acts : StateRule → Bool → Bool
acts Unite t = t
acts Subtract t = t
acts Intersect t = not t

-- q lies in the level's node around p, at an entry from one offset on and before another
abbrev pub IsAmong : Bits → Level → Coord → ℕ → ℕ → Coord → Type 0
IsAmong bits level p from to q = (block_number bits level q ≡ block_number bits level p) × (from ≤ offset bits level q) × (offset bits level q < to)

module _ {V X : Type 0} (bits : Bits) (rule : StateRule) (u : Layout X) (level : Level) where
  -- the rule changes no state at the entries from one offset on and before another
  abbrev pub AreSettled : Layout V → Coord → ℕ → ℕ → Type 0
  AreSettled t p from to = (q : Coord) → IsAmong bits level p from to q → state_of rule (cell_at bits t q).on (cell_at bits u q).on ≡ (cell_at bits t q).on

  -- the rule changes no state at the entries from one on and before this one
  pub record IsNextToSetAt (t : Layout V) (p : Coord) (from index : ℕ) : Type 0 where
    pub within : index < entries bits level
    pub from_on : from ≤ index
    pub before : AreSettled t p from index

  -- the rule changes no state at the entries from one on: those before the returned index, or all up to the end if none is returned
  abbrev pub IsNextToSet : Layout V → Coord → ℕ → Option ℕ → Type 0
  IsNextToSet t p from (Some index) = IsNextToSetAt t p from index
  IsNextToSet t p from None = AreSettled t p from (entries bits level)

  -- At the entries of p's node from one offset on and before another each state becomes that of the rule, and each value stays.
  -- Each other cell stays. Nodes, keys and tiles are as after a set block.
  pub record SetsRun (old new : Layout V) (p : Coord) (from to : ℕ) : Type 0 where
    pub head : KeepsHead old new
    pub here : (q : Coord) → IsAmong bits level p from to q
        → cell_at bits new q ≡ record { value = (cell_at bits old q).value; on = state_of rule (cell_at bits old q).on (cell_at bits u q).on }
    pub there : (q : Coord) → (IsAmong bits level p from to q → ⊥) → cell_at bits new q ≡ cell_at bits old q
    pub children : (l : Level) (q : Coord) (slot : ℕ) → entry_over bits l old q ≡ Child slot → entry_over bits l new q ≡ Child slot
    pub tiles : (l : Level) (q : Coord) (tile : Cell V) → entry_over bits l new q ≡ Tile tile
        → (was : Cell V) × (entry_over bits l old q ≡ Tile was) × ((tile ≡ was) ⊎ (tile.on ≡ made rule))
    pub keys : (k : Coord) → root_at new.root k ≡ None → root_at old.root k ≡ None

  -- the run from one offset on, up to the returned offset or up to the end
  abbrev pub SetsFrom : Layout V → Layout V → Coord → ℕ → Option ℕ → Type 0
  SetsFrom old new p from (Some next) = SetsRun old new p from next
  SetsFrom old new p from None = SetsRun old new p from (entries bits level)

-- the states of p's leaf extent become those of the mask, and the values stay; no other cell and no entry changes
pub record SetsLeaf {V : Type 0} (bits : Bits) (old new : Layout V) (p : Coord) (mask : List Bool) : Type 0 where
  pub here : (q : Coord) → block_number bits Leaf q ≡ block_number bits Leaf p → cell_at bits new q ≡ record { value = (cell_at bits old q).value; on = is_on mask (offset bits Leaf q) }
  pub there : (q : Coord) → block_number bits Leaf q ≢ block_number bits Leaf p → cell_at bits new q ≡ cell_at bits old q
  pub lowers : new.lowers ≡ old.lowers

-- the states of p's leaf extent become this one, and the values stay; no other cell and no entry changes
pub record FillsLeafStates {V : Type 0} (bits : Bits) (old new : Layout V) (p : Coord) (on : Bool) : Type 0 where
  pub here : (q : Coord) → block_number bits Leaf q ≡ block_number bits Leaf p → cell_at bits new q ≡ record { value = (cell_at bits old q).value; on = on }
  pub there : (q : Coord) → block_number bits Leaf q ≢ block_number bits Leaf p → cell_at bits new q ≡ cell_at bits old q
  pub lowers : new.lowers ≡ old.lowers

-- these are the states of p's leaf extent
abbrev pub AreStatesOf : {V : Type 0} → Bits → Layout V → Coord → List Bool → Type 0
AreStatesOf bits t p mask = (q : Coord) → block_number bits Leaf q ≡ block_number bits Leaf p → is_on mask (offset bits Leaf q) ≡ (cell_at bits t q).on
