-- How a call changes what the descents meet. Only the calls of this crate speak of it: above, a change is an equation of fields.
use Rattle.std.specs.Prelude.{IsSome, ◌≡◌, ◌≢◌, ◌<◌, ◌≤◌, ℕ, Option, Some, None}
use Rattle.vdb_coord.specs.Blocks.{block_number, entries, key, offset}
use Rattle.vdb_coord.specs.declared.Bits.{Bits}
use Rattle.vdb_coord.specs.declared.Coord.{Coord}
use Rattle.vdb_coord.specs.declared.Level.{Level}
use Rattle.vdb_coord.specs.declared.Level.TheVariants.{Leaf, Lower, Upper}
use Rattle.vdb_node.specs.declared.Entry.{Entry}
use Rattle.vdb_value.specs.declared.Cell.{Cell}
use Rattle.vdb_tree.specs.Layout.{Layout, cell_at, entry_over, background_cell, root_at}
use Rattle.vdb_node.specs.declared.Entry.TheVariants.{Child, Tile}

-- g has e at each coordinate whose number is p's, and elsewhere it has what f has
pub record Turns {E : Type 0} (number : Coord → Coord) (p : Coord) (f g : Coord → E) (e : E) : Type 0 where
  pub here : (q : Coord) → number q ≡ number p → g q ≡ e
  pub there : (q : Coord) → number q ≢ number p → g q ≡ f q

-- the background and the limit stay
pub record KeepsHead {V : Type 0} (old new : Layout V) : Type 0 where
  pub background : new.background ≡ old.background
  pub limit : new.limit ≡ old.limit

-- the background, the limit, the root table and the upper nodes stay
pub record KeepsUppers {V : Type 0} (old new : Layout V) : Type 0 where
  pub head : KeepsHead old new
  pub root : new.root ≡ old.root
  pub uppers : new.uppers ≡ old.uppers

module _ {V : Type 0} (bits : Bits) where
  -- every cell stays
  pub record Keeps (old new : Layout V) : Type 0 where
    pub head : KeepsHead old new
    pub cells : (q : Coord) → cell_at bits new q ≡ cell_at bits old q

  -- nodes were added in place of tiles, or keys of tiles that existed already: no other tile was added, and no key was removed
  pub record AddsNodes (old new : Layout V) : Type 0 where
    pub tiles : (level : Level) (q : Coord) (cell : Cell V) → entry_over bits level new q ≡ Tile cell → entry_over bits level old q ≡ Tile cell
    pub keys : (k : Coord) → IsSome (root_at old.root k) → IsSome (root_at new.root k)

  -- the cell at p becomes this one, and every other stays
  pub record Changes (old new : Layout V) (p : Coord) (cell : Cell V) : Type 0 where
    pub head : KeepsHead old new
    pub cells : Turns (λ q. q) p (cell_at bits old) (cell_at bits new) cell

  -- the cells of p's block of the level become this one, and every other stays
  pub record Fills (level : Level) (old new : Layout V) (p : Coord) (cell : Cell V) : Type 0 where
    pub head : KeepsHead old new
    pub cells : Turns (block_number bits level) p (cell_at bits old) (cell_at bits new) cell

  -- each cell of p's block of the level is this one
  abbrev pub IsConstantBlock : Level → Layout V → Coord → Cell V → Type 0
  IsConstantBlock level t p cell = (q : Coord) → block_number bits level q ≡ block_number bits level p → cell_at bits t q ≡ cell

  -- each cell of the entry at this index of the level's node around p is this one
  abbrev pub IsConstantAt : Level → Layout V → Coord → ℕ → Cell V → Type 0
  IsConstantAt level t p index cell = (q : Coord) → block_number bits level q ≡ block_number bits level p → offset bits level q ≡ index → cell_at bits t q ≡ cell

  -- the cells of p's block of the level aren't all equal
  abbrev pub IsNonConstantBlock : Level → Layout V → Coord → Type 0
  IsNonConstantBlock level t p = (cell : Cell V) → IsConstantBlock level t p cell → ⊥

  -- if there is a node of the level over p, its block isn't constant
  abbrev pub IsNeeded : Level → Layout V → Coord → Type 0
  IsNeeded level t p = (slot : ℕ) → entry_over bits level t p ≡ Child slot → IsNonConstantBlock level t p

  -- the entries over q are the same
  abbrev pub SameDescent : Layout V → Layout V → Coord → Type 0
  SameDescent old new q = (level : Level) → entry_over bits level new q ≡ entry_over bits level old q

  -- each coordinate beyond p's block of the level keeps its cell and the entries over it
  pub record KeepsBeyond (level : Level) (old new : Layout V) (p : Coord) : Type 0 where
    pub head : KeepsHead old new
    pub cells : (q : Coord) → block_number bits level q ≢ block_number bits level p → cell_at bits new q ≡ cell_at bits old q
    pub entries : (q : Coord) → block_number bits level q ≢ block_number bits level p → SameDescent old new q

  -- each node over q, of the level or of a lower one, is needed
  abbrev pub IsNeededTo : Level → Layout V → Coord → Type 0
  IsNeededTo Leaf t q = IsNeeded Leaf t q
  IsNeededTo Lower t q = IsNeeded Leaf t q × IsNeeded Lower t q
  IsNeededTo Upper t q = IsNeeded Leaf t q × IsNeeded Lower t q × IsNeeded Upper t q

  -- for each coordinate of p's block of the level, each node over it, of the level or of a lower one, is needed
  abbrev pub AreNeeded : Level → Layout V → Coord → Type 0
  AreNeeded level t p = (q : Coord) → block_number bits level q ≡ block_number bits level p → IsNeededTo level t q

  -- if p's upper extent has an entry, it isn't all background
  abbrev pub IsNoBackgroundRoot : Layout V → Coord → Type 0
  IsNoBackgroundRoot t p = (entry : Entry V) → root_at t.root (key bits p) ≡ Some entry → IsConstantBlock Upper t p (background_cell t) → ⊥

  -- no entry of the table belongs to a background upper extent
  abbrev pub IsSwept : Layout V → Type 0
  IsSwept t = (p : Coord) → IsNoBackgroundRoot t p

  -- In the level's node around p, at entries from one offset on and before another, each child of the level below is needed, or
  -- was made a tile. Nothing else changes, and every cell stays.
  pub record PassesTo (level inner : Level) (old new : Layout V) (p : Coord) (from to : ℕ) : Type 0 where
    pub keeps : Keeps old new
    pub others : (q : Coord) → block_number bits level q ≢ block_number bits level p → SameDescent old new q
    pub before : (q : Coord) → block_number bits level q ≡ block_number bits level p → offset bits level q < from → SameDescent old new q
    pub done : (q : Coord) → block_number bits level q ≡ block_number bits level p → from ≤ offset bits level q → offset bits level q < to → IsNeededTo inner new q

  -- a pass over the children of p's node from one offset on, up to the returned offset or up to the end
  abbrev pub PassesFrom : Level → Level → Layout V → Layout V → Coord → ℕ → Option ℕ → Type 0
  PassesFrom level inner old new p from (Some next) = PassesTo level inner old new p from next
  PassesFrom level inner old new p from None = PassesTo level inner old new p from (entries bits level)

  -- The upper extent of this key is pruned: each node over it is needed, and it has no entry if it is all background. Nothing
  -- else changes, and every cell stays.
  pub record PrunesRoot (old new : Layout V) (k : Coord) : Type 0 where
    pub keeps : Keeps old new
    pub others : (q : Coord) → key bits q ≢ k → SameDescent old new q
    pub table : (j : Coord) → j ≢ k → root_at new.root j ≡ root_at old.root j
    pub here : (q : Coord) → key bits q ≡ k → IsNeededTo Upper new q × IsNoBackgroundRoot new q
