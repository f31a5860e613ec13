-- Which nodes and table entries a call makes, keeps or gives back.
use Rattle.std.specs.Prelude.{◌≡◌, ◌≢◌, ◌⊎◌, ◌<◌, ℕ, Bool, true, List, Some, IsSome, IsTrue}
use Rattle.vdb_coord.specs.Blocks.{block_number}
use Rattle.vdb_coord.specs.Space.{Box, is_inside}
use Rattle.vdb_coord.specs.declared.Bits.{Bits}
use Rattle.vdb_coord.specs.declared.Coord.{Coord}
use Rattle.vdb_coord.specs.declared.Level.{Level}
use Rattle.vdb_mask.specs.Mask.{is_on}
use Rattle.vdb_node.specs.Leaf.{Leaf as LeafOf}
use Rattle.vdb_node.specs.Nodes.{entry_count}
use Rattle.vdb_node.specs.declared.Entry.TheVariants.{Child, Tile}
use Rattle.vdb_pool.specs.Contents.{node_at, with_node}
use Rattle.vdb_value.specs.declared.Cell.{Cell}
use Rattle.vdb_tree.specs.Changes.{SameDescent}
use Rattle.vdb_tree.specs.Layout.{Layout, entry_over, lower_entry, root_at}
use Rattle.vdb_tree.specs.Paths.{is_child}
use Rattle.vdb_tree.specs.SplitBox.{IsCovered}
use Rattle.vdb_tree.specs.Capacity.{MeetsRootBlock}
use Rattle.vdb_tree.specs.Smallest.{counts_of}

-- a coordinate of the box lies in p's block of the level
abbrev pub MeetsBlock : Bits → Box → Level → Coord → Type 0
MeetsBlock bits box level p = (q : Coord) × IsTrue (is_inside box q) × (block_number bits level q ≡ block_number bits level p)

-- no key was added to the table
abbrev pub MakesNoKey : {V : Type 0} → Layout V → Layout V → Type 0
MakesNoKey old new = (k : Coord) → IsSome (root_at new.root k) → IsSome (root_at old.root k)

module _ {V : Type 0} (bits : Bits) where
  -- in the leaf over p, if there is one, the values stay and the states become the mask's, and nothing else of the layout changes
  abbrev pub AreStatesSet : Layout V → Layout V → Coord → List Bool → Type 0
  AreStatesSet old new p mask =
      (slot : ℕ) (n : LeafOf V) → lower_entry bits old p ≡ Child slot → node_at old.leaves slot ≡ Some n
      → (m : LeafOf V) × (new ≡ record old { leaves = with_node old.leaves slot m }) × (m.values ≡ n.values)
      × ((i : ℕ) → i < entry_count bits.leaf → is_on m.states i ≡ is_on mask i)

  -- each key has the same entry, each coordinate the same entries over it, and the numbers of entries and nodes are the same
  pub record IsSameTree (old new : Layout V) : Type 0 where
    pub table : (k : Coord) → root_at new.root k ≡ root_at old.root k
    pub entries : (q : Coord) → SameDescent bits old new q
    pub counts : counts_of new ≡ counts_of old

  -- if a tile became a node, this holds of the level, the coordinate and the tile
  abbrev pub MakesOnly : (Level → Coord → Cell V → Type 0) → Layout V → Layout V → Type 0
  MakesOnly Holds old new =
      (level : Level) (p : Coord) (tile : Cell V) → entry_over bits level old p ≡ Tile tile → IsTrue (is_child (entry_over bits level new p)) → Holds level p tile

  -- no node was added
  abbrev pub MakesNoNode : Layout V → Layout V → Type 0
  MakesNoNode old new = (level : Level) (p : Coord) → IsTrue (is_child (entry_over bits level new p)) → IsTrue (is_child (entry_over bits level old p))

  -- each added key belongs to an upper extent that meets the box
  abbrev pub MakesKeysIn : Box → Layout V → Layout V → Type 0
  MakesKeysIn box old new = (k : Coord) → IsSome (root_at new.root k) → IsSome (root_at old.root k) ⊎ MeetsRootBlock bits box k

  -- an active tile over a block that the box meets
  abbrev pub IsActiveIn : Box → Level → Coord → Cell V → Type 0
  IsActiveIn box level p tile = (tile.on ≡ true) × MeetsBlock bits box level p

  -- a tile of another cell, over a block that the box meets but doesn't cover
  abbrev pub IsCut : Box → Cell V → Level → Coord → Cell V → Type 0
  IsCut box cell level p tile = MeetsBlock bits box level p × (IsCovered bits box level p → ⊥) × (tile ≢ cell)

  -- each block of the level that doesn't hold p keeps the entry over it
  abbrev pub KeepsElsewhere : Layout V → Layout V → Coord → Type 0
  KeepsElsewhere old new p = (level : Level) (q : Coord) → block_number bits level q ≢ block_number bits level p → entry_over bits level new q ≡ entry_over bits level old q

  -- each block of another level, and each of this one that doesn't hold p, keeps the entry over it
  abbrev pub KeepsAllBut : Level → Layout V → Layout V → Coord → Type 0
  KeepsAllBut level old new p = (l : Level) (q : Coord) → (l ≢ level) ⊎ (block_number bits l q ≢ block_number bits l p) → entry_over bits l new q ≡ entry_over bits l old q
