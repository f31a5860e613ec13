-- The parts of a tree in block order: its leaves, and the blocks of its tiles.
use Rattle.std.specs.Prelude.{◌≡◌, ◌⊎◌, ℕ, zero, suc, Bool, false, not, ◌&&◌, List, Option, Some, None, IfSome, IsTrue}
use Rattle.std.specs.Ordering.{is_lt}
use Rattle.vdb_coord.specs.Blocks.{block_around, block_cmp, block_number, key, offset}
use Rattle.vdb_coord.specs.Order.{ComesBefore, IsUpToBlock, coordinates_past}
use Rattle.vdb_coord.specs.Space.{Box, is_inside}
use Rattle.vdb_coord.specs.declared.Bits.{Bits}
use Rattle.vdb_coord.specs.declared.Coord.{Coord}
use Rattle.vdb_coord.specs.declared.Level.{Level}
use Rattle.vdb_coord.specs.declared.Level.TheVariants.{Leaf as leaf_level, Lower, Upper}
use Rattle.vdb_node.specs.Leaf.{Leaf as LeafOf, cell_in}
use Rattle.vdb_node.specs.declared.Entry.{Entry}
use Rattle.vdb_node.specs.declared.Entry.TheVariants.{Child, Tile as TileEntry}
use Rattle.vdb_value.specs.declared.Cell.{Cell}
use Rattle.vdb_tree.specs.Field.{Field, off}
use Rattle.vdb_tree.specs.Layout.{Layout, entry_over, field_of, lower_entry, root_at, root_entry, upper_entry}
use Rattle.vdb_tree.specs.Paths.{Lives}
use Rattle.vdb_tree.specs.declared.path.PathOf.{PathOf}
use Rattle.vdb_tree.specs.declared.queries.parts.Content.{Content}
use Rattle.vdb_tree.specs.declared.queries.parts.Content.TheVariants.{Leaf, Tile}
use Rattle.vdb_tree.specs.declared.queries.parts.Skip.{Skip}
use Rattle.vdb_tree.specs.declared.queries.parts.Skip.TheVariants.{Absent, Background, Inactive}
use Rattle.vdb_tree.specs.declared.queries.ends.End.{End}
use Rattle.vdb_tree.specs.declared.queries.ends.End.TheVariants.{Leaf as EndLeaf, Tile as EndTile}

-- The progress of a walk over the parts of a tree.
pub record WalkOf (A B C : Type 0) : Type 0 where
  -- the coordinates to which the parts are cut
  pub box : Box
  -- what the walk passes over
  pub skip : Skip
  -- the first coordinate, in block order, of what is left of the box
  pub at : Option Coord
  -- a path to this coordinate
  pub path : PathOf A B C
  pub near : Coord

-- a walk over a tree with these values
abbrev pub TreeWalk : Type 0 → Type 0
TreeWalk V = WalkOf (List (Entry V)) (List (Entry V)) (LeafOf V)

module _ (bits : Bits) where
  -- whether q is left: it doesn't come before the walk's coordinate
  abbrev pub is_left : Option Coord → Coord → Bool
  is_left None q = false
  is_left (Some p) q = not (is_lt (block_cmp bits q p))

  -- how many coordinates are left
  abbrev pub left_count : Option Coord → ℕ
  left_count None = zero
  left_count (Some p) = suc (coordinates_past bits p)

  module _ {V : Type 0} where
    -- a walk may pass over q: its upper extent has no entry; its cell is the inactive background; or it isn't active
    abbrev pub IsSkipped : Skip → Layout V → Coord → Type 0
    IsSkipped Absent t q = root_at t.root (key bits q) ≡ None
    IsSkipped Background t q = (field_of bits t).cell q ≡ off t.background
    IsSkipped Inactive t q = ((field_of bits t).cell q).on ≡ false

    module _ (t : Layout V) where
      -- the walk goes on: what was left of the box and isn't any more was passed over, except what the test names
      pub record Passes (old new : TreeWalk V) (but : Coord → Bool) : Type 0 where
        pub box : new.box ≡ old.box
        pub skip : new.skip ≡ old.skip
        pub later : (q : Coord) → IsTrue (is_left new.at q) → IsTrue (is_left old.at q)
        pub passed : (q : Coord) → IsTrue (is_inside old.box q) → IsTrue (is_left old.at q) → is_left new.at q ≡ false → but q ≡ false → IsSkipped old.skip t q

      -- the walk yields these coordinates, which were left of the box and aren't any more
      pub record YieldsBox (old new : TreeWalk V) (part : Box) : Type 0 where
        pub passes : Passes old new (is_inside part)
        pub inside : (q : Coord) → IsTrue (is_inside part q) → IsTrue (is_inside old.box q)
        pub left : (q : Coord) → IsTrue (is_inside part q) → IsTrue (is_left old.at q)
        pub gone : (q : Coord) → IsTrue (is_inside part q) → is_left new.at q ≡ false

-- what holds of the content's cell if it is a tile, and of its leaf if it is a leaf
abbrev pub OnTile : {V L : Type 0} → Content V L → (Cell V → Type 0) → Type 0
OnTile (Tile cell) P = P cell
OnTile (Leaf leaf) P = Unit {0}

abbrev pub OnLeaf : {V L : Type 0} → Content V L → (L → Type 0) → Type 0
OnLeaf (Tile cell) P = Unit {0}
OnLeaf (Leaf leaf) P = P leaf

-- the cell that a tile or a leaf has at a coordinate, by the cells that the leaf has at its offsets
abbrev pub content_cell : {V L : Type 0} → Bits → (L → ℕ → Cell V) → Content V L → Coord → Cell V
content_cell bits cells (Tile cell) p = cell
content_cell bits cells (Leaf leaf) p = cells leaf (offset bits leaf_level p)

-- the box lies in one leaf extent
abbrev pub IsInOneLeaf : Bits → Box → Type 0
IsInOneLeaf bits box = (q r : Coord) → IsTrue (is_inside box q) → IsTrue (is_inside box r) → block_number bits leaf_level q ≡ block_number bits leaf_level r

-- the box lies in one leaf extent, and the leaf has its cells
pub record IsPartOfLeaf {V : Type 0} (bits : Bits) (f : Field V) (box : Box) (leaf : LeafOf V) : Type 0 where
  pub block : IsInOneLeaf bits box
  pub cells : (q : Coord) → IsTrue (is_inside box q) → f.cell q ≡ cell_in (off f.background) leaf (offset bits leaf_level q)

-- ---- ends of descents; only the calls of this crate speak of them

-- the first value for a tile, the second for a child
abbrev pub if_tile : {V A : Type 0} → Entry V → A → A → A
if_tile (TileEntry cell) tile child = tile
if_tile (Child slot) tile child = child

module _ {V : Type 0} (bits : Bits) (t : Layout V) where
  -- the level of the tile or the leaf in which the descent to p ends
  abbrev pub end_level : Coord → Level
  end_level p = if_tile (root_entry bits t p) Upper (if_tile (upper_entry bits t p) Lower leaf_level)

  -- the descent to p has this end
  abbrev pub IsEnd : Coord → End V → Type 0
  IsEnd p (EndTile level cell) = (end_level p ≡ level) × (entry_over bits level t p ≡ TileEntry cell)
  IsEnd p (EndLeaf slot) = (end_level p ≡ leaf_level) × (lower_entry bits t p ≡ Child slot)

  -- p is the first coordinate, in block order, that the box has in p's tile or leaf
  pub record IsStart (box : Box) (p : Coord) : Type 0 where
    pub inside : IsTrue (is_inside box p)
    pub first : (q : Coord) → IsTrue (is_inside box q) → ComesBefore bits q p → block_number bits (end_level p) q ≡ block_number bits (end_level p) p → ⊥

  -- the walk is at a start of its box, if one is left, and its path lives
  pub record IsWalk (w : TreeWalk V) : Type 0 where
    pub start : IfSome w.at (IsStart w.box)
    pub lives : Lives bits t w.path w.near

  -- the first coordinate of the box past the level's block around p; a walk may pass over what lies between
  pub record IsStartAfterAt (box : Box) (skip : Skip) (level : Level) (p next : Coord) : Type 0 where
    pub start : IsStart box next
    pub past : (q : Coord) → IsTrue (is_inside box q) → block_number bits level q ≡ block_number bits level p → ComesBefore bits q next
    pub between : (q : Coord) → IsTrue (is_inside box q) → ComesBefore bits q next → IsUpToBlock bits level p q ⊎ IsSkipped bits skip t q

  abbrev pub IsStartAfter : Box → Skip → Level → Coord → Option Coord → Type 0
  IsStartAfter box skip level p (Some next) = IsStartAfterAt box skip level p next
  IsStartAfter box skip level p None = (q : Coord) → IsTrue (is_inside box q) → IsUpToBlock bits level p q ⊎ IsSkipped bits skip t q

  -- the part holds what the box has of the block in which the descent to p ends
  abbrev pub IsPartAround : Box → Coord → Box → Type 0
  IsPartAround box p part = (q : Coord) → is_inside part q ≡ (is_inside box q && is_inside (block_around bits (end_level p) p) q)

-- the outer level is next above the other: entries of its nodes are blocks of the other level
abbrev pub IsNextAbove : Level → Level → Type 0
IsNextAbove Upper Lower = Unit {0}
IsNextAbove Lower leaf_level = Unit {0}
IsNextAbove outer level = ⊥
