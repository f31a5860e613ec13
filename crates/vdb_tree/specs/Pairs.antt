-- A walk over two trees of one configuration: over the blocks at which both have a tile or a leaf.
use Rattle.std.specs.Prelude.{◌≡◌, Bool, false, List, Option, IfSome, IsTrue}
use Rattle.vdb_coord.specs.Blocks.{block_number}
use Rattle.vdb_coord.specs.Order.{ComesBefore}
use Rattle.vdb_coord.specs.Space.{Box, everywhere, is_inside}
use Rattle.vdb_coord.specs.declared.Bits.{Bits}
use Rattle.vdb_coord.specs.declared.Coord.{Coord}
use Rattle.vdb_coord.specs.declared.Level.{Level}
use Rattle.vdb_coord.specs.declared.Level.TheVariants.{Leaf, Lower, Upper}
use Rattle.vdb_node.specs.Leaf.{Leaf as LeafOf}
use Rattle.vdb_node.specs.declared.Entry.{Entry}
use Rattle.vdb_tree.specs.Field.{off}
use Rattle.vdb_tree.specs.Layout.{Layout, field_of}
use Rattle.vdb_tree.specs.Parts.{end_level, is_left}
use Rattle.vdb_tree.specs.Paths.{Lives}
use Rattle.vdb_tree.specs.declared.path.PathOf.{PathOf}

-- The progress of a walk over the pairs of two trees.
pub record PairWalkOf (A B C : Type 0) : Type 0 where
  -- the first coordinate, in block order, of what is left
  pub at : Option Coord
  -- a path in each tree, both to this coordinate
  pub first : PathOf A B C
  pub second : PathOf A B C
  pub near : Coord

-- a walk over two trees with these values
abbrev pub TreePairWalk : Type 0 → Type 0
TreePairWalk V = PairWalkOf (List (Entry V)) (List (Entry V)) (LeafOf V)

-- the lower of two levels
abbrev pub lower_level : Level → Level → Level
lower_level Leaf m = Leaf
lower_level Lower Leaf = Leaf
lower_level Lower Lower = Lower
lower_level Lower Upper = Lower
lower_level Upper m = m

module _ {V : Type 0} (bits : Bits) (t u : Layout V) where
  -- a walk may pass over q: in both trees its cell is the inactive background
  abbrev pub IsBackgroundInBoth : Coord → Type 0
  IsBackgroundInBoth q = ((field_of bits t).cell q ≡ off t.background) × ((field_of bits u).cell q ≡ off u.background)

  -- the walk goes on: what was left and isn't any more was passed over, except what the test names
  pub record PassesPairs (old new : TreePairWalk V) (but : Coord → Bool) : Type 0 where
    pub later : (q : Coord) → IsTrue (is_left bits new.at q) → IsTrue (is_left bits old.at q)
    pub passed : (q : Coord) → IsTrue (is_inside everywhere q) → IsTrue (is_left bits old.at q) → is_left bits new.at q ≡ false → but q ≡ false → IsBackgroundInBoth q

  -- the walk yields these coordinates, which were left and aren't any more
  pub record YieldsPair (old new : TreePairWalk V) (block : Box) : Type 0 where
    pub passes : PassesPairs old new (is_inside block)
    pub inside : (q : Coord) → IsTrue (is_inside block q) → IsTrue (is_inside everywhere q)
    pub left : (q : Coord) → IsTrue (is_inside block q) → IsTrue (is_left bits old.at q)
    pub gone : (q : Coord) → IsTrue (is_inside block q) → is_left bits new.at q ≡ false

  -- the level of the pair around p: the lower of those of the two trees' tiles or leaves there
  abbrev pub pair_level : Coord → Level
  pair_level p = lower_level (end_level bits t p) (end_level bits u p)

  -- p is the first coordinate, in block order, of the block of its pair
  pub record IsPairStart (p : Coord) : Type 0 where
    pub inside : IsTrue (is_inside everywhere p)
    pub first : (q : Coord) → IsTrue (is_inside everywhere q) → ComesBefore bits q p → block_number bits (pair_level p) q ≡ block_number bits (pair_level p) p → ⊥

  -- the walk is at the first coordinate of a pair, if one is left, and its paths live
  pub record IsPairWalk (w : TreePairWalk V) : Type 0 where
    pub start : IfSome w.at IsPairStart
    pub first : Lives bits t w.first w.near
    pub second : Lives bits u w.second w.near
