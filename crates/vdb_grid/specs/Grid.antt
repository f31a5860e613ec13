-- Grids: a tree with accessors, each of which caches the path to the coordinate that it was last given.
use Rattle.std.specs.Prelude.{◌≡◌, ℕ, ⊤, Bool, false, IsTrue, List, Option, Some, None, slice_index_or}
use Rattle.vdb_coord.specs.Blocks.{block_number, vdb}
use Rattle.vdb_coord.specs.declared.Coord.{Coord}
use Rattle.vdb_coord.specs.declared.Level.TheVariants.{Leaf}
use Rattle.vdb_tree.specs.Layout.{Layout}
use Rattle.vdb_tree.specs.Paths.{IsWhole, Lives, TreePath, common, ends_in_leaf, ends_in_lower, in_leaf}
use Rattle.vdb_tree.specs.declared.path.PathOf.TheVariants.{Empty}

-- a grid: a tree of the standard configuration, and for each accessor the coordinate that it was last given and a path
pub record GridOf (V : Type 0) : Type 0 where
  pub tree : Layout V
  pub coords : List (Option Coord)
  pub paths : List (TreePath V)

-- the coordinate that an accessor was last given
abbrev pub last : List (Option Coord) → ℕ → Option Coord
last coords k = slice_index_or coords k None

module _ {V : Type 0} where
  -- the path that an accessor caches
  abbrev pub path : List (TreePath V) → ℕ → TreePath V
  path paths k = slice_index_or paths k Empty

  -- each accessor's path has all nodes of the tree that the descent to its coordinate meets, each live
  abbrev pub ArePathsWhole : Layout V → List (Option Coord) → List (TreePath V) → Type 0
  ArePathsWhole tree coords paths = (k : ℕ) (p : Coord) → last coords k ≡ Some p → IsWhole vdb tree (path paths k) p

  -- the path of each accessor that was given no coordinate is empty
  abbrev pub AreUnusedEmpty : List (Option Coord) → List (TreePath V) → Type 0
  AreUnusedEmpty coords paths = (k : ℕ) → last coords k ≡ None → path paths k ≡ Empty

  -- a path without nodes, or the whole path to this coordinate
  abbrev pub IsEmptyOrWhole : Layout V → TreePath V → Coord → Type 0
  IsEmptyOrWhole tree Empty p = ⊤
  IsEmptyOrWhole tree cached p = IsWhole vdb tree cached p

  -- such a path is live: the path of calls without an accessor
  pub record IsNear (tree : Layout V) (cached : TreePath V) (p : Coord) : Type 0 where
    pub lives : Lives vdb tree cached p
    pub whole : IsEmptyOrWhole tree cached p

  -- whether the path that an accessor caches to this coordinate ends in a leaf that holds p
  abbrev pub has_leaf : Option Coord → TreePath V → Coord → Bool
  has_leaf None cached p = false
  has_leaf (Some q) cached p = ends_in_leaf (common vdb q p cached)

  -- whether the lowest node of that path that holds p is a lower node
  abbrev pub has_lower : Option Coord → TreePath V → Coord → Bool
  has_lower None cached p = false
  has_lower (Some q) cached p = ends_in_lower (common vdb q p cached)

  -- a leaf holds p and the coordinate that an accessor was last given
  abbrev pub IsInLastLeaf : Layout V → Option Coord → Coord → Type 0
  IsInLastLeaf tree None p = ⊥
  IsInLastLeaf tree (Some q) p = (block_number vdb Leaf q ≡ block_number vdb Leaf p) × IsTrue (in_leaf vdb tree p)
