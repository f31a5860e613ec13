-- Paths: the places of the nodes from the root down to a coordinate.
use Rattle.std.specs.Prelude.{◌≡◌, ℕ, ◌+◌, Bool, true, false, List, if◌then◌else◌}
use Rattle.vdb_coord.specs.Blocks.{block_number}
use Rattle.vdb_coord.specs.Space.{coord_eq}
use Rattle.vdb_coord.specs.declared.Bits.{Bits}
use Rattle.vdb_coord.specs.declared.Coord.{Coord}
use Rattle.vdb_coord.specs.declared.Level.TheVariants.{Leaf, Lower, Upper}
use Rattle.vdb_node.specs.Leaf.{Leaf as LeafOf}
use Rattle.vdb_node.specs.declared.Entry.{Entry}
use Rattle.vdb_node.specs.declared.Entry.TheVariants.{Child, Tile}
use Rattle.vdb_pool.specs.Contents.{Contents}
use Rattle.vdb_pool.specs.Live.{IsLive}
use Rattle.vdb_pool.specs.declared.place.Place.{Place}
use Rattle.vdb_tree.specs.Layout.{Layout, lower_entry, root_entry, upper_entry}
use Rattle.vdb_tree.specs.declared.path.PathOf.{PathOf}
use Rattle.vdb_tree.specs.declared.path.PathOf.TheVariants.{Empty, ToUpper, ToLower, ToLeaf}

-- whether an entry is a child
abbrev pub is_child : {V : Type 0} → Entry V → Bool
is_child (Child slot) = true
is_child (Tile cell) = false

-- 1 for a child and 0 for a tile
abbrev pub one_if_child : {V : Type 0} → Entry V → ℕ
one_if_child (Child slot) = 1
one_if_child (Tile cell) = 0

-- the place is live, and is the place of the entry's child
pub record IsChildAt {V N : Type 0} (pool : Contents N) (entry : Entry V) (place : Place N) : Type 0 where
  pub live : IsLive pool place
  pub child : entry ≡ Child place.slot

module _ {A B C : Type 0} where
  -- how many nodes a path has
  abbrev pub depth : PathOf A B C → ℕ
  depth Empty = 0
  depth (ToUpper u) = 1
  depth (ToLower u l) = 2
  depth (ToLeaf u l f) = 3

  -- whether the path's last node is a leaf
  abbrev pub ends_in_leaf : PathOf A B C → Bool
  ends_in_leaf Empty = false
  ends_in_leaf (ToUpper u) = false
  ends_in_leaf (ToLower u l) = false
  ends_in_leaf (ToLeaf u l f) = true

  -- whether the path's last node is a lower node
  abbrev pub ends_in_lower : PathOf A B C → Bool
  ends_in_lower Empty = false
  ends_in_lower (ToUpper u) = false
  ends_in_lower (ToLower u l) = true
  ends_in_lower (ToLeaf u l f) = false

  -- the nodes of a path to q that contain p
  module _ (bits : Bits) (q p : Coord) where
    abbrev pub common_upper : Place A → PathOf A B C
    common_upper u = if coord_eq (block_number bits Upper q) (block_number bits Upper p) then ToUpper u else Empty

    abbrev pub common_lower : Place A → Place B → PathOf A B C
    common_lower u l = if coord_eq (block_number bits Lower q) (block_number bits Lower p) then ToLower u l else common_upper u

    abbrev pub common : PathOf A B C → PathOf A B C
    common Empty = Empty
    common (ToUpper u) = common_upper u
    common (ToLower u l) = common_lower u l
    common (ToLeaf u l f) = if coord_eq (block_number bits Leaf q) (block_number bits Leaf p) then ToLeaf u l f else common_lower u l

-- a path in a tree with these values
abbrev pub TreePath : Type 0 → Type 0
TreePath V = PathOf (List (Entry V)) (List (Entry V)) (LeafOf V)

module _ {V : Type 0} (bits : Bits) (t : Layout V) where
  -- how many nodes the descent to p meets
  abbrev pub down_count : Coord → ℕ
  down_count p = one_if_child (root_entry bits t p) + one_if_child (upper_entry bits t p) + one_if_child (lower_entry bits t p)

  -- whether p's cell is in a leaf
  abbrev pub in_leaf : Coord → Bool
  in_leaf p = is_child (lower_entry bits t p)

  -- each place of the path is live, and its nodes are the first that the descent to p meets
  abbrev pub Lives : TreePath V → Coord → Type 0
  Lives Empty p = Unit {0}
  Lives (ToUpper u) p = IsChildAt t.uppers (root_entry bits t p) u
  Lives (ToLower u l) p = IsChildAt t.uppers (root_entry bits t p) u × IsChildAt t.lowers (upper_entry bits t p) l
  Lives (ToLeaf u l f) p =
      IsChildAt t.uppers (root_entry bits t p) u × IsChildAt t.lowers (upper_entry bits t p) l × IsChildAt t.leaves (lower_entry bits t p) f

  -- a live path whose nodes are all that the descent to p meets
  pub record IsWhole (path : TreePath V) (p : Coord) : Type 0 where
    pub lives : Lives path p
    pub whole : depth path ≡ down_count p
