-- Paths within one leaf extent.
use Rattle.std.proofs.Common.{◌≡◌, ℕ, ◌+◌, ◌-◌, ◌≤◌, true, false, refl, sym, ap, subst, ◌∙◌, arith, inl, inr, List}
use Rattle.std.specs.Prelude.{Option, Some, None, IfSome, IsTrue, is_some}
use Rattle.vdb_coord.specs.Blocks.{block_number, vdb}
use Rattle.vdb_coord.specs.Space.{coord_eq}
use Rattle.vdb_coord.specs.declared.Coord.{Coord}
use Rattle.vdb_coord.specs.declared.Level.TheVariants.{Leaf, Lower, Upper}
use Rattle.vdb_coord.proofs.Members.{coord_equiv, coord_exact}
use Rattle.vdb_coord.proofs.Nesting.{lower_from_leaf, upper_from_lower}
use Rattle.vdb_node.specs.declared.Entry.{Entry}
use Rattle.vdb_node.specs.declared.Entry.TheVariants.{Child, Tile}
use Rattle.vdb_pool.specs.declared.place.Place.{Place}
use Rattle.vdb_tree.specs.declared.path.PathOf.TheVariants.{Empty, ToUpper, ToLower, ToLeaf}
use Rattle.vdb_tree.specs.Layout.{Layout, lower_entry, root_entry, upper_entry}
use Rattle.vdb_tree.specs.Paths.{IsWhole, Lives, TreePath, common, common_lower, common_upper, depth, down_count, ends_in_leaf, in_leaf, is_child, one_if_child}
use Rattle.vdb_tree.proofs.Descents.{lower_by_block, root_by_block, upper_by_block}
use Rattle.vdb_tree.proofs.Levels.{bool_cases}
use Rattle.vdb_tree.proofs.NextChild.{leaf_below_lower, leaf_below_upper}
use Rattle.vdb_tree.proofs.Paths.{common_lives, no_leaf_lower, no_leaf_upper}
use Rattle.vdb_grid.specs.Grid.{ArePathsWhole, IsInLastLeaf, has_leaf, last, path}

coord_self : (a b : Coord) → a ≡ b → coord_eq a b ≡ true
coord_self a b e = rw e (coord_equiv.refl b)

pub apart : true ≡ false → ⊥
apart e = cc

module _ {V : Type 0} (t : Layout V) (q p : Coord) where
  upper_same : (u : Place (List (Entry V))) → block_number vdb Upper q ≡ block_number vdb Upper p → ◌≡◌ {A = TreePath V} (common_upper vdb q p u) (ToUpper u)
  upper_same u e = let s : coord_eq (block_number vdb Upper q) (block_number vdb Upper p) ≡ true = coord_self _ _ e in rw s refl

  lower_same : (u l : Place (List (Entry V))) → block_number vdb Lower q ≡ block_number vdb Lower p → ◌≡◌ {A = TreePath V} (common_lower vdb q p u l) (ToLower u l)
  lower_same u l e = let s : coord_eq (block_number vdb Lower q) (block_number vdb Lower p) ≡ true = coord_self _ _ e in rw s refl

  -- in one leaf extent the whole path is shared
  pub common_same : (path : TreePath V) → block_number vdb Leaf q ≡ block_number vdb Leaf p → common vdb q p path ≡ path
  common_same Empty e = refl
  common_same (ToUpper u) e = upper_same u (upper_from_lower vdb q p (lower_from_leaf vdb q p e))
  common_same (ToLower u l) e = lower_same u l (lower_from_leaf vdb q p e)
  common_same (ToLeaf u l f) e = let s : coord_eq (block_number vdb Leaf q) (block_number vdb Leaf p) ≡ true = coord_self _ _ e in rw s refl

  -- in one leaf extent the descents meet the same nodes
  pub down_same : block_number vdb Leaf q ≡ block_number vdb Leaf p → down_count vdb t q ≡ down_count vdb t p
  down_same e =
      let r = lower_from_leaf vdb q p e in
      let a = root_by_block vdb t q p (upper_from_lower vdb q p r) in
      let b = upper_by_block vdb t q p r in
      let c = lower_by_block vdb t q p e in
      rw (c, b, a) refl

  -- from a whole path to a coordinate of the same leaf extent at most one node is left to visit
  pub near_visits : (path : TreePath V) → block_number vdb Leaf q ≡ block_number vdb Leaf p → IsWhole vdb t path q → down_count vdb t p - (depth (common vdb q p path) - 1) ≤ 1
  near_visits path e w =
      let a : depth (common vdb q p path) ≡ depth path = ap depth (common_same path e) in
      let b = w.whole in
      let d = down_same e in
      omega (arith, a, b, d)

  -- a whole path is whole for each coordinate of the leaf extent
  pub whole_same : (path : TreePath V) → block_number vdb Leaf q ≡ block_number vdb Leaf p → IsWhole vdb t path q → IsWhole vdb t path p
  whole_same path b h = record {
    lives = rw (common_same path b) at (common_lives vdb t q p path h.lives);
    whole = h.whole ∙ down_same b;
  }

module _ {V : Type 0} (q p : Coord) where
  -- a path that shares a leaf with p leads to a coordinate of p's leaf extent
  pub near_block : (path : TreePath V) → ends_in_leaf (common vdb q p path) ≡ true → block_number vdb Leaf q ≡ block_number vdb Leaf p
  near_block Empty e = absurd (apart (sym e))
  near_block (ToUpper u) e = absurd (apart (sym e ∙ no_leaf_upper vdb q p u))
  near_block (ToLower u l) e = absurd (apart (sym e ∙ no_leaf_lower vdb q p u l))
  near_block (ToLeaf u l f) e =
      elim (bool_cases (coord_eq (block_number vdb Leaf q) (block_number vdb Leaf p))) [
        | inl s ↦ coord_exact _ _ s
        | inr s ↦ let h = rw s at e in absurd (apart (sym h ∙ no_leaf_lower vdb q p u l))
      ]

pub one_visit : (new old visits : ℕ) → new ≤ old + visits → visits ≤ 1 → new ≤ old + 1
one_visit new old visits h few = omega (arith, h, few)

-- a path that lives and ends in a leaf is whole
pub whole_of_leaf : {V : Type 0} (t : Layout V) (path : TreePath V) (p : Coord) → ends_in_leaf path ≡ true → Lives vdb t path p → IsWhole vdb t path p
whole_of_leaf t Empty p e h = absurd (apart (sym e))
whole_of_leaf t (ToUpper u) p e h = absurd (apart (sym e))
whole_of_leaf t (ToLower u l) p e h = absurd (apart (sym e))
whole_of_leaf t (ToLeaf u l f) p e h = record {
  lives = h;
  whole = let a = h.0.child in let b = h.1.child in let d = h.2.child in rw (d, b, a) refl;
}

module _ {V : Type 0} (t : Layout V) (p : Coord) where
  one_of_child : (entry : Entry V) → IsTrue (is_child entry) → one_if_child entry ≡ 1
  one_of_child (Child slot) h = refl
  one_of_child (Tile cell) h = absurd (apart (sym h))

  -- the descent to a voxel in a leaf meets three nodes
  three_nodes : IsTrue (in_leaf vdb t p) → down_count vdb t p ≡ 3
  three_nodes h =
      let a = one_of_child (root_entry vdb t p) (leaf_below_upper vdb t p h) in
      let b = one_of_child (upper_entry vdb t p) (leaf_below_lower vdb t p h) in
      let c = one_of_child (lower_entry vdb t p) h in
      rw (c, b, a) refl

  leaf_of_depth : (path : TreePath V) → depth path ≡ 3 → ends_in_leaf path ≡ true
  leaf_of_depth Empty e = cc
  leaf_of_depth (ToUpper u) e = cc
  leaf_of_depth (ToLower u l) e = cc
  leaf_of_depth (ToLeaf u l f) e = refl

  -- an accessor whose last coordinate lies in p's leaf caches the path to this leaf
  pub last_leaf_found : (coords : List (Option Coord)) (paths : List (TreePath V)) (k : ℕ) (cached : Option Coord)
      → ArePathsWhole t coords paths → last coords k ≡ cached → IsInLastLeaf t cached p → has_leaf cached (path paths k) p ≡ true
  last_leaf_found coords paths k None h e near = absurd near
  last_leaf_found coords paths k (Some q) h e near =
      let whole = whole_same t q p (path paths k) near.0 (h k q e) in
      let ends = leaf_of_depth (path paths k) (whole.whole ∙ three_nodes near.1) in
      ap ends_in_leaf (common_same t q p (path paths k) near.0) ∙ ends

module _ {V : Type 0} (t : Layout V) (q p : Coord) (path : TreePath V) where
  leaf_depth : (other : TreePath V) → ends_in_leaf other ≡ true → depth other ≡ 3
  leaf_depth Empty e = absurd (apart (sym e))
  leaf_depth (ToUpper u) e = absurd (apart (sym e))
  leaf_depth (ToLower u l) e = absurd (apart (sym e))
  leaf_depth (ToLeaf u l f) e = refl

  -- a whole path to q that ends in a leaf that holds p is whole for p
  pub whole_here : ends_in_leaf (common vdb q p path) ≡ true → IsWhole vdb t path q → IsWhole vdb t path p
  whole_here e h = whole_same t q p path (near_block q p path e) h

  -- from a path that ends in a leaf that holds p, one visit reaches p
  pub leaf_visit : ends_in_leaf (common vdb q p path) ≡ true → IsWhole vdb t path q → 1 ≤ down_count vdb t p - (depth (common vdb q p path) - 1)
  leaf_visit e h =
      let w = whole_of_leaf t (common vdb q p path) p e (common_lives vdb t q p path h.lives) in
      let a = w.whole in
      let b = leaf_depth (common vdb q p path) e in
      omega (arith, a, b)

-- an accessor's path is whole for each coordinate of the leaf that it ends in
pub whole_if_found : {V X : Type 0} (t : Layout V) (coords : List (Option Coord)) (paths : List (TreePath V)) (k : ℕ) (q p : Coord) (found : Option X)
    → ArePathsWhole t coords paths → last coords k ≡ Some q → is_some found ≡ ends_in_leaf (common vdb q p (path paths k))
    → IfSome found (λ _. IsWhole vdb t (path paths k) p)
whole_if_found t coords paths k q p None h s e = tt
whole_if_found t coords paths k q p (Some x) h s e = whole_here t q p (path paths k) (sym e) (h k q s)

-- if the leaf that ends a path holds p, one visit covers all below the lowest cached node
pub near_below : {V : Type 0} (t : Layout V) (coords : List (Option Coord)) (paths : List (TreePath V)) (k : ℕ) (q p : Coord) (old new : ℕ)
    → ArePathsWhole t coords paths → last coords k ≡ Some q → has_leaf (last coords k) (path paths k) p ≡ true → new ≤ old + 1
    → new ≤ old + (down_count vdb t p - (depth (common vdb q p (path paths k)) - 1))
near_below t coords paths k q p old new h s e few =
    let ends = subst (λ (o : Option Coord). has_leaf o (path paths k) p ≡ true) s e in
    let below = leaf_visit t q p (path paths k) ends (h k q s) in
    omega (arith, few, below)

-- if the leaf that ends a path to a coordinate holds p, the descent to p meets a node
leaf_down : {V : Type 0} (t : Layout V) (coords : List (Option Coord)) (paths : List (TreePath V)) (k : ℕ) (p : Coord) (cached : Option Coord)
    → ArePathsWhole t coords paths → last coords k ≡ cached → has_leaf cached (path paths k) p ≡ true → 1 ≤ down_count vdb t p
leaf_down t coords paths k p None h s e = absurd (apart (sym e))
leaf_down t coords paths k p (Some q) h s e = let below = leaf_visit t q p (path paths k) e (h k q s) in omega (arith, below)

-- if the leaf that ends a path holds p, one visit is at most the visits of the descent
pub near_down : {V : Type 0} (t : Layout V) (coords : List (Option Coord)) (paths : List (TreePath V)) (k : ℕ) (p : Coord) (old new : ℕ)
    → ArePathsWhole t coords paths → has_leaf (last coords k) (path paths k) p ≡ true → new ≤ old + 1 → new ≤ old + down_count vdb t p
near_down t coords paths k p old new h e few = let down = leaf_down t coords paths k p (last coords k) h refl e in omega (arith, few, down)
