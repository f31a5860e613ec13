-- Paths that are shared by coordinates of one block.
use Rattle.vdb_tree.proofs.Common.{◌≡◌, false, true, refl, sym, ◌∙◌, inl, inr, block_number, coord_eq, Bits, Coord, Leaf, Lower, Upper, coord_exact, lower_from_leaf, upper_from_lower, Entry, Contents, List, Empty, ToUpper, ToLower, ToLeaf, Layout, lower_entry, root_entry, upper_entry, IsWhole, Lives, TreePath}
use Rattle.vdb_node.specs.Leaf.{Leaf as LeafOf}
use Rattle.vdb_pool.specs.declared.place.Place.{Place}
use Rattle.vdb_tree.specs.Paths.{IsChildAt, common, common_lower, common_upper, ends_in_leaf}
use Rattle.vdb_tree.proofs.Descents.{lower_by_block, root_by_block, upper_by_block}
use Rattle.vdb_tree.proofs.Levels.{bool_cases}

child_as : {V N : Type 0} (pool : Contents N) (e d : Entry V) (place : Place N) → e ≡ d → IsChildAt pool e place → IsChildAt pool d place
child_as pool e d place same h = record { live = h.live; child = sym same ∙ h.child }

module _ {V : Type 0} (bits : Bits) (t : Layout V) (q p : Coord) where
  -- coordinates in one block of a level share the nodes down to that level
  upper_child : (u : Place (List (Entry V))) → block_number bits Upper q ≡ block_number bits Upper p → IsChildAt t.uppers (root_entry bits t q) u → IsChildAt t.uppers (root_entry bits t p) u
  upper_child u e h = child_as t.uppers (root_entry bits t q) (root_entry bits t p) u (root_by_block bits t q p e) h

  lower_child : (l : Place (List (Entry V))) → block_number bits Lower q ≡ block_number bits Lower p → IsChildAt t.lowers (upper_entry bits t q) l → IsChildAt t.lowers (upper_entry bits t p) l
  lower_child l e h = child_as t.lowers (upper_entry bits t q) (upper_entry bits t p) l (upper_by_block bits t q p e) h

  leaf_child : (f : Place (LeafOf V)) → block_number bits Leaf q ≡ block_number bits Leaf p → IsChildAt t.leaves (lower_entry bits t q) f → IsChildAt t.leaves (lower_entry bits t p) f
  leaf_child f e h = child_as t.leaves (lower_entry bits t q) (lower_entry bits t p) f (lower_by_block bits t q p e) h

  -- the leaf in which a path to q ends holds p if one block holds both
  pub leaf_shared : (u l : Place (List (Entry V))) (f : Place (LeafOf V)) → Lives bits t (ToLeaf u l f) q → coord_eq (block_number bits Leaf q) (block_number bits Leaf p) ≡ true → IsChildAt t.leaves (lower_entry bits t p) f
  leaf_shared u l f h e = leaf_child f (coord_exact _ _ e) h.2

  -- a path that lives and ends in a leaf is whole
  pub leaf_whole : (u l : Place (List (Entry V))) (f : Place (LeafOf V)) → Lives bits t (ToLeaf u l f) p → IsWhole bits t (ToLeaf u l f) p
  leaf_whole u l f h = record {
    lives = h;
    whole = let a = h.0.child in let b = h.1.child in let d = h.2.child in rw (d, b, a) refl;
  }

  upper_lives : (u : Place (List (Entry V))) → Lives bits t (ToUpper u) q → Lives bits t (common_upper bits q p u) p
  upper_lives u h =
      elim (bool_cases (coord_eq (block_number bits Upper q) (block_number bits Upper p))) [
        | inl e ↦ rw e (upper_child u (coord_exact _ _ e) h)
        | inr e ↦ rw e tt
      ]

  lower_lives : (u l : Place (List (Entry V))) → Lives bits t (ToLower u l) q → Lives bits t (common_lower bits q p u l) p
  lower_lives u l h =
      elim (bool_cases (coord_eq (block_number bits Lower q) (block_number bits Lower p))) [
        | inl e ↦
            let s = coord_exact _ _ e in
            rw e (upper_child u (upper_from_lower bits q p s) h.0, lower_child l s h.1)
        | inr e ↦ rw e (upper_lives u h.0)
      ]

  -- the nodes of a path to q that contain p are live, and are the first that the descent to p meets
  pub common_lives : (path : TreePath V) → Lives bits t path q → Lives bits t (common bits q p path) p
  common_lives Empty h = tt
  common_lives (ToUpper u) h = upper_lives u h
  common_lives (ToLower u l) h = lower_lives u l h
  common_lives (ToLeaf u l f) h =
      elim (bool_cases (coord_eq (block_number bits Leaf q) (block_number bits Leaf p))) [
        | inl e ↦
            let s = coord_exact _ _ e in
            let r = lower_from_leaf bits q p s in
            rw e (upper_child u (upper_from_lower bits q p r) h.0, lower_child l r h.1, leaf_child f s h.2)
        | inr e ↦ rw e (lower_lives u l (h.0, h.1))
      ]

module _ {V : Type 0} (bits : Bits) (q p : Coord) where
  pub no_leaf_upper : (u : Place (List (Entry V))) → ends_in_leaf {A = List (Entry V)} {B = List (Entry V)} {C = LeafOf V} (common_upper bits q p u) ≡ false
  no_leaf_upper u =
      elim (bool_cases (coord_eq (block_number bits Upper q) (block_number bits Upper p))) [ inl e ↦ rw e refl | inr e ↦ rw e refl ]

  -- what two coordinates share above the leaf ends in no leaf
  pub no_leaf_lower : (u l : Place (List (Entry V))) → ends_in_leaf {A = List (Entry V)} {B = List (Entry V)} {C = LeafOf V} (common_lower bits q p u l) ≡ false
  no_leaf_lower u l =
      elim (bool_cases (coord_eq (block_number bits Lower q) (block_number bits Lower p))) [
        | inl e ↦ rw e refl
        | inr e ↦ rw e (no_leaf_upper u)
      ]
