-- What becomes of a tree when a leaf gets other cells.
use Rattle.vdb_tree.proofs.Common.{◌≡◌, ◌≢◌, IsTrue, ℕ, ◌<◌, Bool, List, refl, sym, ap, subst, ◌∙◌, inl, inr, Some, block_number, offset, entry_number, Box, is_inside, Bits, Coord, Leaf, entry_number_leaf, voxel_from_leaf, entries_is, offset_below, is_on, cell_in, entry_count, Child, node_at, with_node, Cell, Write, Empty, ToUpper, ToLower, ToLeaf, Changes, Turns, written, Layout, field_of, lower_entry, background_cell, IsVoxelWritten, with_states_of, KeepsOutside, PaintsVoxels, IsWhole, Lives, TreePath, IsSound}
use Rattle.vdb_node.specs.Leaf.{Leaf as LeafOf, SetsVoxel}
use Rattle.vdb_tree.specs.Layout.{cell_at}
use Rattle.vdb_tree.specs.Leaves.{with_leaf as with_leaf_cells}
use Rattle.vdb_tree.specs.Nodes.{AreStatesSet}
use Rattle.vdb_tree.proofs.Descents.{leaf_cell, lower_by_block}
use Rattle.vdb_tree.proofs.Equations.{same_field}
use Rattle.vdb_tree.proofs.Fields.{cell_inside}
use Rattle.vdb_tree.proofs.Levels.{child_slot, coord_cases, held_after, like_coords, node_turns, owned_after, unlike_coords, within_same}
use Rattle.vdb_tree.proofs.Passes.{descent_by}
use Rattle.vdb_tree.proofs.Pools.{node_puts}

same_some : {N : Type 0} (n m : N) → Some n ≡ Some m → n ≡ m
same_some n m e = cc

-- the layout with another leaf in the slot
abbrev pub with_leaf : {V : Type 0} → Layout V → ℕ → LeafOf V → Layout V
with_leaf t u m = record t { leaves = with_node t.leaves u m }

module _ {V : Type 0} (bits : Bits) (t : Layout V) (u : ℕ) (n m : LeafOf V) (was : node_at t.leaves u ≡ Some n) where
  -- the tree is sound with another leaf in the slot
  pub leaf_sound : IsSound bits t → IsSound bits (with_leaf t u m)
  leaf_sound sound = record {
    limit = sound.limit;
    apart = sound.apart;
    keys = sound.keys;
    uppers = sound.uppers;
    lowers = sound.lowers;
    leaves = owned_after bits Leaf (lower_entry bits t) t.leaves (with_node t.leaves u m) u n m was (node_puts t.leaves u n m was) sound.leaves;
  }

  -- every path stays live
  lives_after : (path : TreePath V) (q : Coord) → Lives bits t path q → Lives bits (with_leaf t u m) path q
  lives_after Empty q h = tt
  lives_after (ToUpper a) q h = h
  lives_after (ToLower a b) q h = h
  lives_after (ToLeaf a b f) q h =
      (h.0, h.1, record { live = (held_after t.leaves (with_node t.leaves u m) u m (node_puts t.leaves u n m was) f.slot h.2.live.0, h.2.live.1); child = h.2.child })

  pub whole_after : (path : TreePath V) (q : Coord) → IsWhole bits t path q → IsWhole bits (with_leaf t u m) path q
  whole_after path q h = record { lives = lives_after path q h.lives; whole = h.whole }

  -- the cells outside the leaf over p stay
  pub elsewhere : (p : Coord) → lower_entry bits t p ≡ Child u → IsSound bits t → (q : Coord) → block_number bits Leaf q ≢ block_number bits Leaf p
      → cell_at bits (with_leaf t u m) q ≡ cell_at bits t q
  unfolding cell_at
  elsewhere p child sound q d =
      within_same (cell_in (background_cell t)) (λ c. c) (background_cell t) t.leaves (with_node t.leaves u m) (lower_entry bits t q) (offset bits Leaf q)
      (λ r e. (node_puts t.leaves u n m was).others r (λ s. d (sound.leaves.own q p u (e ∙ ap Child s) child)))

  -- the leaf over p gets all its cells
  pub leaf_field : (p : Coord) → lower_entry bits t p ≡ Child u → IsSound bits t → field_of bits (with_leaf t u m) ≡ with_leaf_cells bits p m (field_of bits t)
  leaf_field p child sound = same_field bits (with_leaf t u m) t.background _ refl (λ q inside.
      let at = cell_inside t.background (cell_at bits t) q inside in
      elim (coord_cases (block_number bits Leaf p) (block_number bits Leaf q)) [
        | inl e ↦
            let yes = like_coords (block_number bits Leaf p) (block_number bits Leaf q) e in
            rw yes (leaf_cell bits (with_leaf t u m) p u m child (node_puts t.leaves u n m was).here q (sym e))
        | inr d ↦
            let no = unlike_coords (block_number bits Leaf p) (block_number bits Leaf q) d in
            rw (no, at) (elsewhere p child sound q (λ e. d (sym e)))
      ])

  -- a voxel of the leaf over p is set
  module _ (p : Coord) (child : lower_entry bits t p ≡ Child u) (cell : Cell V) (sets : SetsVoxel n m (offset bits Leaf p) cell) where
    voxel_turns : IsSound bits t → Turns (entry_number bits Leaf) p (cell_at bits t) (cell_at bits (with_leaf t u m)) cell
    unfolding cell_at
    voxel_turns sound =
        node_turns (cell_in (background_cell t)) (λ c. c) (background_cell t) bits Leaf (lower_entry bits t) t.leaves (with_node t.leaves u m) p u n m cell
        (lower_by_block bits t) sound.leaves child was (node_puts t.leaves u n m was) (sets.changed (background_cell t)) (sets.others (background_cell t))

    voxel_changes : IsSound bits t → Changes bits t (with_leaf t u m) p cell
    voxel_changes sound =
        let turns = voxel_turns sound in
        record {
          head = record { background = refl; limit = refl };
          cells = record {
            here = λ q e. turns.here q (ap (entry_number bits Leaf) e);
            there = λ q d. turns.there q (λ e. d (sym (entry_number_leaf bits q) ∙ e ∙ entry_number_leaf bits p));
          };
        }

    voxel_alone : IsVoxelWritten bits t (with_leaf t u m) p cell
    voxel_alone slot k e held =
        let same : u ≡ slot = child_slot {V = V} u slot (sym child ∙ e) in
        let node : n ≡ k = same_some n k (sym was ∙ ap (node_at t.leaves) same ∙ held) in
        (m, ap (λ s. with_leaf t s m) same, subst (λ l. SetsVoxel l m (offset bits Leaf p) cell) node sets)

  -- the voxel at p of the leaf over it, which has this index, is written
  module _ (p : Coord) (child : lower_entry bits t p ≡ Child u) (i : ℕ) (index : i ≡ offset bits Leaf p) (change : Write V) (old cell : Cell V)
      (entry : (d : Cell V) → cell_in d n i ≡ old) (applied : cell ≡ written change old) (sets : SetsVoxel n m i cell) where
    new_cell : cell ≡ written change (cell_at bits t p)
    new_cell = applied ∙ ap (written change) (sym (leaf_cell bits t p u n child was p refl ∙ ap (cell_in (background_cell t) n) (sym index) ∙ entry (background_cell t)))

    at_offset : SetsVoxel n m (offset bits Leaf p) (written change (cell_at bits t p))
    at_offset = subst (λ c. SetsVoxel n m (offset bits Leaf p) c) new_cell (subst (λ j. SetsVoxel n m j cell) index sets)

    pub write_changes : IsSound bits t → Changes bits t (with_leaf t u m) p (written change (cell_at bits t p))
    write_changes = voxel_changes p child (written change (cell_at bits t p)) at_offset

    pub write_gives : IsSound bits t → Changes bits t (with_leaf t u m) p cell
    write_gives sound = subst (λ c. Changes bits t (with_leaf t u m) p c) (sym new_cell) (write_changes sound)

    pub write_alone : IsVoxelWritten bits t (with_leaf t u m) p (written change (cell_at bits t p))
    write_alone = voxel_alone p child (written change (cell_at bits t p)) at_offset

  -- the leaf over p gets the states of a mask
  module _ (p : Coord) (child : lower_entry bits t p ≡ Child u) (mask : List Bool) (values : m.values ≡ n.values)
      (states : (i : ℕ) → i < entry_count bits.leaf → is_on m.states i ≡ is_on mask i) where
    pub states_here : (q : Coord) → block_number bits Leaf q ≡ block_number bits Leaf p
        → cell_at bits (with_leaf t u m) q ≡ record { value = (cell_at bits t q).value; on = is_on mask (offset bits Leaf q) }
    states_here q e =
        let after = leaf_cell bits (with_leaf t u m) p u m child (node_puts t.leaves u n m was).here q e in
        let before = leaf_cell bits t p u n child was q e in
        let state = states (offset bits Leaf q) (subst (λ k. offset bits Leaf q < k) (entries_is bits Leaf) (offset_below bits Leaf q)) in
        after ∙ rw (before, values, state) refl

    pub states_field : IsSound bits t → field_of bits (with_leaf t u m) ≡ with_states_of bits p mask (field_of bits t)
    states_field sound = same_field bits (with_leaf t u m) t.background _ refl (λ q inside.
        let at = cell_inside t.background (cell_at bits t) q inside in
        elim (coord_cases (block_number bits Leaf p) (block_number bits Leaf q)) [
          | inl e ↦
              let yes = like_coords (block_number bits Leaf p) (block_number bits Leaf q) e in
              rw (yes, at) (states_here q (sym e))
          | inr d ↦
              let no = unlike_coords (block_number bits Leaf p) (block_number bits Leaf q) d in
              rw (no, at) (elsewhere p child sound q (λ e. d (sym e)))
        ])

    pub states_alone : AreStatesSet bits t (with_leaf t u m) p mask
    states_alone slot k e held =
        let same : u ≡ slot = child_slot {V = V} u slot (sym child ∙ e) in
        let node : n ≡ k = same_some n k (sym was ∙ ap (node_at t.leaves) same ∙ held) in
        (m, ap (λ s. with_leaf t s m) same, subst (λ (l : LeafOf V). m.values ≡ l.values) node values, states)

  -- the part of a box that lies in the leaf over p is painted
  module _ (p : Coord) (child : lower_entry bits t p ≡ Child u) (box part : Box) (cell : Cell V) (sound : IsSound bits t) (paints : PaintsVoxels bits part cell n m)
      (within : (q : Coord) → IsTrue (is_inside part q) → IsTrue (is_inside box q) × (block_number bits Leaf q ≡ block_number bits Leaf p))
      (all : (q : Coord) → IsTrue (is_inside box q) → block_number bits Leaf q ≡ block_number bits Leaf p → IsTrue (is_inside part q)) where
    pub painted_here : (q : Coord) → IsTrue (is_inside box q) → block_number bits Leaf q ≡ block_number bits Leaf p → cell_at bits (with_leaf t u m) q ≡ cell
    painted_here q inside e = leaf_cell bits (with_leaf t u m) p u m child (node_puts t.leaves u n m was).here q e ∙ paints.painted q (all q inside e) (background_cell t)

    same_leaf : (q : Coord) → (IsTrue (is_inside box q) → ⊥) → block_number bits Leaf q ≡ block_number bits Leaf p → cell_at bits (with_leaf t u m) q ≡ cell_at bits t q
    same_leaf q out e =
        let after = leaf_cell bits (with_leaf t u m) p u m child (node_puts t.leaves u n m was).here q e in
        let before = leaf_cell bits t p u n child was q e in
        let none : (r : Coord) → IsTrue (is_inside part r) → offset bits Leaf r ≡ offset bits Leaf q → ⊥ = λ r inside same.
        let h = within r inside in
        out (subst (λ (c : Coord). IsTrue (is_inside box c)) (voxel_from_leaf bits r q (h.1 ∙ sym e) same) h.0) in
        after ∙ paints.others (offset bits Leaf q) none (background_cell t) ∙ sym before

    pub painted_outside : KeepsOutside bits box Leaf t (with_leaf t u m) (block_number bits Leaf p)
    painted_outside = record {
      head = record { background = refl; limit = refl };
      cells = λ q out. elim (coord_cases (block_number bits Leaf q) (block_number bits Leaf p)) [
        | inl e ↦ same_leaf q (λ inside. out inside e) e
        | inr d ↦ elsewhere p child sound q d
      ];
      entries = λ q out. descent_by bits t (with_leaf t u m) q refl refl refl;
    }
