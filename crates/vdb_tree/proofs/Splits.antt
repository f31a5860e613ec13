-- Splitting a tile into a node with its cell all over: no cell changes.
use Rattle.vdb_tree.proofs.Common.{ap, arith, ◌≡◌, ◌≢◌, ◌≤◌, ◌<◌, ℕ, List, refl, sym, ◌∙◌, length, inl, inr, IsTrue, Some, None, IsSome, slice_index_or, if◌then◌else◌, IsDistinct, keys_of, block_number, block_numbers, key, node_bits, offset, coord_eq, is_inside, Bits, Coord, Level, Leaf, Lower, Upper, coord_exact, entries_is, offset_below, IsConstant, SetsEntry, IsConstantLeaf, cell_in, entry_count, Entry, Child, Tile, Contents, node_at, Cell, AddsNodes, Keeps, SameDescent, Turns, Layout, entry_over, field_of, lower_entry, background_cell, root_at, root_entry, upper_entry, KeepsAllBut, in_leaf, is_child, IsSound}
use Rattle.vdb_node.specs.Leaf.{Leaf as LeafOf}
use Rattle.vdb_tree.specs.Layout.{cell_at}
use Rattle.vdb_tree.specs.Leaves.{with_leaf as with_leaf_cells}
use Rattle.vdb_tree.specs.Nodes.{IsSameTree}
use Rattle.vdb_tree.proofs.Blocks.{never}
use Rattle.vdb_tree.proofs.Descents.{leaf_cell, lower_by_block, root_by_block, upper_by_block}
use Rattle.vdb_tree.proofs.Equations.{same_field}
use Rattle.vdb_tree.proofs.Fields.{cell_inside}
use Rattle.vdb_tree.proofs.Levels.{Puts, bool_cases, coord_cases, like_coords, node_turns, not_vacant, owned_after, owned_as, owned_nodes, split_below, split_owned, tile_no_child, tile_or_child, unlike_coords, within_same}

-- an offset is an index of the node
pub index_below : (bits : Bits) (level : Level) (p : Coord) → offset bits level p < entry_count (node_bits bits level)
index_below bits level p = let h = offset_below bits level p in rw (entries_is bits level) at h

-- an entry put under p's key is the entry over p's upper extent, and the others stay
pub root_turns : {V : Type 0} (bits : Bits) (t n : Layout V) (p : Coord) (x : Entry V) → n.background ≡ t.background
    → ((k : Coord) → root_at n.root k ≡ (if coord_eq (key bits p) k then Some x else root_at t.root k)) → Turns (block_number bits Upper) p (root_entry bits t) (root_entry bits n) x
root_turns bits t n p x same changed = record {
  here = λ q e.
      let a = changed (key bits q) in
      let b = like_coords (key bits p) (key bits q) (sym e) in
      rw (a, b) refl;
  there = λ q d.
      let a = changed (key bits q) in
      let b = unlike_coords (key bits p) (key bits q) (λ e. d (sym e)) in
      rw (a, b, same) refl;
}

-- the keys stay those of upper extents when one of these gets an entry
pub root_keys : {V : Type 0} (bits : Bits) (t : Layout V) (root : List (Coord × Entry V)) (at : Coord) (x : Entry V) → IsSound bits t → IsTrue (is_inside (block_numbers bits Upper) at)
    → ((k : Coord) → root_at root k ≡ (if coord_eq at k then Some x else root_at t.root k)) → (k : Coord) → IsSome (root_at root k) → IsTrue (is_inside (block_numbers bits Upper) k)
root_keys bits t root at x sound inside changed k h =
    elim (bool_cases (coord_eq at k)) [
      | inl e ↦ let s = coord_exact at k e in rw s at inside
      | inr e ↦ let c = changed k in sound.keys k (rw (c, e) at h)
    ]

-- a key of the table belongs to an upper extent
pub entered_key : {V : Type 0} (bits : Bits) (t : Layout V) (p : Coord) → IsSound bits t → IsSome (root_at t.root (key bits p)) → IsTrue (is_inside (block_numbers bits Upper) (key bits p))
entered_key bits t p sound h = sound.keys (key bits p) h

module _ {V : Type 0} (bits : Bits) where
  pub keeps_itself : (t : Layout V) → Keeps bits t t
  keeps_itself t = record { head = record { background = refl; limit = refl }; cells = λ q. refl }

  pub keeps_twice : (s t n : Layout V) → Keeps bits s t → Keeps bits t n → Keeps bits s n
  keeps_twice s t n a b = record {
    head = record { background = b.head.background ∙ a.head.background; limit = b.head.limit ∙ a.head.limit };
    cells = λ q. b.cells q ∙ a.cells q;
  }

  -- if the entries over lower extents and the lower nodes stay, so do the entries below
  pub lowers_from : (old new : Layout V) → new.background ≡ old.background → new.lowers ≡ old.lowers → ((q : Coord) → upper_entry bits new q ≡ upper_entry bits old q)
      → (q : Coord) → lower_entry bits new q ≡ lower_entry bits old q
  lowers_from old new b l same q = let e = same q in rw (e, b, l) refl

  pub cells_from : (old new : Layout V) → new.background ≡ old.background → new.leaves ≡ old.leaves → ((q : Coord) → lower_entry bits new q ≡ lower_entry bits old q)
      → (q : Coord) → cell_at bits new q ≡ cell_at bits old q
  unfolding cell_at
  cells_from old new b l same q = let e = same q in rw (e, b, l) refl

  -- each tile of the new entries was a tile before
  abbrev IsFewerTiles : (Coord → Entry V) → (Coord → Entry V) → Type 0
  IsFewerTiles f g = (q : Coord) (cell : Cell V) → g q ≡ Tile cell → f q ≡ Tile cell

  same_tiles : (f g : Coord → Entry V) → ((q : Coord) → g q ≡ f q) → IsFewerTiles f g
  same_tiles f g same q cell e = sym (same q) ∙ e

  turned_tiles : (number : Coord → Coord) (p : Coord) (s : ℕ) (f g : Coord → Entry V) → Turns number p f g (Child s) → IsFewerTiles f g
  turned_tiles number p s f g turns q cell e = elim (coord_cases (number q) (number p)) [
    | inl b ↦ absurd (tile_no_child cell s (sym e ∙ turns.here q b))
    | inr d ↦ sym (turns.there q d) ∙ e
  ]

  adds : (old new : Layout V) → IsFewerTiles (root_entry bits old) (root_entry bits new) → IsFewerTiles (upper_entry bits old) (upper_entry bits new)
      → IsFewerTiles (lower_entry bits old) (lower_entry bits new) → ((k : Coord) → IsSome (root_at old.root k) → IsSome (root_at new.root k)) → AddsNodes bits old new
  adds old new roots uppers lowers keys = record { tiles = each; keys = keys }
    where
      each : (level : Level) (q : Coord) (cell : Cell V) → entry_over bits level new q ≡ Tile cell → entry_over bits level old q ≡ Tile cell
      each Upper = roots
      each Lower = uppers
      each Leaf = lowers

  put_keys : (t : Layout V) (root : List (Coord × Entry V)) (at : Coord) (x : Entry V) → ((k : Coord) → root_at root k ≡ (if coord_eq at k then Some x else root_at t.root k))
      → (k : Coord) → IsSome (root_at t.root k) → IsSome (root_at root k)
  put_keys t root at x changed k h = elim (bool_cases (coord_eq at k)) [
    | inl e ↦ let c = changed k in rw (c, e) refl
    | inr e ↦ let c = changed k in rw (c, e) h
  ]

  pub adds_itself : (t : Layout V) → AddsNodes bits t t
  adds_itself t = record { tiles = λ level q cell e. e; keys = λ k h. h }

  pub adds_twice : (s t n : Layout V) → AddsNodes bits s t → AddsNodes bits t n → AddsNodes bits s n
  adds_twice s t n a b = record { tiles = λ level q cell e. a.tiles level q cell (b.tiles level q cell e); keys = λ k h. b.keys k (a.keys k h) }

  -- what lies in a leaf still lies in a leaf
  pub adds_leaves : (s t : Layout V) → AddsNodes bits s t → (q : Coord) → IsTrue (in_leaf bits s q) → IsTrue (in_leaf bits t q)
  adds_leaves s t a q h = elim (tile_or_child (lower_entry bits t q)) [
    | inl e ↦ absurd (never (ap is_child (a.tiles Leaf q e.0 e.1)) h)
    | inr e ↦ ap is_child e.1
  ]

  -- the root's tile becomes an upper node
  module _ (t : Layout V) (sound : IsSound bits t) (p : Coord) (s : ℕ) (c : Cell V) (k : List (Entry V)) (root : List (Coord × Entry V)) (uppers : Contents (List (Entry V)))
      (tiled : root_entry bits t p ≡ Tile c)
      (changed : (q : Coord) → root_at root q ≡ (if coord_eq (key bits p) q then Some (Child s) else root_at t.root q))
      (free : node_at t.uppers s ≡ None) (const : IsConstant k (entry_count bits.upper) (Tile c)) (put : Puts t.uppers uppers s (Some k)) where
    abbrev pub with_upper : Layout V
    with_upper = record t { root = root; uppers = uppers }

    upper_turns : Turns (block_number bits Upper) p (root_entry bits t) (root_entry bits with_upper) (Child s)
    upper_turns = root_turns bits t with_upper p (Child s) refl changed

    upper_stays : (q : Coord) → upper_entry bits with_upper q ≡ upper_entry bits t q
    upper_stays =
        split_below (λ node i. slice_index_or node i (Tile (background_cell t))) Tile (Tile (background_cell t)) bits Upper (root_entry bits t) (root_entry bits with_upper) t.uppers uppers p s k c sound.uppers free
        (λ r e. root_by_block bits t r p e ∙ tiled) upper_turns put (λ q. const _ _ (index_below bits Upper q))

    lower_stays : (q : Coord) → lower_entry bits with_upper q ≡ lower_entry bits t q
    lower_stays = lowers_from t with_upper refl refl upper_stays

    pub with_upper_keeps : Keeps bits t with_upper
    with_upper_keeps = record { head = record { background = refl; limit = refl }; cells = cells_from t with_upper refl refl lower_stays }

    pub with_upper_adds : AddsNodes bits t with_upper
    with_upper_adds = adds t with_upper (turned_tiles (block_number bits Upper) p s _ _ upper_turns) (same_tiles _ _ upper_stays) (same_tiles _ _ lower_stays) (put_keys t root (key bits p) (Child s) changed)

    pub with_upper_sound : IsSome (root_at t.root (key bits p)) → length root ≡ length t.root → IsDistinct coord_eq (keys_of root) → IsSound bits with_upper
    with_upper_sound entered size apart = record {
      limit = rw size sound.limit;
      apart = apart;
      keys = root_keys bits t root (key bits p) (Child s) sound (entered_key bits t p sound entered) changed;
      uppers = split_owned bits Upper (root_entry bits t) (root_entry bits with_upper) t.uppers uppers p s k c sound.uppers free (λ r e. root_by_block bits t r p e ∙ tiled) upper_turns put;
      lowers = owned_as bits Lower _ _ _ upper_stays sound.lowers;
      leaves = owned_as bits Leaf _ _ _ lower_stays sound.leaves;
    }

    pub with_upper_at : root_entry bits with_upper p ≡ Child s
    with_upper_at = upper_turns.here p refl

    pub with_upper_but : KeepsAllBut bits Upper t with_upper p
    with_upper_but Upper q h = elim h [ inl d ↦ absurd (d refl) | inr d ↦ upper_turns.there q d ]
    with_upper_but Lower q h = upper_stays q
    with_upper_but Leaf q h = lower_stays q

  -- an upper node's tile becomes a lower node
  module _ (t : Layout V) (sound : IsSound bits t) (p : Coord) (u s : ℕ) (c : Cell V) (n m k : List (Entry V)) (uppers lowers : Contents (List (Entry V)))
      (at_root : root_entry bits t p ≡ Child u) (tiled : upper_entry bits t p ≡ Tile c)
      (was : node_at t.uppers u ≡ Some n) (sets : SetsEntry n m (offset bits Upper p) (Child s)) (changed : Puts t.uppers uppers u (Some m))
      (free : node_at t.lowers s ≡ None) (const : IsConstant k (entry_count bits.lower) (Tile c)) (put : Puts t.lowers lowers s (Some k)) where
    abbrev pub with_lower : Layout V
    with_lower = record t { uppers = uppers; lowers = lowers }

    lower_turns : Turns (block_number bits Lower) p (upper_entry bits t) (upper_entry bits with_lower) (Child s)
    lower_turns =
        node_turns (λ node i. slice_index_or node i (Tile (background_cell t))) Tile (Tile (background_cell t)) bits Upper (root_entry bits t) t.uppers uppers p u n m (Child s) (root_by_block bits t) sound.uppers at_root was changed
        (sets.changed _) (sets.others _)

    lowers_stay : (q : Coord) → lower_entry bits with_lower q ≡ lower_entry bits t q
    lowers_stay =
        split_below (λ node i. slice_index_or node i (Tile (background_cell t))) Tile (Tile (background_cell t)) bits Lower (upper_entry bits t) (upper_entry bits with_lower) t.lowers lowers p s k c sound.lowers free
        (λ r e. upper_by_block bits t r p e ∙ tiled) lower_turns put (λ q. const _ _ (index_below bits Lower q))

    pub with_lower_keeps : Keeps bits t with_lower
    with_lower_keeps = record { head = record { background = refl; limit = refl }; cells = cells_from t with_lower refl refl lowers_stay }

    pub with_lower_adds : AddsNodes bits t with_lower
    with_lower_adds = adds t with_lower (λ q cell e. e) (turned_tiles (block_number bits Lower) p s _ _ lower_turns) (same_tiles _ _ lowers_stay) (λ k h. h)

    pub with_lower_sound : IsSound bits with_lower
    with_lower_sound = record {
      limit = sound.limit;
      apart = sound.apart;
      keys = sound.keys;
      uppers = owned_after bits Upper _ _ _ _ _ _ was changed sound.uppers;
      lowers = split_owned bits Lower (upper_entry bits t) (upper_entry bits with_lower) t.lowers lowers p s k c sound.lowers free (λ r e. upper_by_block bits t r p e ∙ tiled) lower_turns put;
      leaves = owned_as bits Leaf _ _ _ lowers_stay sound.leaves;
    }

    pub with_lower_at : upper_entry bits with_lower p ≡ Child s
    with_lower_at = lower_turns.here p refl

    pub with_lower_but : KeepsAllBut bits Lower t with_lower p
    with_lower_but Upper q h = refl
    with_lower_but Lower q h = elim h [ inl d ↦ absurd (d refl) | inr d ↦ lower_turns.there q d ]
    with_lower_but Leaf q h = lowers_stay q

  -- a lower node's tile becomes a leaf
  module _ (t : Layout V) (sound : IsSound bits t) (p : Coord) (u s : ℕ) (c : Cell V) (n m : List (Entry V)) (k : LeafOf V) (lowers : Contents (List (Entry V))) (leaves : Contents (LeafOf V))
      (at_upper : upper_entry bits t p ≡ Child u) (tiled : lower_entry bits t p ≡ Tile c)
      (was : node_at t.lowers u ≡ Some n) (sets : SetsEntry n m (offset bits Lower p) (Child s)) (changed : Puts t.lowers lowers u (Some m))
      (free : node_at t.leaves s ≡ None) (put : Puts t.leaves leaves s (Some k)) where
    abbrev pub with_leaf : Layout V
    with_leaf = record t { lowers = lowers; leaves = leaves }

    leaf_turns : Turns (block_number bits Leaf) p (lower_entry bits t) (lower_entry bits with_leaf) (Child s)
    leaf_turns =
        node_turns (λ node i. slice_index_or node i (Tile (background_cell t))) Tile (Tile (background_cell t)) bits Lower (upper_entry bits t) t.lowers lowers p u n m (Child s) (upper_by_block bits t) sound.lowers at_upper was changed
        (sets.changed _) (sets.others _)

    pub with_leaf_adds : AddsNodes bits t with_leaf
    with_leaf_adds = adds t with_leaf (λ q cell e. e) (λ q cell e. e) (turned_tiles (block_number bits Leaf) p s _ _ leaf_turns) (λ k h. h)

    pub with_leaf_sound : IsSound bits with_leaf
    with_leaf_sound = record {
      limit = sound.limit;
      apart = sound.apart;
      keys = sound.keys;
      uppers = sound.uppers;
      lowers = owned_after bits Lower _ _ _ _ _ _ was changed sound.lowers;
      leaves = split_owned bits Leaf (lower_entry bits t) (lower_entry bits with_leaf) t.leaves leaves p s k c sound.leaves free (λ r e. lower_by_block bits t r p e ∙ tiled) leaf_turns put;
    }

    pub with_leaf_at : lower_entry bits with_leaf p ≡ Child s
    with_leaf_at = leaf_turns.here p refl

    pub with_leaf_but : KeepsAllBut bits Leaf t with_leaf p
    with_leaf_but Upper q h = refl
    with_leaf_but Lower q h = refl
    with_leaf_but Leaf q h = elim h [ inl d ↦ absurd (d refl) | inr d ↦ leaf_turns.there q d ]

    -- the cells outside p's leaf extent stay
    pub with_leaf_elsewhere : (q : Coord) → block_number bits Leaf q ≢ block_number bits Leaf p → cell_at bits with_leaf q ≡ cell_at bits t q
    unfolding cell_at
    with_leaf_elsewhere q d =
        let same = leaf_turns.there q d in
        rw same (within_same (cell_in (background_cell t)) (λ cell. cell) (background_cell t) t.leaves leaves (lower_entry bits t q) (offset bits Leaf q) (λ r e. put.others r (not_vacant t.leaves leaves s r (sound.leaves.held q r e) free)))

    -- p's leaf extent gets the leaf's cells
    pub with_leaf_field : field_of bits with_leaf ≡ with_leaf_cells bits p k (field_of bits t)
    with_leaf_field = same_field bits with_leaf t.background _ refl (λ q inside.
        elim (coord_cases (block_number bits Leaf p) (block_number bits Leaf q)) [
          | inl e ↦
              let yes = like_coords (block_number bits Leaf p) (block_number bits Leaf q) e in
              rw yes (leaf_cell bits with_leaf p s k with_leaf_at put.here q (sym e))
          | inr d ↦
              let at = cell_inside t.background (cell_at bits t) q inside in
              let no = unlike_coords (block_number bits Leaf p) (block_number bits Leaf q) d in
              rw (no, at) (with_leaf_elsewhere q (λ e. d (sym e)))
        ])

    -- a leaf with the tile's cell all over
    module _ (const : IsConstantLeaf k (entry_count bits.leaf) c) where
      cells_stay : (q : Coord) → cell_at bits with_leaf q ≡ cell_at bits t q
      unfolding cell_at
      cells_stay =
          split_below (cell_in (background_cell t)) (λ cell. cell) (background_cell t) bits Leaf (lower_entry bits t) (lower_entry bits with_leaf) t.leaves leaves p s k c sound.leaves free
          (λ r e. lower_by_block bits t r p e ∙ tiled) leaf_turns put (λ q. const (background_cell t) _ (index_below bits Leaf q))

      pub with_leaf_keeps : Keeps bits t with_leaf
      with_leaf_keeps = record { head = record { background = refl; limit = refl }; cells = cells_stay }

  -- an upper extent gets the entry that it has, or that its absence stands for
  module _ (t : Layout V) (sound : IsSound bits t) (p : Coord) (x : Entry V) (root : List (Coord × Entry V))
      (tiled : root_entry bits t p ≡ x)
      (changed : (q : Coord) → root_at root q ≡ (if coord_eq (key bits p) q then Some x else root_at t.root q)) where
    abbrev pub with_entry : Layout V
    with_entry = record t { root = root }

    entry_turns : Turns (block_number bits Upper) p (root_entry bits t) (root_entry bits with_entry) x
    entry_turns = root_turns bits t with_entry p x refl changed

    entries_stay : (q : Coord) → root_entry bits with_entry q ≡ root_entry bits t q
    entries_stay q =
        elim (coord_cases (key bits q) (key bits p)) [
          | inl e ↦ entry_turns.here q e ∙ sym (root_by_block bits t q p e ∙ tiled)
          | inr d ↦ entry_turns.there q d
        ]

    upper_too : (q : Coord) → upper_entry bits with_entry q ≡ upper_entry bits t q
    upper_too q = let e = entries_stay q in rw e refl

    lower_too : (q : Coord) → lower_entry bits with_entry q ≡ lower_entry bits t q
    lower_too = lowers_from t with_entry refl refl upper_too

    pub with_entry_keeps : Keeps bits t with_entry
    with_entry_keeps = record { head = record { background = refl; limit = refl }; cells = cells_from t with_entry refl refl lower_too }

    pub with_entry_adds : AddsNodes bits t with_entry
    with_entry_adds = adds t with_entry (same_tiles _ _ entries_stay) (same_tiles _ _ upper_too) (same_tiles _ _ lower_too) (put_keys t root (key bits p) x changed)

    pub with_entry_sound : IsTrue (is_inside (block_numbers bits Upper) (key bits p)) → length root ≤ t.limit → IsDistinct coord_eq (keys_of root) → IsSound bits with_entry
    with_entry_sound inside capacity apart = record {
      limit = capacity;
      apart = apart;
      keys = root_keys bits t root (key bits p) x sound inside changed;
      uppers = owned_as bits Upper _ _ _ entries_stay sound.uppers;
      lowers = owned_as bits Lower _ _ _ upper_too sound.lowers;
      leaves = owned_as bits Leaf _ _ _ lower_too sound.leaves;
    }

    pub with_entry_same : (q : Coord) → SameDescent bits t with_entry q
    with_entry_same q Upper = entries_stay q
    with_entry_same q Lower = upper_too q
    with_entry_same q Leaf = lower_too q

  -- a table with the same entries, and pools with the same nodes
  module _ (t n : Layout V) (b : n.background ≡ t.background) (r : (k : Coord) → root_at n.root k ≡ root_at t.root k) (u : n.uppers.nodes ≡ t.uppers.nodes) (l : n.lowers.nodes ≡ t.lowers.nodes) (f : n.leaves.nodes ≡ t.leaves.nodes) (m : n.limit ≡ t.limit) where
    same_root : (q : Coord) → root_entry bits n q ≡ root_entry bits t q
    same_root q = let e = r (key bits q) in rw (b, e) refl

    same_uppers : (q : Coord) → upper_entry bits n q ≡ upper_entry bits t q
    same_uppers q = let e = same_root q in rw (e, u, b) refl

    same_lowers : (q : Coord) → lower_entry bits n q ≡ lower_entry bits t q
    same_lowers q = let e = same_uppers q in rw (e, l, b) refl

    same_cells : (q : Coord) → cell_at bits n q ≡ cell_at bits t q
    unfolding cell_at
    same_cells q = let e = same_lowers q in rw (e, f, b) refl

    pub alike_keeps : Keeps bits t n
    alike_keeps = record { head = record { background = b; limit = m }; cells = same_cells }

    pub alike_adds : AddsNodes bits t n
    alike_adds = adds t n (same_tiles _ _ same_root) (same_tiles _ _ same_uppers) (same_tiles _ _ same_lowers) (λ k h. let e = r k in rw e h)

    pub alike_sound : IsSound bits t → length n.root ≤ length t.root → IsDistinct coord_eq (keys_of n.root) → IsSound bits n
    alike_sound sound size apart = record {
      limit = let within = sound.limit in rw m (omega (arith, size, within));
      apart = apart;
      keys = λ k h. let e = r k in sound.keys k (rw e at h);
      uppers = owned_as bits Upper _ _ _ same_root (owned_nodes bits Upper _ t.uppers n.uppers u sound.uppers);
      lowers = owned_as bits Lower _ _ _ same_uppers (owned_nodes bits Lower _ t.lowers n.lowers l sound.lowers);
      leaves = owned_as bits Leaf _ _ _ same_lowers (owned_nodes bits Leaf _ t.leaves n.leaves f sound.leaves);
    }

    -- over each coordinate the entries are the same
    pub alike_descent : (q : Coord) → SameDescent bits t n q
    alike_descent q Upper = same_root q
    alike_descent q Lower = same_uppers q
    alike_descent q Leaf = same_lowers q

    pub alike_tree : length n.root ≡ length t.root → IsSameTree bits t n
    alike_tree size = record { table = r; entries = alike_descent; counts = rw (size, u, l, f) refl }

  -- pools with other capacity, and the same nodes
  module _ (t n : Layout V) (b : n.background ≡ t.background) (r : n.root ≡ t.root) (u : n.uppers.nodes ≡ t.uppers.nodes) (l : n.lowers.nodes ≡ t.lowers.nodes) (f : n.leaves.nodes ≡ t.leaves.nodes) (m : n.limit ≡ t.limit) where
    same_entries : (k : Coord) → root_at n.root k ≡ root_at t.root k
    same_entries k = rw r refl

    pub capacity_keeps : Keeps bits t n
    capacity_keeps = alike_keeps t n b same_entries u l f m

    pub capacity_adds : AddsNodes bits t n
    capacity_adds = alike_adds t n b same_entries u l f m

    pub capacity_but : (level : Level) (p : Coord) → KeepsAllBut bits level t n p
    capacity_but level p k q h = alike_descent t n b same_entries u l f m q k

    pub capacity_sound : IsSound bits t → IsSound bits n
    capacity_sound sound = alike_sound t n b same_entries u l f m sound (rw r (omega arith)) (rw r sound.apart)
