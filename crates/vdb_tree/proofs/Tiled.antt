-- What the descents meet after a node is collapsed into a tile.
use Rattle.vdb_tree.proofs.Common.{◌≡◌, ◌≢◌, inl, inr, ℕ, ◌≤◌, cond, List, length, refl, sym, ap, ◌∙◌, arith, Option, Some, None, IsSome, slice_index_or, IsDistinct, keys_of, option_map_or, eqb_tells, block_number, key, offset, coord_eq, Bits, Coord, Level, Leaf, Lower, Upper, SetsEntry, cell_in, Entry, Child, Tile, Contents, node_at, Cell, Fills, Turns, Layout, lower_entry, background_cell, root_at, root_entry, upper_entry, within, IsOwned, IsSound}
use Rattle.vdb_node.specs.Leaf.{Leaf as LeafOf}
use Rattle.vdb_tree.specs.Layout.{cell_at}
use Rattle.vdb_tree.proofs.Descents.{lower_by_block, root_by_block, upper_by_block, tile_lower, tile_upper}
use Rattle.vdb_tree.proofs.Levels.{IsByBlock, Puts, child_slot, coord_cases, like_coords, node_turns, owned_after, some_held, tile_no_child, tile_or_child, unlike_coords, within_same}

-- ---- at any level

-- what is read below entries that became tiles, if the nodes of the others stay
pub below_turns : {V N E : Type 0} (read : N → ℕ → E) (tile : Cell V → E) (missing : E) (number : Coord → Coord) (index : Coord → ℕ) (f g : Coord → Entry V) (old new : Contents N) (p : Coord) (c : Cell V)
    → Turns number p f g (Tile c) → ((q : Coord) (r : ℕ) → number q ≢ number p → f q ≡ Child r → node_at new r ≡ node_at old r)
    → Turns number p (λ q. within read tile missing old (f q) (index q)) (λ q. within read tile missing new (g q) (index q)) (tile c)
below_turns read tile missing number index f g old new p c turns stay = record {
  here = λ q e. let a = turns.here q e in rw a refl;
  there = λ q d.
      let a = turns.there q d in
      rw a (within_same read tile missing old new (f q) (index q) (λ r e. stay q r d e));
}

-- a child after the change is in another block, and was there before
elsewhere : {V : Type 0} (number : Coord → Coord) (f g : Coord → Entry V) (p : Coord) (c : Cell V) → Turns number p f g (Tile c) → (q : Coord) (r : ℕ) → g q ≡ Child r → (number q ≢ number p) × (f q ≡ Child r)
elsewhere number f g p c turns q r e =
    elim (coord_cases (number q) (number p)) [
      | inl b ↦ absurd (tile_no_child c r (sym (turns.here q b) ∙ e))
      | inr d ↦ (d, sym (turns.there q d) ∙ e)
    ]

module _ {V N : Type 0} (bits : Bits) (level : Level) (f g : Coord → Entry V) (p : Coord) (c : Cell V) where
  -- entries without children became tiles
  pub childless_owned : (number : Coord → Coord) (pool : Contents N) → Turns number p f g (Tile c) → IsOwned bits level f pool → ((q : Coord) (r : ℕ) → number q ≡ number p → f q ≡ Child r → ⊥) → IsOwned bits level g pool
  childless_owned number pool turns owned childless = record {
    held = λ q r e. owned.held q r (elsewhere number f g p c turns q r e).1;
    own = λ q t r e k. owned.own q t r (elsewhere number f g p c turns q r e).1 (elsewhere number f g p c turns t r k).1;
    met = λ r h.
        let m = owned.met r h in
        elim (coord_cases (number m.0) (number p)) [
          | inl b ↦ absurd (childless m.0 r b m.1)
          | inr d ↦ (m.0, turns.there m.0 d ∙ m.1)
        ];
  }

  module _ (old new : Contents N) (s : ℕ) (owned : IsOwned bits level f old) (child : f p ≡ Child s) (taken : Puts old new s None) where
    -- in any other block the child is another one, and its node stays
    pub other_stays : (q : Coord) (r : ℕ) → block_number bits level q ≢ block_number bits level p → f q ≡ Child r → node_at new r ≡ node_at old r
    other_stays q r d e = taken.others r (λ k. d (owned.own q p s (e ∙ ap Child k) child))

    -- a child became a tile, and its node was removed
    pub dropped_owned : IsByBlock bits level f → Turns (block_number bits level) p f g (Tile c) → IsOwned bits level g new
    dropped_owned by turns = record {
      held = λ q r e. let w = elsewhere (block_number bits level) f g p c turns q r e in rw (other_stays q r w.0 w.1) (owned.held q r w.1);
      own = λ q t r e k. owned.own q t r (elsewhere (block_number bits level) f g p c turns q r e).1 (elsewhere (block_number bits level) f g p c turns t r k).1;
      met = λ r h.
          elim (eqb_tells r s) [
            | inl e ↦ absurd (some_held _ h (ap (node_at new) e.1 ∙ taken.here))
            | inr e ↦
                let m = owned.met r (rw (← taken.others r e.1) h) in
                elim (coord_cases (block_number bits level m.0) (block_number bits level p)) [
                  | inl b ↦ absurd (e.1 (child_slot {V = V} r s (sym m.1 ∙ by m.0 p b ∙ child)))
                  | inr d ↦ (m.0, turns.there m.0 d ∙ m.1)
                ]
          ];
    }

-- ---- a leaf

module _ {V : Type 0} (bits : Bits) (t : Layout V) (sound : IsSound bits t) (p : Coord) (u s : ℕ) (c : Cell V) (n m : List (Entry V)) (lowers : Contents (List (Entry V))) (leaves : Contents (LeafOf V))
    (at : upper_entry bits t p ≡ Child u) (child : lower_entry bits t p ≡ Child s) (was : node_at t.lowers u ≡ Some n) (sets : SetsEntry n m (offset bits Lower p) (Tile c))
    (put : Puts t.lowers lowers u (Some m)) (taken : Puts t.leaves leaves s None) where
  abbrev leaf_dropped : Layout V
  leaf_dropped = record t { lowers = lowers; leaves = leaves }

  pub leaf_entries : Turns (block_number bits Leaf) p (lower_entry bits t) (lower_entry bits leaf_dropped) (Tile c)
  leaf_entries =
      node_turns (λ node i. slice_index_or node i (Tile (background_cell t))) Tile (Tile (background_cell t)) bits Lower (upper_entry bits t) t.lowers lowers p u n m (Tile c) (upper_by_block bits t) sound.lowers at was put
      (sets.changed _) (sets.others _)

  leaf_cells : Turns (block_number bits Leaf) p (cell_at bits t) (cell_at bits leaf_dropped) c
  unfolding cell_at
  leaf_cells =
      below_turns (cell_in (background_cell t)) (λ cell. cell) (background_cell t) (block_number bits Leaf) (offset bits Leaf) (lower_entry bits t) (lower_entry bits leaf_dropped) t.leaves leaves p c leaf_entries
      (other_stays bits Leaf (lower_entry bits t) (lower_entry bits leaf_dropped) p c t.leaves leaves s sound.leaves child taken)

  pub leaf_fills : Fills bits Leaf t leaf_dropped p c
  leaf_fills = record { head = record { background = refl; limit = refl }; cells = leaf_cells }

  pub leaf_sound : IsSound bits leaf_dropped
  leaf_sound = record {
    limit = sound.limit;
    apart = sound.apart;
    keys = sound.keys;
    uppers = sound.uppers;
    lowers = owned_after bits Lower _ _ _ _ _ _ was put sound.lowers;
    leaves = dropped_owned bits Leaf (lower_entry bits t) (lower_entry bits leaf_dropped) p c t.leaves leaves s sound.leaves child taken (lower_by_block bits t) leaf_entries;
  }

-- ---- a tile of a lower node

module _ {V : Type 0} (bits : Bits) (t : Layout V) (sound : IsSound bits t) (p : Coord) (u : ℕ) (b c : Cell V) (n m : List (Entry V)) (lowers : Contents (List (Entry V)))
    (at : upper_entry bits t p ≡ Child u) (tiled : lower_entry bits t p ≡ Tile b) (was : node_at t.lowers u ≡ Some n) (sets : SetsEntry n m (offset bits Lower p) (Tile c))
    (put : Puts t.lowers lowers u (Some m)) where
  abbrev lower_tile : Layout V
  lower_tile = record t { lowers = lowers }

  pub lower_tile_entries : Turns (block_number bits Leaf) p (lower_entry bits t) (lower_entry bits lower_tile) (Tile c)
  lower_tile_entries =
      node_turns (λ node i. slice_index_or node i (Tile (background_cell t))) Tile (Tile (background_cell t)) bits Lower (upper_entry bits t) t.lowers lowers p u n m (Tile c) (upper_by_block bits t) sound.lowers at was put
      (sets.changed _) (sets.others _)

  lower_tile_cells : Turns (block_number bits Leaf) p (cell_at bits t) (cell_at bits lower_tile) c
  unfolding cell_at
  lower_tile_cells =
      below_turns (cell_in (background_cell t)) (λ cell. cell) (background_cell t) (block_number bits Leaf) (offset bits Leaf) (lower_entry bits t) (lower_entry bits lower_tile) t.leaves t.leaves p c lower_tile_entries (λ q r d e. refl)

  pub lower_tile_fills : Fills bits Leaf t lower_tile p c
  lower_tile_fills = record { head = record { background = refl; limit = refl }; cells = lower_tile_cells }

  pub lower_tile_sound : IsSound bits lower_tile
  lower_tile_sound = record {
    limit = sound.limit;
    apart = sound.apart;
    keys = sound.keys;
    uppers = sound.uppers;
    lowers = owned_after bits Lower _ _ _ _ _ _ was put sound.lowers;
    leaves = childless_owned bits Leaf (lower_entry bits t) (lower_entry bits lower_tile) p c (block_number bits Leaf) t.leaves lower_tile_entries sound.leaves
        (λ q r same e. tile_no_child b r (sym tiled ∙ sym (lower_by_block bits t q p same) ∙ e));
  }

-- ---- a tile of an upper node

module _ {V : Type 0} (bits : Bits) (t : Layout V) (sound : IsSound bits t) (p : Coord) (u : ℕ) (b c : Cell V) (n m : List (Entry V)) (uppers : Contents (List (Entry V)))
    (at : root_entry bits t p ≡ Child u) (tiled : upper_entry bits t p ≡ Tile b) (was : node_at t.uppers u ≡ Some n) (sets : SetsEntry n m (offset bits Upper p) (Tile c))
    (put : Puts t.uppers uppers u (Some m)) where
  abbrev upper_tile : Layout V
  upper_tile = record t { uppers = uppers }

  -- below the tile there is no child
  tiles_there : (q : Coord) → block_number bits Lower q ≡ block_number bits Lower p → upper_entry bits t q ≡ Tile b
  tiles_there q same = upper_by_block bits t q p same ∙ tiled

  pub upper_tile_uppers : Turns (block_number bits Lower) p (upper_entry bits t) (upper_entry bits upper_tile) (Tile c)
  upper_tile_uppers =
      node_turns (λ node i. slice_index_or node i (Tile (background_cell t))) Tile (Tile (background_cell t)) bits Upper (root_entry bits t) t.uppers uppers p u n m (Tile c) (root_by_block bits t) sound.uppers at was put
      (sets.changed _) (sets.others _)

  pub upper_tile_lowers : Turns (block_number bits Lower) p (lower_entry bits t) (lower_entry bits upper_tile) (Tile c)
  upper_tile_lowers =
      below_turns (λ node i. slice_index_or node i (Tile (background_cell t))) Tile (Tile (background_cell t)) (block_number bits Lower) (offset bits Lower) (upper_entry bits t) (upper_entry bits upper_tile) t.lowers t.lowers p c upper_tile_uppers
      (λ q r d e. refl)

  upper_tile_cells : Turns (block_number bits Lower) p (cell_at bits t) (cell_at bits upper_tile) c
  unfolding cell_at
  upper_tile_cells =
      below_turns (cell_in (background_cell t)) (λ cell. cell) (background_cell t) (block_number bits Lower) (offset bits Leaf) (lower_entry bits t) (lower_entry bits upper_tile) t.leaves t.leaves p c upper_tile_lowers (λ q r d e. refl)

  pub upper_tile_fills : Fills bits Lower t upper_tile p c
  upper_tile_fills = record { head = record { background = refl; limit = refl }; cells = upper_tile_cells }

  pub upper_tile_sound : IsSound bits upper_tile
  upper_tile_sound = record {
    limit = sound.limit;
    apart = sound.apart;
    keys = sound.keys;
    uppers = owned_after bits Upper _ _ _ _ _ _ was put sound.uppers;
    lowers = childless_owned bits Lower (upper_entry bits t) (upper_entry bits upper_tile) p c (block_number bits Lower) t.lowers upper_tile_uppers sound.lowers
        (λ q r same e. tile_no_child b r (sym (tiles_there q same) ∙ e));
    leaves = childless_owned bits Leaf (lower_entry bits t) (lower_entry bits upper_tile) p c (block_number bits Lower) t.leaves upper_tile_lowers sound.leaves
        (λ q r same e. tile_no_child b r (sym (tile_lower bits t b q (tiles_there q same)) ∙ e));
  }

-- ---- a lower node without children

module _ {V : Type 0} (bits : Bits) (t : Layout V) (sound : IsSound bits t) (p : Coord) (u s : ℕ) (c : Cell V) (n m : List (Entry V)) (uppers lowers : Contents (List (Entry V)))
    (at : root_entry bits t p ≡ Child u) (child : upper_entry bits t p ≡ Child s) (childless : (q : Coord) (r : ℕ) → block_number bits Lower q ≡ block_number bits Lower p → lower_entry bits t q ≡ Child r → ⊥)
    (was : node_at t.uppers u ≡ Some n) (sets : SetsEntry n m (offset bits Upper p) (Tile c))
    (put : Puts t.uppers uppers u (Some m)) (taken : Puts t.lowers lowers s None) where
  abbrev lower_dropped : Layout V
  lower_dropped = record t { uppers = uppers; lowers = lowers }

  pub lower_uppers : Turns (block_number bits Lower) p (upper_entry bits t) (upper_entry bits lower_dropped) (Tile c)
  lower_uppers =
      node_turns (λ node i. slice_index_or node i (Tile (background_cell t))) Tile (Tile (background_cell t)) bits Upper (root_entry bits t) t.uppers uppers p u n m (Tile c) (root_by_block bits t) sound.uppers at was put
      (sets.changed _) (sets.others _)

  pub lower_lowers : Turns (block_number bits Lower) p (lower_entry bits t) (lower_entry bits lower_dropped) (Tile c)
  lower_lowers =
      below_turns (λ node i. slice_index_or node i (Tile (background_cell t))) Tile (Tile (background_cell t)) (block_number bits Lower) (offset bits Lower) (upper_entry bits t) (upper_entry bits lower_dropped) t.lowers lowers p c lower_uppers
      (other_stays bits Lower (upper_entry bits t) (upper_entry bits lower_dropped) p c t.lowers lowers s sound.lowers child taken)

  lower_cells : Turns (block_number bits Lower) p (cell_at bits t) (cell_at bits lower_dropped) c
  unfolding cell_at
  lower_cells = below_turns (cell_in (background_cell t)) (λ cell. cell) (background_cell t) (block_number bits Lower) (offset bits Leaf) (lower_entry bits t) (lower_entry bits lower_dropped) t.leaves t.leaves p c lower_lowers (λ q r d e. refl)

  pub lower_fills : Fills bits Lower t lower_dropped p c
  lower_fills = record { head = record { background = refl; limit = refl }; cells = lower_cells }

  pub lower_sound : IsSound bits lower_dropped
  lower_sound = record {
    limit = sound.limit;
    apart = sound.apart;
    keys = sound.keys;
    uppers = owned_after bits Upper _ _ _ _ _ _ was put sound.uppers;
    lowers = dropped_owned bits Lower (upper_entry bits t) (upper_entry bits lower_dropped) p c t.lowers lowers s sound.lowers child taken (upper_by_block bits t) lower_uppers;
    leaves = childless_owned bits Leaf (lower_entry bits t) (lower_entry bits lower_dropped) p c (block_number bits Lower) t.leaves lower_lowers sound.leaves childless;
  }

-- ---- an entry of the table

module _ {V : Type 0} (bits : Bits) (t : Layout V) (p : Coord) (o : Option (Entry V)) (root : List (Coord × Entry V))
    (updates : (k : Coord) → root_at root k ≡ cond (coord_eq (key bits p) k) o (root_at t.root k)) where
  abbrev pub rooted : Layout V
  rooted = record t { root = root }

  pub root_elsewhere : (k : Coord) → k ≢ key bits p → root_at root k ≡ root_at t.root k
  root_elsewhere k d = let e = unlike_coords (key bits p) k (λ f. d (sym f)) in let u = updates k in rw e at u

  pub root_here : root_at root (key bits p) ≡ o
  root_here = let e = like_coords (key bits p) (key bits p) refl in let u = updates (key bits p) in rw e at u

  pub root_turns : Turns (block_number bits Upper) p (root_entry bits t) (root_entry bits rooted) (option_map_or (λ entry. entry) o (Tile (background_cell t)))
  root_turns = record {
    here = λ q e. ap (λ k. option_map_or (λ entry. entry) (root_at root k) (Tile (background_cell t))) e ∙ ap (λ x. option_map_or (λ entry. entry) x (Tile (background_cell t))) root_here;
    there = λ q d. ap (λ x. option_map_or (λ entry. entry) x (Tile (background_cell t))) (root_elsewhere (key bits q) d);
  }

  -- no key without an entry gets one
  pub root_keys : (IsSome o → IsSome (root_at t.root (key bits p))) → (k : Coord) → IsSome (root_at root k) → IsSome (root_at t.root k)
  root_keys had k h =
      elim (coord_cases k (key bits p)) [
        | inl e ↦ let r = root_here in rw e (had (rw (← r) (rw e at h)))
        | inr d ↦ let r = root_elsewhere k d in rw (← r) h
      ]

-- if the table has a child under a key, the entry isn't absent
pub root_present : {V : Type 0} (bits : Bits) (t : Layout V) (p : Coord) (s : ℕ) → root_entry bits t p ≡ Child s → IsSome (root_at t.root (key bits p))
root_present bits t p s e = present (root_at t.root (key bits p)) (background_cell t) e
  where
    present : {V : Type 0} (o : Option (Entry V)) (c : Cell V) → option_map_or (λ entry. entry) o (Tile c) ≡ Child s → IsSome o
    present None c h = absurd (tile_no_child c s h)
    present (Some x) c h = refl

-- ---- an upper node without children

module _ {V : Type 0} (bits : Bits) (t : Layout V) (sound : IsSound bits t) (p : Coord) (s : ℕ) (c : Cell V) (root : List (Coord × Entry V)) (uppers : Contents (List (Entry V)))
    (child : root_entry bits t p ≡ Child s) (childless : (q : Coord) (r : ℕ) → block_number bits Upper q ≡ block_number bits Upper p → upper_entry bits t q ≡ Child r → ⊥)
    (updates : (k : Coord) → root_at root k ≡ cond (coord_eq (key bits p) k) (Some (Tile c)) (root_at t.root k))
    (size : length root ≤ length t.root) (apart : IsDistinct coord_eq (keys_of root)) (taken : Puts t.uppers uppers s None) where
  abbrev upper_dropped : Layout V
  upper_dropped = record t { root = root; uppers = uppers }

  pub upper_roots : Turns (block_number bits Upper) p (root_entry bits t) (root_entry bits upper_dropped) (Tile c)
  upper_roots = root_turns bits t p (Some (Tile c)) root updates

  pub upper_uppers : Turns (block_number bits Upper) p (upper_entry bits t) (upper_entry bits upper_dropped) (Tile c)
  upper_uppers =
      below_turns (λ node i. slice_index_or node i (Tile (background_cell t))) Tile (Tile (background_cell t)) (block_number bits Upper) (offset bits Upper) (root_entry bits t) (root_entry bits upper_dropped) t.uppers uppers p c upper_roots
      (other_stays bits Upper (root_entry bits t) (root_entry bits upper_dropped) p c t.uppers uppers s sound.uppers child taken)

  pub upper_lowers : Turns (block_number bits Upper) p (lower_entry bits t) (lower_entry bits upper_dropped) (Tile c)
  upper_lowers =
      below_turns (λ node i. slice_index_or node i (Tile (background_cell t))) Tile (Tile (background_cell t)) (block_number bits Upper) (offset bits Lower) (upper_entry bits t) (upper_entry bits upper_dropped) t.lowers t.lowers p c upper_uppers (λ q r d e. refl)

  upper_cells : Turns (block_number bits Upper) p (cell_at bits t) (cell_at bits upper_dropped) c
  unfolding cell_at
  upper_cells = below_turns (cell_in (background_cell t)) (λ cell. cell) (background_cell t) (block_number bits Upper) (offset bits Leaf) (lower_entry bits t) (lower_entry bits upper_dropped) t.leaves t.leaves p c upper_lowers (λ q r d e. refl)

  pub upper_fills : Fills bits Upper t upper_dropped p c
  upper_fills = record { head = record { background = refl; limit = refl }; cells = upper_cells }

  -- below the tile there are no leaves either
  leafless : (q : Coord) (r : ℕ) → block_number bits Upper q ≡ block_number bits Upper p → lower_entry bits t q ≡ Child r → ⊥
  leafless q r b e =
      elim (tile_or_child (upper_entry bits t q)) [
        | inl h ↦ tile_no_child h.0 r (sym (tile_lower bits t h.0 q h.1) ∙ e)
        | inr h ↦ childless q h.0 b h.1
      ]

  pub upper_sound : IsSound bits upper_dropped
  upper_sound = record {
    limit = omega (arith, size, sound.limit);
    apart = apart;
    keys = λ k h. sound.keys k (root_keys bits t p (Some (Tile c)) root updates (λ _. root_present bits t p s child) k h);
    uppers = dropped_owned bits Upper (root_entry bits t) (root_entry bits upper_dropped) p c t.uppers uppers s sound.uppers child taken (root_by_block bits t) upper_roots;
    lowers = childless_owned bits Lower (upper_entry bits t) (upper_entry bits upper_dropped) p c (block_number bits Upper) t.lowers upper_uppers sound.lowers childless;
    leaves = childless_owned bits Leaf (lower_entry bits t) (lower_entry bits upper_dropped) p c (block_number bits Upper) t.leaves upper_lowers sound.leaves leafless;
  }

-- ---- a tile of the table

module _ {V : Type 0} (bits : Bits) (t : Layout V) (sound : IsSound bits t) (p : Coord) (b c : Cell V) (root : List (Coord × Entry V))
    (was : root_at t.root (key bits p) ≡ Some (Tile b)) (updates : (k : Coord) → root_at root k ≡ cond (coord_eq (key bits p) k) (Some (Tile c)) (root_at t.root k))
    (size : length root ≡ length t.root) (apart : IsDistinct coord_eq (keys_of root)) where
  abbrev root_tile : Layout V
  root_tile = record t { root = root }

  root_tile_roots : Turns (block_number bits Upper) p (root_entry bits t) (root_entry bits root_tile) (Tile c)
  root_tile_roots = root_turns bits t p (Some (Tile c)) root updates

  pub root_tile_uppers : Turns (block_number bits Upper) p (upper_entry bits t) (upper_entry bits root_tile) (Tile c)
  root_tile_uppers =
      below_turns (λ node i. slice_index_or node i (Tile (background_cell t))) Tile (Tile (background_cell t)) (block_number bits Upper) (offset bits Upper) (root_entry bits t) (root_entry bits root_tile) t.uppers t.uppers p c root_tile_roots
      (λ q r d e. refl)

  pub root_tile_lowers : Turns (block_number bits Upper) p (lower_entry bits t) (lower_entry bits root_tile) (Tile c)
  root_tile_lowers =
      below_turns (λ node i. slice_index_or node i (Tile (background_cell t))) Tile (Tile (background_cell t)) (block_number bits Upper) (offset bits Lower) (upper_entry bits t) (upper_entry bits root_tile) t.lowers t.lowers p c root_tile_uppers
      (λ q r d e. refl)

  root_tile_cells : Turns (block_number bits Upper) p (cell_at bits t) (cell_at bits root_tile) c
  unfolding cell_at
  root_tile_cells =
      below_turns (cell_in (background_cell t)) (λ cell. cell) (background_cell t) (block_number bits Upper) (offset bits Leaf) (lower_entry bits t) (lower_entry bits root_tile) t.leaves t.leaves p c root_tile_lowers (λ q r d e. refl)

  pub root_tile_fills : Fills bits Upper t root_tile p c
  root_tile_fills = record { head = record { background = refl; limit = refl }; cells = root_tile_cells }

  root_tiles_there : (q : Coord) → block_number bits Upper q ≡ block_number bits Upper p → root_entry bits t q ≡ Tile b
  root_tiles_there q same = root_by_block bits t q p same ∙ rw was refl

  pub root_tile_sound : IsSound bits root_tile
  root_tile_sound = record {
    limit = omega (arith, size, sound.limit);
    apart = apart;
    keys = λ k h. sound.keys k (root_keys bits t p (Some (Tile c)) root updates (λ _. rw was refl) k h);
    uppers = childless_owned bits Upper (root_entry bits t) (root_entry bits root_tile) p c (block_number bits Upper) t.uppers root_tile_roots sound.uppers
        (λ q r same e. tile_no_child b r (sym (root_tiles_there q same) ∙ e));
    lowers = childless_owned bits Lower (upper_entry bits t) (upper_entry bits root_tile) p c (block_number bits Upper) t.lowers root_tile_uppers sound.lowers
        (λ q r same e. tile_no_child b r (sym (tile_upper bits t b q (root_tiles_there q same)) ∙ e));
    leaves = childless_owned bits Leaf (lower_entry bits t) (lower_entry bits root_tile) p c (block_number bits Upper) t.leaves root_tile_lowers sound.leaves
        (λ q r same e. tile_no_child b r (sym (tile_lower bits t b q (tile_upper bits t b q (root_tiles_there q same))) ∙ e));
  }
