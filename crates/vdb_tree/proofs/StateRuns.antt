-- What a pass has done that sets the states of a node's entries by a rule.
use Rattle.vdb_tree.proofs.Common.{◌≡◌, ◌≢◌, ◌⊎◌, inl, inr, ℕ, ◌+◌, ◌<◌, ◌≤◌, Bool, true, false, List, refl, sym, ap, ◌∙◌, arith, IsTrue, subst, IfNone, IfSome, Option, Some, None, block_around, block_number, entries, offset, sub_block, AreBits, everywhere, is_inside, Bits, Coord, Level, Leaf, Lower, Upper, block_in_range, corner_of_entry, entry_from_offset, lower_from_leaf, offset_from_entry, entries_is, offset_below, is_on, entry_count, Child, Tile, node_at, Cell, Fills, KeepsUppers, Turns, Layout, cell_at, entry_over, field_of, lower_entry, root_at, upper_entry, StateRule, Unite, Subtract, Intersect, IsInactiveFrom, IsNextActive, acts_at, IsRefinedFor, made, SetsBlock, state_of, SetsRun}
use Rattle.vdb_node.specs.Leaf.{Leaf as LeafOf}
use Rattle.vdb_tree.specs.internal.StateRuns.{acts, AreSettled, AreStatesOf, FillsLeafStates, IsAmong, IsNextToSet, IsNextToSetAt, SetsLeaf}
use Rattle.vdb_tree.proofs.Constants.{entries_few}
use Rattle.vdb_tree.proofs.Descents.{leaf_cell, lower_by_block, tile_cell, tile_lower, upper_by_block}
use Rattle.vdb_tree.proofs.Fields.{cell_inside}
use Rattle.vdb_tree.proofs.Levels.{coord_cases, same_tile, tile_no_child}
use Rattle.vdb_tree.proofs.Passes.{head_same, head_trans, root_entry_same, upper_entry_same}

-- ---- booleans

-- if the rule doesn't act on a state, it stays
pub idle_stays : (rule : StateRule) (s t : Bool) → t ≢ acts_at rule → state_of rule s t ≡ s
idle_stays Unite s true idle = absurd (idle refl)
idle_stays Unite true false idle = refl
idle_stays Unite false false idle = refl
idle_stays Subtract s true idle = absurd (idle refl)
idle_stays Subtract true false idle = refl
idle_stays Subtract false false idle = refl
idle_stays Intersect true true idle = refl
idle_stays Intersect false true idle = refl
idle_stays Intersect s false idle = absurd (idle refl)

-- if the rule acts, a state becomes what the rule makes
pub acting_makes : (rule : StateRule) (s t : Bool) → t ≡ acts_at rule → state_of rule s t ≡ made rule
acting_makes Unite true t same = refl
acting_makes Unite false t same = same
acting_makes Subtract true true same = refl
acting_makes Subtract true false same = sym same
acting_makes Subtract false t same = refl
acting_makes Intersect true t same = same
acting_makes Intersect false t same = refl

-- a state that is what the rule makes stays
pub made_stays : (rule : StateRule) (s t : Bool) → s ≡ made rule → state_of rule s t ≡ s
made_stays Unite true t e = refl
made_stays Unite false t e = absurd (let k : false ≡ true = e in cc)
made_stays Subtract true t e = absurd (let k : true ≡ false = e in cc)
made_stays Subtract false t e = refl
made_stays Intersect true t e = absurd (let k : true ≡ false = e in cc)
made_stays Intersect false t e = refl

-- a rule that makes states active acts only on active ones
pub unites_idle : (rule : StateRule) (t : Bool) → made rule ≡ true → t ≡ false → t ≢ acts_at rule
unites_idle Unite t e off same = let k : false ≡ true = sym off ∙ same in cc
unites_idle Subtract t e off same = let k : false ≡ true = e in cc
unites_idle Intersect t e off same = let k : false ≡ true = e in cc

-- the test whether the rule acts
pub acting_at : (rule : StateRule) (t : Bool) → acts rule t ≡ true → t ≡ acts_at rule
acting_at Unite t e = e
acting_at Subtract t e = e
acting_at Intersect true e = sym e
acting_at Intersect false e = refl

pub idle_at : (rule : StateRule) (t : Bool) → acts rule t ≡ false → t ≢ acts_at rule
idle_at Unite t e same = let k : false ≡ true = sym e ∙ same in cc
idle_at Subtract t e same = let k : false ≡ true = sym e ∙ same in cc
idle_at Intersect true e same = let k : true ≡ false = same in cc
idle_at Intersect false e same = let k : true ≡ false = e in cc

below_or : (a b : ℕ) → (a < b) ⊎ (b ≤ a)
below_or a b = grind arith

never : (a n : ℕ) → n ≤ a → a < n → ⊥
never a n h k = omega (arith, h, k)

least : (n : ℕ) → 0 ≤ n
least n = omega arith

-- the states of a leaf are those of its extent
pub states_of_leaf : {V : Type 0} (bits : Bits) (t : Layout V) (p : Coord) (slot : ℕ) (leaf : LeafOf V) → lower_entry bits t p ≡ Child slot → node_at t.leaves slot ≡ Some leaf
    → (mask : List Bool) → mask ≡ leaf.states → AreStatesOf bits t p mask
states_of_leaf {V} bits t p slot leaf child was mask same q b =
    let at = leaf_cell bits t p slot leaf child was q b in
    ap (λ (m : List Bool). is_on m (offset bits Leaf q)) same ∙ sym (ap (λ (c : Cell V). c.on) at)

-- the corner of an entry lies in the node's block
pub corner_there : (bits : Bits) (p : Coord) (index : ℕ) (c : Coord) → index < entries bits Lower → c ≡ (sub_block bits Lower (block_around bits Lower p) index).min → block_number bits Lower c ≡ block_number bits Lower p
corner_there bits p index c small is = let k = corner_of_entry bits Lower p index small in rw is k.0

-- the index of an entry of a lower node is below 2 to the power 15
pub index_small : (bits : Bits) (i : ℕ) → AreBits bits → i < entries bits Lower → i < 32768
index_small bits i configured h = let k = entries_few bits Lower configured in omega (arith, h, k)

-- a leaf whose mask is one state all over has that state in all of its extent
pub leaf_fills : {V : Type 0} (bits : Bits) (old new : Layout V) (p : Coord) (mask : List Bool) (on : Bool) (capacity : ℕ) → SetsLeaf bits old new p mask
    → entry_count bits.leaf ≤ capacity → ((i : ℕ) → i < capacity → is_on mask i ≡ on) → FillsLeafStates bits old new p on
leaf_fills bits old new p mask on capacity sets few all = record {
  here = λ q b. sets.here q b ∙ ap (λ (s : Bool). record { value = (cell_at bits old q).value; on = s }) (all (offset bits Leaf q) (inside (offset bits Leaf q) (offset_below bits Leaf q)));
  there = sets.there;
  lowers = sets.lowers;
}
  where
    below : (i n m : ℕ) → i < n → n ≤ m → i < m
    below i n m h k = omega (arith, h, k)

    inside : (i : ℕ) → i < entries bits Leaf → i < capacity
    inside i h = below i (entry_count bits.leaf) capacity (subst (λ (n : ℕ). i < n) (entries_is bits Leaf) h) few

module _ {V X : Type 0} (bits : Bits) (rule : StateRule) (u : Layout X) where
  -- a cell with the same state
  same_cell : (c : Cell V) (s : Bool) → s ≡ c.on → c ≡ record { value = c.value; on = s }
  same_cell c s e = rw e refl

  -- ---- one block

  -- if nothing is to change in a block, it is settled
  pub block_settled : (level : Level) (t : Layout V) (p : Coord)
      → ((q : Coord) → block_number bits level q ≡ block_number bits level p → state_of rule (cell_at bits t q).on (cell_at bits u q).on ≡ (cell_at bits t q).on) → SetsBlock bits rule u level t t p
  block_settled level t p settled = record {
    head = head_same t;
    here = λ q b. same_cell (cell_at bits t q) _ (settled q b);
    there = λ q d. refl;
    children = λ l q slot e. e;
    tiles = λ l q tile e. (tile, e, inl refl);
    keys = λ k e. e;
  }

  -- below an idle tile of the other tree nothing changes
  pub idle_settled : (t : Layout V) (p : Coord) (tile : Cell X) → lower_entry bits u p ≡ Tile tile → tile.on ≢ acts_at rule → SetsBlock bits rule u Leaf t t p
  idle_settled t p tile over idle = block_settled Leaf t p (λ q b.
      let at = tile_cell bits u tile q (lower_by_block bits u q p b ∙ over) in
      rw at (idle_stays rule (cell_at bits t q).on tile.on idle))

  -- if the other tree has a leaf, a refined tile is settled
  pub refined_settled : (t : Layout V) (p : Coord) (cell : Cell V) (slot : ℕ) → IsRefinedFor bits rule t u → lower_entry bits t p ≡ Tile cell → lower_entry bits u p ≡ Child slot → SetsBlock bits rule u Leaf t t p
  refined_settled t p cell slot refined tiled over = block_settled Leaf t p (λ q b.
      let at = lower_by_block bits t q p b ∙ tiled in
      elim (refined.tiles Leaf q cell slot at (lower_by_block bits u q p b ∙ over)) [
        | inl e ↦ made_stays rule (cell_at bits t q).on (cell_at bits u q).on (ap (λ (c : Cell V). c.on) (tile_cell bits t cell q at) ∙ e)
        | inr idle ↦ idle_stays rule (cell_at bits t q).on (cell_at bits u q).on idle
      ])

  module _ (old new : Layout V) (p : Coord) (above : KeepsUppers old new) where
    keys_stay : (k : Coord) → root_at new.root k ≡ None → root_at old.root k ≡ None
    keys_stay k e = ap (λ r. root_at r k) (sym above.root) ∙ e

    children_stay : ((q : Coord) (slot : ℕ) → lower_entry bits old q ≡ Child slot → lower_entry bits new q ≡ Child slot)
        → (l : Level) (q : Coord) (slot : ℕ) → entry_over bits l old q ≡ Child slot → entry_over bits l new q ≡ Child slot
    children_stay lowers Upper q slot e = root_entry_same bits old new above.head above.root q ∙ e
    children_stay lowers Lower q slot e = upper_entry_same bits old new above q ∙ e
    children_stay lowers Leaf q slot e = lowers q slot e

    -- a tile that existed before, or that has the state that the rule makes
    abbrev IsOldOrMade : Level → Coord → Cell V → Type 0
    IsOldOrMade l q tile = (was : Cell V) × (entry_over bits l old q ≡ Tile was) × ((tile ≡ was) ⊎ (tile.on ≡ made rule))

    tiles_stay : ((q : Coord) (tile : Cell V) → lower_entry bits new q ≡ Tile tile → IsOldOrMade Leaf q tile)
        → (l : Level) (q : Coord) (tile : Cell V) → entry_over bits l new q ≡ Tile tile → IsOldOrMade l q tile
    tiles_stay lowers Upper q tile e = (tile, sym (root_entry_same bits old new above.head above.root q) ∙ e, inl refl)
    tiles_stay lowers Lower q tile e = (tile, sym (upper_entry_same bits old new above q) ∙ e, inl refl)
    tiles_stay lowers Leaf q tile e = lowers q tile e

    -- a tile gets the state that the rule makes
    pub tile_set : (cell : Cell V) (tile : Cell X) → lower_entry bits old p ≡ Tile cell → lower_entry bits u p ≡ Tile tile → tile.on ≡ acts_at rule → (made_cell : Cell V)
        → made_cell ≡ record { value = cell.value; on = made rule } → Fills bits Leaf old new p made_cell → Turns (block_number bits Leaf) p (lower_entry bits old) (lower_entry bits new) (Tile made_cell) → SetsBlock bits rule u Leaf old new p
    tile_set cell tile tiled over acting made_cell is fills turns = record {
      head = fills.head;
      here = λ q b.
          let was = tile_cell bits old cell q (lower_by_block bits old q p b ∙ tiled) in
          let other = tile_cell bits u tile q (lower_by_block bits u q p b ∙ over) in
          let state : made rule ≡ state_of rule cell.on tile.on = sym (acting_makes rule cell.on tile.on acting) in
          fills.cells.here q b ∙ is ∙ rw (was, other) (ap (λ (s : Bool). record { value = cell.value; on = s }) state);
      there = fills.cells.there;
      children = children_stay (λ q slot e.
          elim (coord_cases (block_number bits Leaf q) (block_number bits Leaf p)) [
            | inl b ↦ absurd (tile_no_child {V = V} cell slot (sym (lower_by_block bits old q p b ∙ tiled) ∙ e))
            | inr d ↦ turns.there q d ∙ e
          ]);
      tiles = tiles_stay (λ q set e.
          elim (coord_cases (block_number bits Leaf q) (block_number bits Leaf p)) [
            | inl b ↦ (
              cell,
              lower_by_block bits old q p b ∙ tiled,
              inr (ap (λ (c : Cell V). c.on) (same_tile {V = V} set made_cell (sym e ∙ turns.here q b) ∙ is)),
            )
            | inr d ↦ (set, sym (turns.there q d) ∙ e, inl refl)
          ]);
      keys = keys_stay;
    }

    -- the states of a leaf change
    leaf_set : (on : Coord → Bool) → ((q : Coord) → block_number bits Leaf q ≡ block_number bits Leaf p → cell_at bits new q ≡ record { value = (cell_at bits old q).value; on = on q })
        → ((q : Coord) → block_number bits Leaf q ≢ block_number bits Leaf p → cell_at bits new q ≡ cell_at bits old q) → new.lowers ≡ old.lowers
        → ((q : Coord) → block_number bits Leaf q ≡ block_number bits Leaf p → on q ≡ state_of rule (cell_at bits old q).on (cell_at bits u q).on) → SetsBlock bits rule u Leaf old new p
    leaf_set on here there lowers states = record {
      head = above.head;
      here = λ q b. here q b ∙ ap (λ (s : Bool). record { value = (cell_at bits old q).value; on = s }) (states q b);
      there = there;
      children = children_stay (λ q slot e. same q ∙ e);
      tiles = tiles_stay (λ q tile e. (tile, sym (same q) ∙ e, inl refl));
      keys = keys_stay;
    }
      where
        same : (q : Coord) → lower_entry bits new q ≡ lower_entry bits old q
        same q = rw (above.head.background, above.root, above.uppers, lowers) refl

    -- all states of a leaf become what the rule makes
    pub leaf_filled : (tile : Cell X) (on : Bool) → FillsLeafStates bits old new p on → on ≡ made rule → lower_entry bits u p ≡ Tile tile → tile.on ≡ acts_at rule → SetsBlock bits rule u Leaf old new p
    leaf_filled tile on sets is over acting = leaf_set (λ q. on) sets.here sets.there sets.lowers (λ q b.
        let other = tile_cell bits u tile q (lower_by_block bits u q p b ∙ over) in
        is ∙ rw other (sym (acting_makes rule (cell_at bits old q).on tile.on acting)))

    -- the states of two leaves are combined
    pub leaf_merged : (mask copy mine others : List Bool) → SetsLeaf bits old new p mask → AreStatesOf bits old p mine → AreStatesOf bits u p others → copy ≡ mine
        → ((i : ℕ) → is_on mask i ≡ state_of rule (is_on copy i) (is_on others i)) → SetsBlock bits rule u Leaf old new p
    leaf_merged mask copy mine others sets first second copied one = leaf_set (λ q. is_on mask (offset bits Leaf q)) sets.here sets.there sets.lowers (λ q b.
        let a : is_on copy (offset bits Leaf q) ≡ (cell_at bits old q).on = ap (λ (m : List Bool). is_on m (offset bits Leaf q)) copied ∙ first q b in
        one (offset bits Leaf q) ∙ ap (λ (s : Bool). state_of rule s (is_on others (offset bits Leaf q))) a ∙ ap (λ (s : Bool). state_of rule (cell_at bits old q).on s) (second q b))

  -- ---- refined trees

  -- a tree stays refined after a block is set
  pub refined_kept : (old new : Layout V) → IsRefinedFor bits rule old u
      → ((l : Level) (q : Coord) (tile : Cell V) → entry_over bits l new q ≡ Tile tile → (was : Cell V) × (entry_over bits l old q ≡ Tile was) × ((tile ≡ was) ⊎ (tile.on ≡ made rule)))
      → ((k : Coord) → root_at new.root k ≡ None → root_at old.root k ≡ None) → IsRefinedFor bits rule new u
  refined_kept old new refined tiles keys = record {
    tiles = λ level q tile slot e over.
        let was = tiles level q tile e in
        elim was.2 [
          | inl same ↦ refined.tiles level q tile slot (was.1 ∙ ap Tile (sym same)) over
          | inr is ↦ inl is
        ];
    entered = λ q e. refined.entered q (keys _ e);
  }

  -- ---- entries in which nothing changes

  module _ (t : Layout V) (p : Coord) where
    pub tile_idle : (tile : Cell X) (from : ℕ) → upper_entry bits u p ≡ Tile tile → tile.on ≢ acts_at rule → IsNextToSet bits rule u Lower t p from None
    tile_idle tile from over idle q among =
        let at = tile_cell bits u tile q (tile_lower bits u tile q (upper_by_block bits u q p among.0 ∙ over)) in
        rw at (idle_stays rule (cell_at bits t q).on tile.on idle)

    -- without a skip, the next entry to set is the one at this index
    pub each_index : (from : ℕ) (o : Option ℕ) → IfSome o (λ index. (index ≡ from) × (from < entries bits Lower)) → IfNone o (entries bits Lower ≤ from) → IsNextToSet bits rule u Lower t p from o
    each_index from (Some index) some none = record {
      within = less index some.0 some.1;
      from_on = omega (arith, some.0);
      before = λ q among. absurd (passed (offset bits Lower q) index some.0 among.1 among.2);
    }
      where
        less : (i : ℕ) → i ≡ from → from < entries bits Lower → i < entries bits Lower
        less i e h = omega (arith, e, h)

        passed : (n i : ℕ) → i ≡ from → from ≤ n → n < i → ⊥
        passed n i e h k = omega (arith, e, h, k)
    each_index from None some none = λ q among. absurd (past (offset bits Lower q) (entries bits Lower) none among.1 among.2)
      where
        past : (n all : ℕ) → all ≤ from → from ≤ n → n < all → ⊥
        past n all h k l = omega (arith, h, k, l)

    module _ (configured : AreBits bits) (inside : IsTrue (is_inside everywhere p)) where
      inactive : {W : Type 0} (s : Layout W) (from to : ℕ) → IsInactiveFrom bits (field_of bits s) Lower p from to → (q : Coord) → IsAmong bits Lower p from to q → (cell_at bits s q).on ≡ false
      inactive {W} s from to none q among =
          ap (λ (c : Cell W). c.on) (sym (cell_inside s.background (cell_at bits s) q (block_in_range bits Lower configured p q inside among.0))) ∙ none q among.0 among.1 among.2

      mine_settled : made rule ≡ false → (from to : ℕ) → IsInactiveFrom bits (field_of bits t) Lower p from to → AreSettled bits rule u Lower t p from to
      mine_settled is from to none q among = made_stays rule (cell_at bits t q).on (cell_at bits u q).on (inactive t from to none q among ∙ sym is)

      others_settled : made rule ≡ true → (from to : ℕ) → IsInactiveFrom bits (field_of bits u) Lower p from to → AreSettled bits rule u Lower t p from to
      others_settled is from to none q among =
          idle_stays rule (cell_at bits t q).on (cell_at bits u q).on (unites_idle rule (cell_at bits u q).on is (inactive u from to none q among))

      -- a rule that makes states inactive passes over what is inactive
      pub by_mine : made rule ≡ false → (from : ℕ) (o : Option ℕ) → IsNextActive bits (field_of bits t) Lower p from o → IsNextToSet bits rule u Lower t p from o
      by_mine is from (Some index) next = record { within = next.within; from_on = next.from_on; before = mine_settled is from index next.before }
      by_mine is from None none = mine_settled is from (entries bits Lower) none

      -- a rule that makes states active passes over what is inactive in the other tree
      pub by_others : made rule ≡ true → (from : ℕ) (o : Option ℕ) → IsNextActive bits (field_of bits u) Lower p from o → IsNextToSet bits rule u Lower t p from o
      by_others is from (Some index) next = record { within = next.within; from_on = next.from_on; before = others_settled is from index next.before }
      by_others is from None none = others_settled is from (entries bits Lower) none

  -- ---- the pass

  module _ (p : Coord) where
    -- before the first entry nothing is done
    pub run_none : (t : Layout V) (from : ℕ) → SetsRun bits rule u Lower t t p from from
    run_none t from = record {
      head = head_same t;
      here = λ q among. absurd (never (offset bits Lower q) from among.1 among.2);
      there = λ q out. refl;
      children = λ l q slot e. e;
      tiles = λ l q tile e. (tile, e, inl refl);
      keys = λ k e. e;
    }

    -- if the remaining entries are settled, nothing is left to do
    pub run_end : (t : Layout V) (from to : ℕ) → AreSettled bits rule u Lower t p from to → SetsRun bits rule u Lower t t p from to
    run_end t from to settled = record {
      head = head_same t;
      here = λ q among. same_cell (cell_at bits t q) _ (settled q among);
      there = λ q out. refl;
      children = λ l q slot e. e;
      tiles = λ l q tile e. (tile, e, inl refl);
      keys = λ k e. e;
    }

    -- one entry is done
    pub run_step : (old new : Layout V) (from index : ℕ) (c : Coord) → IsNextToSetAt bits rule u Lower old p from index → c ≡ (sub_block bits Lower (block_around bits Lower p) index).min
        → SetsBlock bits rule u Leaf old new c → SetsRun bits rule u Lower old new p from (index + 1)
    run_step old new from index c next is sets = record {
      head = sets.head;
      here = λ q among.
          elim (below_or (offset bits Lower q) index) [
            | inl k ↦
                sets.there q (λ b. unlike (offset bits Lower q) (offset_from_entry bits Lower q c b ∙ at.1) k)
                ∙ same_cell (cell_at bits old q) _ (next.before q (among.0, among.1, k))
            | inr k ↦ sets.here q (entry_from_offset bits Lower q c (among.0 ∙ sym at.0) (same (offset bits Lower q) among.2 k ∙ sym at.1))
          ];
      there = λ q out. sets.there q (λ b.
          let k = offset_from_entry bits Lower q c b ∙ at.1 in
          out (lower_from_leaf bits q c b ∙ at.0, from_on (offset bits Lower q) k, up_to (offset bits Lower q) k));
      children = sets.children;
      tiles = sets.tiles;
      keys = sets.keys;
    }
      where
        at : (block_number bits Lower c ≡ block_number bits Lower p) × (offset bits Lower c ≡ index)
        at = let k = corner_of_entry bits Lower p index next.within in rw is k

        unlike : (n : ℕ) → n ≡ index → n < index → ⊥
        unlike n e k = omega (arith, e, k)

        same : (n : ℕ) → n < index + 1 → index ≤ n → n ≡ index
        same n a b = omega (arith, a, b)

        from_on : (n : ℕ) → n ≡ index → from ≤ n
        from_on n e = omega (arith, e, next.from_on)

        up_to : (n : ℕ) → n ≡ index → n < index + 1
        up_to n e = omega (arith, e)

    -- a run after another run is one run
    pub run_join : (old mid new : Layout V) (from i j : ℕ) → from ≤ i → i ≤ j → SetsRun bits rule u Lower old mid p from i → SetsRun bits rule u Lower mid new p i j → SetsRun bits rule u Lower old new p from j
    run_join old mid new from i j low high first then = record {
      head = head_trans old mid new first.head then.head;
      here = λ q among.
          elim (below_or (offset bits Lower q) i) [
            | inl k ↦ then.there q (λ h. never (offset bits Lower q) i h.1 k) ∙ first.here q (among.0, among.1, k)
            | inr k ↦
                let before = first.there q (λ h. never (offset bits Lower q) i k h.2) in
                then.here q (among.0, k, among.2) ∙ rw before refl
          ];
      there = λ q out.
          then.there q (λ h. out (h.0, later (offset bits Lower q) h.1, h.2)) ∙ first.there q (λ h. out (h.0, h.1, earlier (offset bits Lower q) h.2));
      children = λ l q slot e. then.children l q slot (first.children l q slot e);
      tiles = λ l q tile e.
          let a = then.tiles l q tile e in
          let b = first.tiles l q a.0 a.1 in
          elim a.2 [
            | inr is ↦ (b.0, b.1, inr is)
            | inl same ↦ elim b.2 [
              | inl also ↦ (b.0, b.1, inl (same ∙ also))
              | inr is ↦ (b.0, b.1, inr (ap (λ (c : Cell V). c.on) same ∙ is))
            ]
          ];
      keys = λ k e. first.keys k (then.keys k e);
    }
      where
        later : (n : ℕ) → i ≤ n → from ≤ n
        later n h = omega (arith, h, low)

        earlier : (n : ℕ) → n < i → n < j
        earlier n h = omega (arith, h, high)

    -- if the run covers all entries, the lower extent is done
    pub run_all : (old new : Layout V) → SetsRun bits rule u Lower old new p 0 (entries bits Lower) → SetsBlock bits rule u Lower old new p
    run_all old new run = record {
      head = run.head;
      here = λ q b. run.here q (b, least (offset bits Lower q), offset_below bits Lower q);
      there = λ q d. run.there q (λ h. d h.0);
      children = run.children;
      tiles = run.tiles;
      keys = run.keys;
    }
