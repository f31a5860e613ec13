-- A field of states after marks are added to a leaf extent.
use Rattle.vdb_morph.proofs.Common.{◌≡◌, ◌≢◌, ◌∙◌, sym, refl, ap, ◌<◌, ℕ, Bool, true, false, not, ◌&&◌, ◌||◌, cond, List, IsTrue, inl, inr, slice_index_or, Result, Ok, Err, block_number, offset, coord_eq, everywhere, is_inside, Bits, Coord, Leaf, entries_is, offset_below, is_on, IsConstantLeaf, entry_count, Cell, Field, field, off, unite, IsLeafAround, with_leaf, TreeRefusal, cell_inside, same_cells, coord_cases, like_coords, unlike_coords, is_marked, topology, with_active}
use Rattle.std.specs.Prelude.{IsOk}
use Rattle.vdb_node.specs.Leaf.{Leaf as LeafOf}
use Rattle.vdb_tree.specs.Field.{new}
use Rattle.vdb_tree.specs.Leaves.{with_states_of}
use Rattle.vdb_tree.specs.Outcome.{ChangesIfOk}

-- a field's states, joined to an empty field
pub united_new : {V : Type 0} (f : Field V) → unite (new false) f ≡ topology f
united_new f = same_cells false _ _ (λ q inside. let at = cell_inside false (λ _. off false) q inside in rw at refl)

-- a call without an error changes the field
pub changed_if_ok : {V : Type 0} (old changed new : Field V) (result : Result (Unit {0}) TreeRefusal) → IsOk result → ChangesIfOk old changed new result → new ≡ changed
changed_if_ok old changed new (Ok done) ok change = change
changed_if_ok old changed new (Err refusal) ok change = cc

-- a cell stays unless something activates it
pub kept_cell : {V : Type 0} (x : Cell V) (t : Bool) → t ≡ false → x ≡ record { value = x.value; on = x.on || t }
kept_cell x t e = ap (λ s. record { value = x.value; on = s }) (sym (or_false x.on t e))
  where
    or_false : (s t : Bool) → t ≡ false → (s || t) ≡ s
    or_false true t e = refl
    or_false false t e = e

-- a state stays if nothing else is marked
on_before : (s t : Bool) → (t && not s) ≡ false → s ≡ (s || t)
on_before true t e = refl
on_before false true e = sym e
on_before false false e = refl

module _ {V : Type 0} (bits : Bits) (p : Coord) (marks : List Bool) (background : V) (cells : Coord → Cell V) where
  abbrev f : Field V
  f = field background cells

  -- the cell at q, active also where q's mark is on
  abbrev marked_cell : Coord → Cell V
  marked_cell q = record { value = (f.cell q).value; on = (f.cell q).on || is_on marks (offset bits Leaf q) }

  -- cells that change so in the block, and stay elsewhere
  marked_by : (g : Coord → Cell V)
      → ((q : Coord) → IsTrue (is_inside everywhere q) → block_number bits Leaf q ≡ block_number bits Leaf p → g q ≡ marked_cell q)
      → ((q : Coord) → IsTrue (is_inside everywhere q) → block_number bits Leaf q ≢ block_number bits Leaf p → g q ≡ f.cell q)
      → field background g ≡ with_active (is_marked bits p marks) f
  marked_by g here there = same_cells background g _ (λ q inside.
      elim (coord_cases (block_number bits Leaf q) (block_number bits Leaf p)) [
        | inl e ↦
            let yes = like_coords (block_number bits Leaf q) (block_number bits Leaf p) e in
            here q inside e ∙ ap (λ t. record { value = (f.cell q).value; on = (f.cell q).on || (t && is_on marks (offset bits Leaf q)) }) (sym yes)
        | inr d ↦
            let no = unlike_coords (block_number bits Leaf q) (block_number bits Leaf p) d in
            there q inside d ∙ kept_cell (f.cell q) (is_marked bits p marks q) (ap (λ t. t && is_on marks (offset bits Leaf q)) no)
      ])

  -- the same, if a test of the block chooses the cells
  chosen : (g : Coord → Cell V)
      → ((q : Coord) → IsTrue (is_inside everywhere q) → block_number bits Leaf q ≡ block_number bits Leaf p → g q ≡ marked_cell q)
      → field background (λ q. cond (coord_eq (block_number bits Leaf p) (block_number bits Leaf q)) (g q) (f.cell q)) ≡ with_active (is_marked bits p marks) f
  chosen g here = marked_by _
      (λ q inside e. ap (λ t. cond t (g q) (f.cell q)) (like_coords (block_number bits Leaf p) (block_number bits Leaf q) (sym e)) ∙ here q inside e)
      (λ q inside d. ap (λ t. cond t (g q) (f.cell q)) (unlike_coords (block_number bits Leaf p) (block_number bits Leaf q) (λ e. d (sym e))))

  -- no mark is on
  pub unmarked : ((i : ℕ) → is_on marks i ≡ false) → f ≡ with_active (is_marked bits p marks) f
  unmarked none = marked_by cells
      (λ q inside e. sym (cell_inside background cells q inside) ∙ kept_cell (f.cell q) (is_on marks (offset bits Leaf q)) (none (offset bits Leaf q)))
      (λ q inside d. sym (cell_inside background cells q inside))

  -- each mark is on in the block's leaf
  pub marked_before : (leaf : LeafOf V) → IsLeafAround bits f p leaf → ((i : ℕ) → (is_on marks i && not (is_on leaf.states i)) ≡ false) → f ≡ with_active (is_marked bits p marks) f
  marked_before leaf around none = marked_by cells
      (λ q inside e.
      let i = offset bits Leaf q in
      let state = ap (λ (c : Cell V). c.on) (around q inside e) in
      sym (cell_inside background cells q inside)
      ∙ ap (λ s. record { value = (f.cell q).value; on = s }) (state ∙ on_before (is_on leaf.states i) (is_on marks i) (none i) ∙ ap (λ s. s || is_on marks i) (sym state)))
      (λ q inside d. sym (cell_inside background cells q inside))

  -- the marks join the states of the block's leaf
  pub marked_leaf : (leaf : LeafOf V) (joined : List Bool) → IsLeafAround bits f p leaf → ((i : ℕ) → is_on joined i ≡ (is_on leaf.states i || is_on marks i))
      → with_states_of bits p joined f ≡ with_active (is_marked bits p marks) f
  marked_leaf leaf joined around join = chosen _ (λ q inside e.
      let i = offset bits Leaf q in
      let state = ap (λ (c : Cell V). c.on) (around q inside e) in
      ap (λ s. record { value = (f.cell q).value; on = s }) (join i ∙ ap (λ s. s || is_on marks i) (sym state)))

  -- the block is one tile
  module _ (tile : Cell V) (all : (q : Coord) → IsTrue (is_inside everywhere q) → block_number bits Leaf q ≡ block_number bits Leaf p → f.cell q ≡ tile) where
    -- an active one
    pub marked_active : tile.on ≡ true → f ≡ with_active (is_marked bits p marks) f
    marked_active on = marked_by cells
        (λ q inside e.
        let here = all q inside e in
        sym (cell_inside background cells q inside) ∙ here ∙ ap (λ s. record { value = tile.value; on = s }) (on ∙ ap (λ s. s || is_on marks (offset bits Leaf q)) (sym on))
        ∙ ap (λ (c : Cell V). record { value = c.value; on = c.on || is_on marks (offset bits Leaf q) }) (sym here))
        (λ q inside d. sym (cell_inside background cells q inside))

    -- an inactive one, which a leaf replaces
    pub marked_inactive : tile.on ≡ false → (constant leaf : LeafOf V) → IsConstantLeaf constant (entry_count bits.leaf) tile → leaf.values ≡ constant.values
        → ((i : ℕ) → i < entry_count bits.leaf → is_on leaf.states i ≡ is_on marks i) → with_leaf bits p leaf f ≡ with_active (is_marked bits p marks) f
    marked_inactive off_tile constant leaf same values states = chosen _ (λ q inside e.
        let i = offset bits Leaf q in
        let small : i < entry_count bits.leaf = rw (← entries_is bits Leaf) (offset_below bits Leaf q) in
        let value : slice_index_or leaf.values i background ≡ tile.value
        = ap (λ vs. slice_index_or vs i background) values ∙ ap (λ (c : Cell V). c.value) (same (off background) i small) in
        let here = all q inside e in
        (λ j. record { value = value j; on = states i small j }) ∙ ap (λ s. record { value = tile.value; on = s || is_on marks i }) (sym off_tile)
        ∙ ap (λ (c : Cell V). record { value = c.value; on = c.on || is_on marks i }) (sym here))
