-- What becomes of a field when a leaf extent gets the cells of a leaf, or one cell.
use Rattle.vdb_tree.proofs.Common.{◌≡◌, ◌≢◌, ◌<◌, ℕ, true, false, IsTrue, refl, sym, ap, subst, ◌∙◌, inl, inr, length, get_or_default, block_around, block_number, key, offset, sub_block, AreBits, everywhere, is_inside, Bits, Coord, Leaf, Lower, Upper, not_true, block_in_range, corner_of_entry, inside_around, inside_numbered, lower_from_leaf, number_in_block, upper_from_lower, entries_is, offset_below, is_on, cell_in, IsConstantLeaf, entry_count, Tile, Cell, Fills, Keeps, KeepsElsewhere, KeepsUppers, Turns, Field, fill, off, AreSameCells, IsAlteredIn, Layout, background_cell, cell_at, field_of, lower_entry, with_leaf}
use Rattle.vdb_node.specs.Leaf.{Leaf as LeafOf}
use Rattle.vdb_tree.proofs.Descents.{lower_by_block, tile_cell}
use Rattle.vdb_tree.proofs.Equations.{keeps_field, same_field}
use Rattle.vdb_tree.proofs.Fields.{cell_inside, same_cells}
use Rattle.vdb_tree.proofs.Levels.{coord_cases, like_coords, unlike_coords}
use Rattle.vdb_tree.proofs.Needed.{tile_block}
use Rattle.vdb_tree.proofs.Passes.{root_entry_same, upper_entry_same}

-- the cell at an index of a leaf that has a value there
default_cell : {V : Type 0} (leaf : LeafOf V) (i : ℕ) (c d : Cell V) → i < length leaf.values → cell_in c leaf i ≡ cell_in d leaf i
default_cell {V} leaf i c d h = ap (λ (v : V). cell v) (get_or_default leaf.values i c.value d.value h)
  where
    cell : V → Cell V
    cell v = record { value = v; on = is_on leaf.states i }

module _ {V : Type 0} (bits : Bits) (p : Coord) (leaf : LeafOf V) where
  entry_below : (q : Coord) → offset bits Leaf q < entry_count bits.leaf
  entry_below q = subst (λ k. offset bits Leaf q < k) (entries_is bits Leaf) (offset_below bits Leaf q)

  module _ (f : Field V) where
    -- in p's leaf extent the cells are those of the leaf
    leaf_here : (q : Coord) → IsTrue (is_inside everywhere q) → block_number bits Leaf q ≡ block_number bits Leaf p
        → (with_leaf bits p leaf f).cell q ≡ cell_in (off f.background) leaf (offset bits Leaf q)
    leaf_here q inside e = let same = like_coords (block_number bits Leaf p) (block_number bits Leaf q) (sym e) in rw (inside, same) refl

    -- outside p's leaf extent every cell stays
    leaf_there : (q : Coord) → IsTrue (is_inside everywhere q) → block_number bits Leaf q ≢ block_number bits Leaf p → (with_leaf bits p leaf f).cell q ≡ f.cell q
    leaf_there q inside d = let other = unlike_coords (block_number bits Leaf p) (block_number bits Leaf q) (λ e. d (sym e)) in rw (inside, other) refl

    -- only the upper extent around p is changed
    pub leaf_altered : IsAlteredIn bits (key bits p) f (with_leaf bits p leaf f)
    leaf_altered = record { background = refl; elsewhere = λ q inside d. leaf_there q inside (λ e. d (upper_from_lower bits q p (lower_from_leaf bits q p e))) }

    -- a leaf of one cell fills its extent with that cell
    pub leaf_fills : (cell : Cell V) → IsConstantLeaf leaf (entry_count bits.leaf) cell → with_leaf bits p leaf f ≡ fill (block_around bits Leaf p) cell f
    leaf_fills cell constant = same_cells f.background _ _ (λ q inside. elim (coord_cases (block_number bits Leaf q) (block_number bits Leaf p)) [
      | inl e ↦
          let same = like_coords (block_number bits Leaf p) (block_number bits Leaf q) (sym e) in
          let within : is_inside (block_around bits Leaf p) q ≡ true = inside_numbered bits Leaf (block_number bits Leaf p) q e in
          rw (same, within) (constant (off f.background) (offset bits Leaf q) (entry_below q))
      | inr d ↦
          let other = unlike_coords (block_number bits Leaf p) (block_number bits Leaf q) (λ e. d (sym e)) in
          let out : is_inside (block_around bits Leaf p) q ≡ false = not_true _ (λ h. d (number_in_block bits Leaf (block_number bits Leaf p) q h)) in
          rw (other, out) refl
    ])

  -- writing a leaf with different cells over a tile changes the field
  pub leaf_differs : AreBits bits → IsTrue (is_inside everywhere p) → (t : Layout V) (tile : Cell V) → lower_entry bits t p ≡ Tile tile
      → length leaf.values ≡ entry_count bits.leaf → ((cell : Cell V) → IsConstantLeaf leaf (entry_count bits.leaf) cell → ⊥)
      → AreSameCells (field_of bits t) (with_leaf bits p leaf (field_of bits t)) → ⊥
  leaf_differs configured inside t tile over size mixed same = mixed tile (λ d i h.
      let corner = (sub_block bits Leaf (block_around bits Leaf p) i).min in
      let at = corner_of_entry bits Leaf p i (subst (λ n. i < n) (sym (entries_is bits Leaf)) h) in
      let range = block_in_range bits Leaf configured p corner inside at.0 in
      let none = background_cell t in
      let now : cell_in none leaf i ≡ (field_of bits t).cell corner = ap (cell_in none leaf) (sym at.1) ∙ sym (leaf_here (field_of bits t) corner range at.0) ∙ same corner range in
      let was : (field_of bits t).cell corner ≡ tile = cell_inside t.background (cell_at bits t) corner range ∙ tile_cell bits t tile corner (lower_by_block bits t corner p at.0 ∙ over) in
      default_cell leaf i d none (subst (λ n. i < n) (sym size) h) ∙ now ∙ was)

module _ {V : Type 0} (bits : Bits) (p : Coord) (cell : Cell V) where
  outside : (q : Coord) → block_number bits Leaf q ≢ block_number bits Leaf p → is_inside (block_around bits Leaf p) q ≡ false
  outside q d = not_true _ (λ h. d (number_in_block bits Leaf (block_number bits Leaf p) q h))

  -- a fill of p's leaf extent changes only the upper extent around p
  pub fill_altered : (f : Field V) → IsAlteredIn bits (key bits p) f (fill (block_around bits Leaf p) cell f)
  fill_altered f = record {
    background = refl;
    elsewhere = λ q inside d. let out = outside q (λ e. d (upper_from_lower bits q p (lower_from_leaf bits q p e))) in rw (inside, out) refl;
  }

  -- a fill with another cell than p's changes the field
  pub fill_differs : (f : Field V) → IsTrue (is_inside everywhere p) → f.cell p ≢ cell → AreSameCells f (fill (block_around bits Leaf p) cell f) → ⊥
  fill_differs f inside d same =
      let within = inside_around bits Leaf p in
      let filled : (fill (block_around bits Leaf p) cell f).cell p ≡ cell = rw (inside, within) refl in
      d (sym (same p inside) ∙ filled)

  -- the field of a tree whose cells in p's leaf extent become this one
  fills_field : (old new : Layout V) → Fills bits Leaf old new p cell → field_of bits new ≡ fill (block_around bits Leaf p) cell (field_of bits old)
  fills_field old new fills = same_field bits new old.background _ fills.head.background (λ q inside.
      let at = cell_inside old.background (cell_at bits old) q inside in
      elim (coord_cases (block_number bits Leaf q) (block_number bits Leaf p)) [
        | inl e ↦
            let within : is_inside (block_around bits Leaf p) q ≡ true = inside_numbered bits Leaf (block_number bits Leaf p) q e in
            rw within (fills.cells.here q e)
        | inr d ↦
            let out = outside q d in
            rw (out, at) (fills.cells.there q d)
      ])

  -- a tile of the cell over p's leaf extent fills it already
  pub tile_field : (t : Layout V) → lower_entry bits t p ≡ Tile cell → field_of bits t ≡ fill (block_around bits Leaf p) cell (field_of bits t)
  tile_field t over = fills_field t t (record { head = record { background = refl; limit = refl }; cells = record { here = tile_block bits t Leaf p cell over; there = λ q d. refl } })

  -- the filled leaf extent after steps that kept every cell
  pub filled_field : (old mid new : Layout V) → Keeps bits old mid → Fills bits Leaf mid new p cell → field_of bits new ≡ fill (block_around bits Leaf p) cell (field_of bits old)
  filled_field old mid new keeps fills = fills_field mid new fills ∙ ap (fill (block_around bits Leaf p) cell) (keeps_field bits old mid keeps)

  -- if p's leaf extent alone gets another entry in the lower nodes, each other block keeps the entry over it
  pub leaf_elsewhere : (old new : Layout V) → KeepsUppers old new → Turns (block_number bits Leaf) p (lower_entry bits old) (lower_entry bits new) (Tile cell) → KeepsElsewhere bits old new p
  leaf_elsewhere old new above turns Upper q d = root_entry_same bits old new above.head above.root q
  leaf_elsewhere old new above turns Lower q d = upper_entry_same bits old new above q
  leaf_elsewhere old new above turns Leaf q d = turns.there q d
