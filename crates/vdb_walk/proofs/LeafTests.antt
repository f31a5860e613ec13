-- Whether the cells of a leaf block differ, found from its leaf.
use Rattle.vdb_walk.proofs.Common.{◌≡◌, sym, ap, ◌∙◌, refl, subst, ℕ, ◌+◌, Bool, true, false, not, IsTrue, is_some, ◌↔◌, Option, Some, None, block_around, block_number, block_numbers, entries, node_bits, offset, AreBits, Box, everywhere, is_inside, Bits, Coord, Leaf, number_in_range, number_of_corner, numbered_in_range, inside_numbered, number_in_block, cell_in, IsConstantLeaf, entry_count, Field, off, Layout, field_of, IsLeafAround, is_constant, uniform_cells, uniform_from, Cell}
use Rattle.vdb_node.specs.Leaf.{Leaf as LeafOf}
use Rattle.vdb_tree.proofs.Constants.{block_from_node, node_from_block, one_cell}

none_some : {A : Type 0} (x : A) → ◌≡◌ {A = Option A} None (Some x) → ⊥
none_some x e = cc

truth : (b : Bool) → not b ≡ false → b ≡ true
truth true h = refl
truth false h = cc

falsity : (b : Bool) → not b ≡ true → b ≡ false
falsity true h = cc
falsity false h = refl

deny : (b : Bool) → (b ≡ true → ⊥) → true ≡ not b
deny true h = absurd (h refl)
deny false h = refl

module _ {V : Type 0} (eq : V → V → Bool) (exact : (x y : V) → eq x y ≡ true → x ≡ y) (itself : (x : V) → eq x x ≡ true) (bits : Bits) (configured : AreBits bits) (t : Layout V) (p : Coord) (inside : is_inside everywhere p ≡ true) where
  abbrev f : Field V
  f = field_of bits t

  abbrev box : Box
  box = block_around bits Leaf p

  in_range : (r : Coord) → block_number bits Leaf r ≡ block_number bits Leaf p → is_inside everywhere r ≡ true
  in_range r b = numbered_in_range bits Leaf configured r (subst (λ (n : Coord). is_inside (block_numbers bits Leaf) n ≡ true) (sym b) (number_in_range bits Leaf p inside))

  -- a block of one cell is constant
  from_cell : (c : Cell V) → ((r : Coord) → block_number bits Leaf r ≡ block_number bits Leaf p → f.cell r ≡ c) → is_constant eq f box ≡ true
  from_cell c cells =
      uniform_from eq exact itself f box (f.cell box.min) (λ r j. cells r (number_in_block bits Leaf (block_number bits Leaf p) r j) ∙ sym (cells box.min (number_of_corner bits Leaf (block_number bits Leaf p))))

  -- if the block has no leaf, all its cells are the same
  pub same_cells : ((r : Coord) → IsTrue (is_inside everywhere r) → block_number bits Leaf r ≡ block_number bits Leaf p → f.cell r ≡ f.cell p) → false ≡ not (is_constant eq f box)
  same_cells cells = sym (ap not (from_cell (f.cell p) (λ r b. cells r (in_range r b) b)))

  module _ (leaf : LeafOf V) (around : IsLeafAround bits f p leaf) (last : ℕ) (end : last + 1 ≡ entries bits Leaf) (e : Cell V) (reads : (d : Cell V) → cell_in d leaf last ≡ e) where
    by_leaf : (r : Coord) → block_number bits Leaf r ≡ block_number bits Leaf p → f.cell r ≡ cell_in (off t.background) leaf (offset bits Leaf r)
    by_leaf r b = around r (in_range r b) b

    pub leaf_test : (one : Option (Cell V)) (none : Bool) → is_some one ≡ not none → ((c : Cell V) → (one ≡ Some c) ↔ IsConstantLeaf leaf (entry_count (node_bits bits Leaf)) c) → none ≡ not (is_constant eq f box)
    leaf_test None none is given =
        truth none (sym is) ∙ deny (is_constant eq f box) (λ h. none_some (f.cell box.min) ((given (f.cell box.min)).1
        (node_from_block bits Leaf p f.cell (λ d i. cell_in d leaf i) (off t.background) (f.cell box.min) by_leaf last end (one_cell leaf last e reads)
        (λ r b. uniform_cells eq exact itself f box (f.cell box.min) h r (inside_numbered bits Leaf (block_number bits Leaf p) r b)))))
    leaf_test (Some c) none is given =
        falsity none (sym is) ∙ sym (ap not (from_cell c (block_from_node bits Leaf p f.cell (λ d i. cell_in d leaf i) (off t.background) c by_leaf ((given c).0 refl))))
