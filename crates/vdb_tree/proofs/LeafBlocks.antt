-- What a field has in a leaf extent, by the entry over it.
use Rattle.vdb_tree.proofs.Common.{◌≡◌, ℕ, Bool, List, IsTrue, ap, refl, sym, ◌∙◌, Some, block_number, everywhere, is_inside, Bits, Coord, Leaf, Child, Tile, node_at, Cell, Field, Layout, cell_at, field_of, lower_entry, IsLeafAround, with_states_of}
use Rattle.vdb_node.specs.Leaf.{Leaf as LeafOf}
use Rattle.vdb_tree.specs.Leaves.{SetsStates}
use Rattle.vdb_tree.proofs.Descents.{leaf_cell, lower_by_block, tile_cell}
use Rattle.vdb_tree.proofs.Fields.{cell_inside}
use Rattle.vdb_tree.proofs.Levels.{like_coords, unlike_coords}

module _ {V : Type 0} (bits : Bits) (t : Layout V) (p : Coord) where
  -- a leaf has the cells of its extent
  pub leaf_around : (u : ℕ) (n : LeafOf V) → lower_entry bits t p ≡ Child u → node_at t.leaves u ≡ Some n → IsLeafAround bits (field_of bits t) p n
  leaf_around u n child was q inside e = cell_inside t.background (cell_at bits t) q inside ∙ leaf_cell bits t p u n child was q e

  -- below a tile all cells are p's
  pub tile_around : (cell : Cell V) → lower_entry bits t p ≡ Tile cell → IsTrue (is_inside everywhere p)
      → (q : Coord) → IsTrue (is_inside everywhere q) → block_number bits Leaf q ≡ block_number bits Leaf p → (field_of bits t).cell q ≡ (field_of bits t).cell p
  tile_around cell tile here q inside e =
      cell_inside t.background (cell_at bits t) q inside ∙ tile_cell bits t cell q (lower_by_block bits t q p e ∙ tile)
      ∙ sym (cell_inside t.background (cell_at bits t) p here ∙ tile_cell bits t cell p tile)

-- states set in all of p's leaf extent, coordinate by coordinate
pub sets_states : {V : Type 0} (bits : Bits) (old new : Field V) (p : Coord) (mask : List Bool) → new ≡ with_states_of bits p mask old → SetsStates bits old new p mask
sets_states bits old new p mask e = record {
  here = λ q inside b.
      let same = like_coords (block_number bits Leaf p) (block_number bits Leaf q) (sym b) in
      ap (λ (f : Field _). f.cell q) e ∙ rw (inside, same) refl;
  there = λ q inside d.
      let other = unlike_coords (block_number bits Leaf p) (block_number bits Leaf q) (λ b. d (sym b)) in
      ap (λ (f : Field _). f.cell q) e ∙ rw (inside, other) refl;
}
