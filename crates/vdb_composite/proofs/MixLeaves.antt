-- The combination in one block: a tile painted, or a leaf written whole.
use Rattle.vdb_composite.proofs.Common.{◌≡◌, refl, sym, ap, subst, ◌∙◌, ℕ, ◌+◌, ◌<◌, Bool, true, false, ◌||◌, arith, IsTrue, Option, Some, if◌then◌else◌, option_map, block_around, entries, node_bits, offset, Box, coord_eq, everywhere, is_inside, Bits, Coord, Leaf, coord_equiv, entries_is, offset_below, cell_in, entry_count, Cell, Field, fill, off, Adds, mixed_cell, Blend, Mix, Values, Replace, never}
use Rattle.vdb_coord.specs.Blocks.{block_number}
use Rattle.vdb_coord.specs.Boxes.{is_bounds}
use Rattle.vdb_coord.specs.Space.{is_box, is_within}
use Rattle.vdb_coord.proofs.Boxes.{both}
use Rattle.vdb_coord.proofs.Meeting.{within_each}
use Rattle.vdb_coord.proofs.Nesting.{inside_numbered, number_in_block}
use Rattle.vdb_coord.proofs.Walk.{min_inside}
use Rattle.vdb_node.specs.Leaf.{Leaf as LeafOf}
use Rattle.vdb_tree.specs.Leaves.{with_leaf}
use Rattle.vdb_tree.proofs.Constants.{one_cell}
use Rattle.vdb_tree.proofs.Levels.{unlike_coords}
use Rattle.vdb_composite.proofs.Mixed.{cell_of}

-- a box of coordinates lies within the range, and has its least corner
pub bounds_within : (box : Box) → IsTrue (is_bounds box) → (q : Coord) → IsTrue (is_inside box q) → IsTrue (is_inside everywhere q)
bounds_within box is q i = within_each box everywhere q (both (is_box box) (is_within box everywhere) is).1 i

pub bounds_corner : (box : Box) → IsTrue (is_bounds box) → IsTrue (is_inside box box.min)
bounds_corner box is = min_inside box (both (is_box box) (is_within box everywhere) is).0

-- ---- the block of a leaf

module _ (bits : Bits) (box : Box) (block : box ≡ block_around bits Leaf box.min) where
  pub leaf_block : (q : Coord) → IsTrue (is_inside box q) → block_number bits Leaf q ≡ block_number bits Leaf box.min
  leaf_block q i = number_in_block bits Leaf (block_number bits Leaf box.min) q (sym (ap (λ (b : Box). is_inside b q) block) ∙ i)

  pub in_leaf_block : (q : Coord) → block_number bits Leaf q ≡ block_number bits Leaf box.min → IsTrue (is_inside box q)
  in_leaf_block q e = ap (λ (b : Box). is_inside b q) block ∙ inside_numbered bits Leaf (block_number bits Leaf box.min) q e

pub offset_small : (bits : Bits) (q : Coord) → offset bits Leaf q < entry_count (node_bits bits Leaf)
offset_small bits q = rw (← entries_is bits Leaf) (offset_below bits Leaf q)

-- a leaf that has its last entry has each
pub whole_leaf : {V : Type 0} (bits : Bits) (leaf : LeafOf V) (last : ℕ) (e : Cell V) → last + 1 ≡ entries bits Leaf → ((d : Cell V) → cell_in d leaf last ≡ e)
    → (d f : Cell V) (q : Coord) → cell_in d leaf (offset bits Leaf q) ≡ cell_in f leaf (offset bits Leaf q)
whole_leaf bits leaf last e end reads d f q = let k = offset_below bits Leaf q in one_cell leaf last e reads (offset bits Leaf q) (omega (arith, k, end)) d f

module _ {V : Type 0} (blend : Blend → V → V → Option V) where
  -- values blended, states joined
  pub blended_cell : (how : Blend) (c d e : Cell V) → (blend how c.value d.value ≡ Some e.value) × (e.on ≡ (c.on || d.on)) → mixed_cell blend (Values how) c d ≡ Some e
  blended_cell how c d e h =
      let value = h.0 in
      let state = h.1 in
      ap (option_map (λ (v : V). cell_of (c.on || d.on) v)) value ∙ ap (λ (b : Bool). Some (cell_of b e.value)) (sym state)

  -- an active cell in place of another
  pub replaced_cell : (c d e : Cell V) → d.on ≡ true → e ≡ d → mixed_cell blend Replace c d ≡ Some e
  replaced_cell c d e on same = ap (λ (b : Bool). Some (if b then d else c)) on ∙ ap (λ (x : Cell V). Some x) (sym same)

  module _ (mix : Mix) (box : Box) (is : IsTrue (is_bounds box)) (f g h k : Field V) where
    -- a box painted with the combination of both
    pub tile_adds : (cell : Cell V) → ((q : Coord) → IsTrue (is_inside box q) → mixed_cell blend mix (f.cell q) (g.cell q) ≡ Some cell) → k ≡ fill box cell h → Adds blend mix box f g h k
    tile_adds cell mixes same = record {
      background = ap (λ (a : Field V). a.background) same;
      here = λ q i. mixes q i ∙ ap (λ (c : Cell V). Some c) (sym (ap (λ (a : Field V). a.cell q) same ∙ painted q i));
      there = λ q inside beside. ap (λ (a : Field V). a.cell q) same ∙ kept q inside beside;
    }
      where
        painted : (q : Coord) → IsTrue (is_inside box q) → (fill box cell h).cell q ≡ cell
        painted q i = let inside = bounds_within box is q i in rw (inside, i) refl

        kept : (q : Coord) → IsTrue (is_inside everywhere q) → is_inside box q ≡ false → (fill box cell h).cell q ≡ h.cell q
        kept q inside beside = rw (inside, beside) refl

    -- a leaf extent written with the combination of both
    pub leaf_adds : (bits : Bits) → box ≡ block_around bits Leaf box.min → (leaf : LeafOf V)
        → ((d : Cell V) (q : Coord) → IsTrue (is_inside box q) → mixed_cell blend mix (f.cell q) (g.cell q) ≡ Some (cell_in d leaf (offset bits Leaf q)))
        → k ≡ with_leaf bits box.min leaf h → Adds blend mix box f g h k
    leaf_adds bits block leaf mixes same = record {
      background = ap (λ (a : Field V). a.background) same;
      here = λ q i. mixes (off h.background) q i ∙ ap (λ (c : Cell V). Some c) (sym (ap (λ (a : Field V). a.cell q) same ∙ written q i));
      there = λ q inside beside. ap (λ (a : Field V). a.cell q) same ∙ kept q inside beside;
    }
      where
        written : (q : Coord) → IsTrue (is_inside box q) → (with_leaf bits box.min leaf h).cell q ≡ cell_in (off h.background) leaf (offset bits Leaf q)
        written q i =
            let inside = bounds_within box is q i in
            let here : coord_eq (block_number bits Leaf box.min) (block_number bits Leaf q) ≡ true
            = subst (λ (n : Coord). coord_eq (block_number bits Leaf box.min) n ≡ true) (sym (leaf_block bits box block q i)) (coord_equiv.refl (block_number bits Leaf box.min)) in
            rw (inside, here) refl

        kept : (q : Coord) → IsTrue (is_inside everywhere q) → is_inside box q ≡ false → (with_leaf bits box.min leaf h).cell q ≡ h.cell q
        kept q inside beside =
            let there = unlike_coords (block_number bits Leaf box.min) (block_number bits Leaf q) (λ e. never beside (in_leaf_block bits box block q (sym e))) in
            rw (inside, there) refl
