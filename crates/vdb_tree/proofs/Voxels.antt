-- Active tiles, and leaves in place of them.
use Rattle.vdb_tree.proofs.Common.{◌≡◌, ◌⊎◌, inl, inr, refl, sym, ap, subst, ◌∙◌, true, false, IsTrue, Some, None, Option, ℕ, ◌<◌, arith, Bool, not, IfSome, block_number, key, ComesBefore, IsNextCoord, IsUpToBlock, coordinates_past, Box, is_inside, Bits, Coord, Level, Leaf, Lower, Upper, not_before_min, Tile, Cell, AddsNodes, Keeps, Field, Layout, cell_at, entry_over, field_of, lower_entry, background_cell, root_at, IsEnd, end_level, left_count, in_leaf, HasCapacity, IsVoxelisedTo}
use Rattle.vdb_tree.specs.internal.Voxelised.{IsVoxelisedAround, IsVoxelisedFrom}
use Rattle.vdb_tree.specs.declared.queries.ends.End.TheVariants.{Leaf as EndLeaf, Tile as EndTile}
use Rattle.vdb_tree.proofs.Blocks.{never}
use Rattle.vdb_tree.proofs.Descents.{lower_by_block, tile_lower, tile_upper}
use Rattle.vdb_tree.proofs.Equations.{keeps_field}
use Rattle.vdb_tree.proofs.Levels.{same_tile}
use Rattle.vdb_tree.proofs.Needed.{absent_entry, is_child_from, is_some_from, some_or_none}
use Rattle.vdb_tree.proofs.PartWalks.{before_not_left, gone_if_before, inactive_skipped}
use Rattle.vdb_tree.proofs.Passes.{tile_gives}
use Rattle.vdb_tree.proofs.Splits.{adds_leaves}

pub not_on : (b : Bool) → IsTrue (not b) → b ≡ false
not_on true h = cc
not_on false h = refl

not_off : (b : Bool) → not b ≡ false → b ≡ true
not_off true h = refl
not_off false h = cc

module _ {V : Type 0} (bits : Bits) where
  -- an entry below a tile over p is that tile, too
  tile_below : (t : Layout V) (p : Coord) (level : Level) (cell : Cell V) → entry_over bits level t p ≡ Tile cell → lower_entry bits t p ≡ Tile cell
  tile_below t p Upper cell tiled = tile_lower bits t cell p (tile_upper bits t cell p tiled)
  tile_below t p Lower cell tiled = tile_lower bits t cell p tiled
  tile_below t p Leaf cell tiled = tiled

  -- an active tile lies under an entry of the table
  pub active_has_capacity : (t : Layout V) (p : Coord) (level : Level) (cell : Cell V) → entry_over bits level t p ≡ Tile cell → cell.on ≡ true → HasCapacity t (key bits p)
  active_has_capacity t p level cell tiled on = elim (some_or_none (root_at t.root (key bits p))) [
    | inl e ↦ inl (is_some_from (root_at t.root (key bits p)) e.0 e.1)
    | inr none ↦
        let background = tile_lower bits t (background_cell t) p (tile_upper bits t (background_cell t) p (absent_entry bits t p none)) in
        absurd (never (ap (λ (c : Cell V). c.on) (sym (same_tile (background_cell t) cell (sym background ∙ tile_below t p level cell tiled)))) on)
  ]

  -- what is active in p's leaf extent lies in a leaf if p does
  pub in_same_leaf : (t : Layout V) (p q : Coord) → IsTrue (in_leaf bits t p) → block_number bits Leaf q ≡ block_number bits Leaf p → IsTrue (in_leaf bits t q)
  in_same_leaf t p q h e = rw (lower_by_block bits t q p e) h

  module _ (t : Layout V) (p : Coord) where
    -- each active voxel of a leaf's extent lies in a leaf, and an inactive tile has none
    leaf_done : IsTrue (in_leaf bits t p) → IsVoxelisedAround bits t Leaf p
    leaf_done leaf q same on = in_same_leaf t p q leaf same

    inactive_done : (level : Level) (cell : Cell V) → entry_over bits level t p ≡ Tile cell → cell.on ≡ false → IsVoxelisedAround bits t level p
    inactive_done level cell tiled off q same on = absurd (never (inactive_skipped bits t level p cell tiled off q same) on)

    -- the descent to p ends in a leaf, or in an inactive tile
    pub leaf_inactive : (slot : ℕ) → IsEnd bits t p (EndLeaf slot) → IsVoxelisedAround bits t (end_level bits t p) p
    leaf_inactive slot end = subst (λ (l : Level). IsVoxelisedAround bits t l p) (sym end.0) (leaf_done (is_child_from _ _ end.1))

    pub tile_inactive : (level : Level) (cell : Cell V) → IsEnd bits t p (EndTile level cell) → cell.on ≡ false → IsVoxelisedAround bits t (end_level bits t p) p
    tile_inactive level cell end off = subst (λ (l : Level). IsVoxelisedAround bits t l p) (sym end.0) (inactive_done level cell end.1 off)

    pub active_capacity : (level : Level) (cell : Cell V) → IsEnd bits t p (EndTile level cell) → not cell.on ≡ false → HasCapacity t (key bits p)
    active_capacity level cell end on = active_has_capacity t p level cell end.1 (not_off cell.on on)

    pub active_cell : (level : Level) (cell : Cell V) → IsEnd bits t p (EndTile level cell) → not cell.on ≡ false → (cell_at bits t p).on ≡ true
    active_cell level cell end on = ap (λ (c : Cell V). c.on) (tile_gives bits level t p cell end.1) ∙ not_off cell.on on

  module _ (box : Box) where
    -- nothing comes before the least corner
    pub begins : (t : Layout V) → IsVoxelisedTo bits t box (Some box.min)
    begins t = λ q inside gone on. absurd (not_before_min bits box q inside (before_not_left bits box.min q gone))

    -- what was done before p stays done when nodes are added
    pub goes_on : (old n : Layout V) (p : Coord) (next : Option Coord) → IsVoxelisedTo bits old box (Some p) → Keeps bits old n → AddsNodes bits old n → IsVoxelisedFrom bits n box p next → IsVoxelisedTo bits n box next
    goes_on old n p next so_far keeps adds done = λ q inside gone on. elim (done q inside gone on) [
      | inl before ↦ adds_leaves bits old n adds q (so_far q inside (gone_if_before bits p q before) (ap (λ (f : Field V). (f.cell q).on) (sym (keeps_field bits old n keeps)) ∙ on))
      | inr leaf ↦ leaf
    ]

    module _ (t : Layout V) (p : Coord) where
      up_to : (level : Level) → IsVoxelisedAround bits t level p → (q : Coord) → ((field_of bits t).cell q).on ≡ true → IsUpToBlock bits level p q → ComesBefore bits q p ⊎ IsTrue (in_leaf bits t q)
      up_to level done q on h = elim h [ inl before ↦ inl before | inr same ↦ inr (done q same on) ]

      -- the next coordinate past a block whose active voxels lie in leaves
      pub past_done : (level : Level) → IsVoxelisedAround bits t level p → (next : Option Coord) → IsNextCoord bits level box p next → IsVoxelisedFrom bits t box p next
      past_done level done None h = λ q inside gone on. up_to level done q on (h q inside)
      past_done level done (Some n) h = λ q inside gone on. up_to level done q on (h.between q inside (before_not_left bits n q gone))

      -- the next coordinate past a leaf around p
      pub past_leaf : IsTrue (in_leaf bits t p) → (next : Option Coord) → IsNextCoord bits Leaf box p next → IsVoxelisedFrom bits t box p next
      past_leaf leaf = past_done Leaf (λ r same _. in_same_leaf t p r leaf same)

-- the next coordinate lies in the box
pub start_inside : (bits : Bits) (box : Box) (level : Level) (p : Coord) (next : Option Coord) → IsNextCoord bits level box p next → IfSome next (λ q. IsTrue (is_inside box q))
start_inside bits box level p None h = tt
start_inside bits box level p (Some n) h = h.inside

-- past a coordinate fewer coordinates are left
pub fewer_left : (bits : Bits) (p : Coord) (next : Option Coord) → IfSome next (λ n. coordinates_past bits n < coordinates_past bits p) → left_count bits next < left_count bits (Some p)
fewer_left bits p None h = omega arith
fewer_left bits p (Some n) h = omega (arith, h)
