-- A tree's entries and cells, given by its nodes.
use Rattle.vdb_tree.proofs.Common.{◌≡◌, ℕ, List, refl, ap, ◌∙◌, Some, slice_index_or, block_number, key, offset, Bits, Coord, Leaf, Lower, Upper, cell_in, Entry, Child, Tile, node_at, Cell, Layout, lower_entry, background_cell, root_at, root_entry, upper_entry}
use Rattle.vdb_node.specs.Leaf.{Leaf as LeafOf}
use Rattle.vdb_tree.specs.Layout.{cell_at, entry_of_key}
use Rattle.vdb_tree.proofs.Levels.{IsByBlock, below_by_entry}

module _ {V : Type 0} (bits : Bits) (t : Layout V) where
  -- the entry under the key of a coordinate
  pub entry_at : (p : Coord) (e : Entry V) → root_at t.root (key bits p) ≡ Some e → root_entry bits t p ≡ e
  entry_at p e is = rw is refl

  -- all coordinates of a block have the same entry over them
  pub root_by_block : IsByBlock bits Upper (root_entry bits t)
  root_by_block q r e = ap (entry_of_key t) e

  pub upper_by_block : IsByBlock bits Lower (upper_entry bits t)
  upper_by_block = below_by_entry (λ node i. slice_index_or node i (Tile (background_cell t))) Tile (Tile (background_cell t)) bits Upper (root_entry bits t) t.uppers root_by_block

  pub lower_by_block : IsByBlock bits Leaf (lower_entry bits t)
  lower_by_block = below_by_entry (λ node i. slice_index_or node i (Tile (background_cell t))) Tile (Tile (background_cell t)) bits Lower (upper_entry bits t) t.lowers upper_by_block

  -- a node's entries are those of its block
  pub upper_node_entry : (p : Coord) (s : ℕ) (node : List (Entry V)) → root_entry bits t p ≡ Child s → node_at t.uppers s ≡ Some node
      → (q : Coord) → block_number bits Upper q ≡ block_number bits Upper p → upper_entry bits t q ≡ slice_index_or node (offset bits Upper q) (Tile (background_cell t))
  upper_node_entry p s node child was q b = let e = root_by_block q p b ∙ child in rw (e, was) refl

  pub lower_node_entry : (p : Coord) (s : ℕ) (node : List (Entry V)) → upper_entry bits t p ≡ Child s → node_at t.lowers s ≡ Some node
      → (q : Coord) → block_number bits Lower q ≡ block_number bits Lower p → lower_entry bits t q ≡ slice_index_or node (offset bits Lower q) (Tile (background_cell t))
  lower_node_entry p s node child was q b = let e = upper_by_block q p b ∙ child in rw (e, was) refl

  -- a leaf's cells are those of its block
  pub leaf_cell : (p : Coord) (s : ℕ) (leaf : LeafOf V) → lower_entry bits t p ≡ Child s → node_at t.leaves s ≡ Some leaf
      → (q : Coord) → block_number bits Leaf q ≡ block_number bits Leaf p → cell_at bits t q ≡ cell_in (background_cell t) leaf (offset bits Leaf q)
  unfolding cell_at
  leaf_cell p s leaf child was q b = let e = lower_by_block q p b ∙ child in rw (e, was) refl

  -- below a tile each entry is a tile of its cell, and each cell is that cell
  pub tile_upper : (c : Cell V) (q : Coord) → root_entry bits t q ≡ Tile c → upper_entry bits t q ≡ Tile c
  tile_upper c q e = rw e refl

  pub tile_lower : (c : Cell V) (q : Coord) → upper_entry bits t q ≡ Tile c → lower_entry bits t q ≡ Tile c
  tile_lower c q e = rw e refl

  pub tile_cell : (c : Cell V) (q : Coord) → lower_entry bits t q ≡ Tile c → cell_at bits t q ≡ c
  unfolding cell_at
  tile_cell c q e = rw e refl
