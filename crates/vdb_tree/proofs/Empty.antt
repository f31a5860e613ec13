-- The tree without entries and nodes.
use Rattle.vdb_tree.proofs.Common.{◌≡◌, refl, None, key, Bits, Coord, Tile, new, Layout, field_of, lower_entry, background_cell, root_at, root_entry, upper_entry}
use Rattle.vdb_tree.specs.Layout.{cell_at}
use Rattle.vdb_tree.proofs.Fields.{same_cells}

module _ {V : Type 0} (bits : Bits) (t : Layout V) (none : (k : Coord) → root_at t.root k ≡ None) where
  empty_root : (p : Coord) → root_entry bits t p ≡ Tile (background_cell t)
  empty_root p = let e = none (key bits p) in rw e refl

  empty_upper : (p : Coord) → upper_entry bits t p ≡ Tile (background_cell t)
  empty_upper p = let e = empty_root p in rw e refl

  empty_lower : (p : Coord) → lower_entry bits t p ≡ Tile (background_cell t)
  empty_lower p = let e = empty_upper p in rw e refl

  empty_cell : (p : Coord) → cell_at bits t p ≡ background_cell t
  unfolding cell_at
  empty_cell p = let e = empty_lower p in rw e refl

  pub empty_field : field_of bits t ≡ new t.background
  empty_field = same_cells t.background _ _ (λ p _. empty_cell p)
