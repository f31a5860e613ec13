-- From changes in a layout to equations of fields.
use Rattle.vdb_tree.proofs.Common.{◌≡◌, IsTrue, sym, ap, ◌∙◌, inl, inr, everywhere, is_inside, Bits, Coord, Cell, Write, Changes, Keeps, field, write, written, Layout, cell_at, field_of}
use Rattle.vdb_tree.proofs.Fields.{cell_inside, same_cells}
use Rattle.vdb_tree.proofs.Levels.{coord_cases, like_coords, unlike_coords}

module _ {V : Type 0} (bits : Bits) where
  -- layouts with one background and the same cells at all coordinates stand for one field
  pub same_field : (t : Layout V) (background : V) (cells : Coord → Cell V) → t.background ≡ background
      → ((q : Coord) → IsTrue (is_inside everywhere q) → cell_at bits t q ≡ cells q) → field_of bits t ≡ field background cells
  same_field t background cells b h = ap (λ v. field v (cell_at bits t)) b ∙ same_cells background (cell_at bits t) cells h

  -- if every cell stays, the field stays
  pub keeps_field : (old new : Layout V) → Keeps bits old new → field_of bits new ≡ field_of bits old
  keeps_field old new keeps = same_field new old.background (cell_at bits old) keeps.head.background (λ q _. keeps.cells q)

  -- if only the voxel at p is written, the field is the written one
  pub changes_field : (old new : Layout V) (p : Coord) (change : Write V) → Changes bits old new p (written change (cell_at bits old p))
      → field_of bits new ≡ write p change (field_of bits old)
  changes_field old new p change changes = same_field new old.background _ changes.head.background (λ q inside.
      let at = cell_inside old.background (cell_at bits old) q inside in
      elim (coord_cases p q) [
        | inl e ↦
            let here = changes.cells.here q (sym e) in
            let yes = like_coords p q e in
            rw (yes, at) (here ∙ ap (λ r. written change (cell_at bits old r)) e)
        | inr d ↦
            let there = changes.cells.there q (λ e. d (sym e)) in
            let no = unlike_coords p q d in
            rw (no, at) there
      ])
