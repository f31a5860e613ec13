-- The reports on a field, before and after each value is mapped to one of any type.
use Rattle.vdb_scene.proofs.Common.{◌≡◌, ap, sym, ◌∙◌, Bool, not, Option, Some, None, fun_ext, block, vdb, Box, coordinates, Bits, Coord, Leaf, Upper, Field, as_field_of, Layout, cell_at, field_of, as_field_of_cell, as_field_of_constant, as_field_of_roots, Cell}
use Rattle.std.specs.List.{count_by}
use Rattle.vdb_coord.specs.Blocks.{block_numbers}
use Rattle.vdb_coord.specs.declared.Level.{Level}
use Rattle.vdb_coord.specs.declared.Level.TheVariants.{Lower}
use Rattle.vdb_tree.specs.ConstantBlocks.{count, non_constant}
use Rattle.vdb_walk.specs.Reports.{IsActiveBounds, census}

module _ {V U : Type 0} (make : V → U) (t : Layout V) where
  abbrev before : Field V
  before = field_of vdb t

  abbrev after : Field U
  after = as_field_of make before

  -- the states stay
  made_on : (p : Coord) → (after.cell p).on ≡ (before.cell p).on
  made_on p = ap (λ (c : Cell U). c.on) (as_field_of_cell make t.background (cell_at vdb t) p)

  -- the number of active voxels
  pub made_count : (box : Box) → count after box ≡ count before box
  made_count box = ap (λ (test : Coord → _). count_by test (coordinates box)) (fun_ext made_on)

  -- a box around one field's active voxels is one around the other's
  pub made_bounds : (result : Option Box) → IsActiveBounds before result → IsActiveBounds after result
  made_bounds None h = λ p. made_on p ∙ h p
  made_bounds (Some box) h = (λ p on. h.0 p (sym (made_on p) ∙ on), λ other holds. h.1 other (λ p on. holds p (made_on p ∙ on)))

  module _ (eq : V → V → Bool) (made_eq : U → U → Bool) (same : (v w : V) → made_eq (make v) (make w) ≡ eq v w) where
    -- the number of blocks of a level that aren't constant
    made_non_constant : (bits : Bits) (level : Level) → non_constant made_eq bits level after ≡ non_constant eq bits level before
    made_non_constant bits level =
        ap (λ (test : Coord → Bool). count_by test (coordinates (block_numbers bits level)))
        (fun_ext (λ n. ap not (as_field_of_constant make t.background (cell_at vdb t) eq made_eq same (block bits level n))))

    -- the smallest tree is as large
    pub made_census : census made_eq vdb after ≡ census eq vdb before
    made_census =
        let roots = as_field_of_roots make t.background (cell_at vdb t) eq made_eq same vdb in
        let upper = made_non_constant vdb Upper in
        let lower = made_non_constant vdb Lower in
        let leaf = made_non_constant vdb Leaf in
        λ i. record { roots = roots i; upper = upper i; lower = lower i; leaf = leaf i }
