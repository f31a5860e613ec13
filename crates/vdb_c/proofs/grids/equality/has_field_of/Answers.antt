-- Two grids compared by their trees, whose values are mapped to those of any type.
use Rattle.vdb_c.proofs.Common.{◌∙◌, ap, false, refl, sym, as_field_of, grid_field, Field, Scalar, ◌≡◌, true, Bool, vdb, Coord, Cell, Layout, as_cell_of, as_field_of_cell, cell_at, field_of}
use Rattle.vdb_scene.proofs.TwoGrids.{one_kind}
use Rattle.vdb_scene.specs.Scalars.{kind_of, scalar_eq}
use Rattle.vdb_tree.proofs.Blocks.{never}
use Rattle.vdb_tree.proofs.Uniform.{exact_by}
use Rattle.vdb_c.proofs.EqualCells.{refuted, fields_same}
use Rattle.vdb_c.proofs.grids.equality.has_field_of.Goals as goal

-- values are equal if they are as values of any type
scalars_exact : {V : Type 0} (make : V → Scalar) (eq : V → V → Bool) → ((x y : V) → eq x y ≡ true → x ≡ y) → ((x : V) → eq x x ≡ true) → ((x y : V) → scalar_eq (make x) (make y) ≡ eq x y)
    → (x y : V) → make x ≡ make y → x ≡ y
scalars_exact make eq exact itself same x y e = exact x y (sym (same x y) ∙ ap (scalar_eq (make x)) (sym e) ∙ same x x ∙ itself x)

module _ {V : Type 0} (make : V → Scalar) (exact : (x y : V) → make x ≡ make y → x ≡ y) (t u : Layout V) where
  cell_of : as_field_of make (field_of vdb t) ≡ as_field_of make (field_of vdb u) → (q : Coord) → as_cell_of make ((field_of vdb t).cell q) ≡ as_cell_of make ((field_of vdb u).cell q)
  cell_of same q = sym (as_field_of_cell make t.background (cell_at vdb t) q) ∙ ap (λ (f : Field Scalar). f.cell q) same ∙ as_field_of_cell make u.background (cell_at vdb u) q

  cells_same : (c d : Cell V) → as_cell_of make c ≡ as_cell_of make d → c ≡ d
  cells_same c d e =
      let value = exact c.value d.value (ap (λ (x : Cell Scalar). x.value) e) in
      let state = ap (λ (x : Cell Scalar). x.on) e in
      λ i. record { value = value i; on = state i }

  -- fields are equal if they are with their values mapped
  mapped_same : as_field_of make (field_of vdb t) ≡ as_field_of make (field_of vdb u) → field_of vdb t ≡ field_of vdb u
  mapped_same same =
      fields_same t u (exact t.background u.background (ap (λ (f : Field Scalar). f.background) same))
      (λ q _. cells_same ((field_of vdb t).cell q) ((field_of vdb u).cell q) (cell_of same q))

pub returns-in-Some : goal.returns-in-Some
returns-in-Some g c =
    let make = g.V.GridValue.as_scalar in
    let exact = exact_by g.V.PartialEq.eq g.V.Ord.cmp g.met.V.Ord.matches_eq g.met.V.Voxel.exact in
    let injective = scalars_exact make g.V.PartialEq.eq exact g.met.V.Eq.laws.refl g.met.V.GridValue.same_eq in (
      λ yes. ap (as_field_of make) (c.are_equal_trees.ensures.0 yes) ∙ sym c.in-Some.ensures.some,
      λ same. c.are_equal_trees.ensures.1 (mapped_same make injective c.args.tree.now c.in-Some.other.now (same ∙ c.in-Some.ensures.some)),
    )

pub returns-in-None : goal.returns-in-None
returns-in-None g c =
    refuted false refl (λ same.
    let kinds = sym (ap (λ (f : Field Scalar). kind_of f.background) same) ∙ g.met.V.GridValue.same_kind c.args.tree.now.background in
    never c.in-None.ensures.none (one_kind g.V.Voxel.KIND (kind_of (grid_field c.args.grid.now).background) g.V.Voxel.KIND refl kinds))
