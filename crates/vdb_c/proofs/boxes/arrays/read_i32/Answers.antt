use Rattle.vdb_c.proofs.Common.{◌≡◌, ◌∙◌, ap, inr, refl, ℤ, sym, vdb, as_field_of, field_of, grid_field, grid_kind, Cell, Layout, Scalar, state_byte, value_number}
use Rattle.vdb_scene.specs.declared.scalar.Scalar.TheVariants as scalars
use Rattle.vdb_value.specs.declared.Kind.TheVariants as kinds
use Rattle.vdb_c.specs.BoxArrays.{ReadsBoxOf}
use Rattle.vdb_c.specs.Many.{number_at}
use Rattle.vdb_c.proofs.BoxReads.{box_read, laid_as}
use Rattle.vdb_c.proofs.boxes.arrays.read_i32.Goals as goal

pub returns-in-I32 : goal.returns-in-I32
returns-in-I32 c =
    let b = c.in-Some.bounds in
    let s = c.args.strides.now in
    let f = field_of vdb c.tree.result.now in
    box_read kinds.I32 number_at c.args.corners.now s c.args.grid.now _ _ _ _ b c.in-Some.ensures.value (ap grid_kind c.in-I32.is) (as_field_of scalars.I32 f)
    (ap (λ (t : Layout ℤ). as_field_of scalars.I32 (field_of vdb t)) c.tree.ensures ∙ sym (ap grid_field c.in-I32.is))
    (laid_as scalars.I32 f _ (λ (a : Cell Scalar). value_number a.value) (λ a. refl) b s _ _ c.min.ensures.bounds c.read_box.ensures.values)
    (laid_as scalars.I32 f _ (λ (a : Cell Scalar). state_byte a.on) (λ a. refl) b s _ _ c.min.ensures.bounds c.read_box.ensures.states)

pub returns-in-Bool : goal.returns-in-Bool
unfolding ReadsBoxOf
returns-in-Bool c = inr (inr ((λ h. let e : kinds.Bool ≡ kinds.I32 = sym (ap grid_kind c.in-Bool.is) ∙ h in cc), refl, refl, refl))

pub returns-in-I64 : goal.returns-in-I64
unfolding ReadsBoxOf
returns-in-I64 c = inr (inr ((λ h. let e : kinds.I64 ≡ kinds.I32 = sym (ap grid_kind c.in-I64.is) ∙ h in cc), refl, refl, refl))
