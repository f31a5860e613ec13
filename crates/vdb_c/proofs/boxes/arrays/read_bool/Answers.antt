use Rattle.vdb_c.proofs.Common.{◌≡◌, ◌∙◌, ap, inr, refl, Bool, sym, vdb, as_field_of, field_of, grid_field, grid_kind, Cell, Layout, Scalar, state_byte}
use Rattle.vdb_scene.specs.declared.scalar.Scalar.TheVariants as scalars
use Rattle.vdb_value.specs.declared.Kind.TheVariants as kinds
use Rattle.vdb_c.specs.BoxArrays.{ReadsBoxOf}
use Rattle.vdb_c.specs.Many.{bool_at}
use Rattle.vdb_c.specs.Values.{bool_byte}
use Rattle.vdb_c.proofs.BoxReads.{box_read, laid_as}
use Rattle.vdb_c.proofs.boxes.arrays.read_bool.Goals as goal

pub returns-in-Bool : goal.returns-in-Bool
returns-in-Bool c =
    let b = c.in-Some.bounds in
    let s = c.args.strides.now in
    let f = field_of vdb c.tree.result.now in
    box_read kinds.Bool bool_at c.args.corners.now s c.args.grid.now _ _ _ _ b c.in-Some.ensures.value (ap grid_kind c.in-Bool.is) (as_field_of scalars.Bool f)
    (ap (λ (t : Layout Bool). as_field_of scalars.Bool (field_of vdb t)) c.tree.ensures ∙ sym (ap grid_field c.in-Bool.is))
    (laid_as scalars.Bool f _ (λ (a : Cell Scalar). bool_byte a.value) (λ a. refl) b s _ _ c.min.ensures.bounds c.read_box.ensures.values)
    (laid_as scalars.Bool f _ (λ (a : Cell Scalar). state_byte a.on) (λ a. refl) b s _ _ c.min.ensures.bounds c.read_box.ensures.states)

pub returns-in-I32 : goal.returns-in-I32
unfolding ReadsBoxOf
returns-in-I32 c = inr (inr ((λ h. let e : kinds.I32 ≡ kinds.Bool = sym (ap grid_kind c.in-I32.is) ∙ h in cc), refl, refl, refl))

pub returns-in-I64 : goal.returns-in-I64
unfolding ReadsBoxOf
returns-in-I64 c = inr (inr ((λ h. let e : kinds.I64 ≡ kinds.Bool = sym (ap grid_kind c.in-I64.is) ∙ h in cc), refl, refl, refl))
