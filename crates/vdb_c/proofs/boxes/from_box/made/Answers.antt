use Rattle.vdb_c.proofs.Common.{◌<◌, ◌∙◌, ap, refl, rules, subst, sym, w32, w64, ℕ, SFits, to_z-of_z, as_field_of}
use Rattle.std.proofs.Common.{Err}
use Rattle.vdb_scene.specs.Scalars.{scalar_eq}
use Rattle.vdb_c.specs.FromBox.{field_given}
use Rattle.vdb_c.proofs.BuiltGrids.{as_field_given, as_given_roots, built, no_background, no_box, refused}
use Rattle.vdb_c.proofs.boxes.from_box.made.Goals as goal

pub returns-in_default-clause-refused : goal.returns-in_default-clause-refused
returns-in_default-clause-refused g c = λ h.
    let number : SFits w64 c.args.background = search rules in
    let e = rw (to_z-of_z w64 c.args.background number) at c.in_default.ensures.value in
    no_background _ _ _ _ _ _ _ _ _ _ (sym e) refl refl

pub returns-in_default-bounds_given-clause-refused : goal.returns-in_default-bounds_given-clause-refused
returns-in_default-bounds_given-clause-refused g c = λ h.
    let number : SFits w64 c.args.background = search rules in
    let e = rw (to_z-of_z w64 c.args.background number) at c.in-Some.ensures.value in
    no_box _ _ _ _ _ _ _ _ _ _ (g.V.GridValue.as_scalar c.in-Some.background) (sym e) (sym c.in_default-bounds_given.ensures.value) refl refl

pub returns-in-Ok-clause-made : goal.returns-in-Ok-clause-made
returns-in-Ok-clause-made g c =
    let make = g.V.GridValue.as_scalar in
    let value = g.T.Given.value in
    let v = c.in-Some.background in
    let b = c.in-Some-bounds_given.bounds in
    let s = c.args.strides.now in
    let values = c.args.values.now in
    let number : SFits w64 c.args.background = search rules in
    let e = rw (to_z-of_z w64 c.args.background number) at c.in-Some.ensures.value in
    record {
      base = make v;
      base_is = sym e;
      box = b;
      box_is = sym c.in-Some-bounds_given.ensures.value;
      field_is = ap (as_field_of make) c.in-Ok.ensures.field ∙ as_field_given make g.V.PartialEq.eq scalar_eq g.met.V.GridValue.same_eq value v b s values;
      limit_is = c.in-Ok.ensures.limit;
      least = c.in-Ok.ensures.least;
    }

pub returns-in-Err-clause-refused : goal.returns-in-Err-clause-refused
returns-in-Err-clause-refused g c = λ h.
    let make = g.V.GridValue.as_scalar in
    let value = g.T.Given.value in
    let v = c.in-Some.background in
    let b = c.in-Some-bounds_given.bounds in
    let s = c.args.strides.now in
    let values = c.args.values.now in
    let number : SFits w64 c.args.background = search rules in
    let fits : SFits w32 c.tree_code.result = search rules in
    let e = rw (to_z-of_z w64 c.args.background number) at c.in-Some.ensures.value in
    rw (to_z-of_z w32 c.tree_code.result fits, c.tree_code.ensures)
    (built _ _ _ _ _ _ _ _ _ _ (make v) (sym e) b (sym c.in-Some-bounds_given.ensures.value)
    (refused c.args.limit (field_given scalar_eq (λ x. make (value x)) (make v) b s values) h c.in-Err.refusal (λ full. subst (λ (n : ℕ). c.args.limit < n) (sym (as_given_roots make g.V.PartialEq.eq scalar_eq g.met.V.GridValue.same_eq value v b s values)) (c.in-Err.ensures.full (ap Err full)))))
