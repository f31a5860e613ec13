use Rattle.vdb_scene.proofs.Common.{◌≡◌, ◌∙◌, ap, sym, to_z, of_z, arith, as_field_of, new}
use Rattle.std.specs.Int.{w32, w64}
use Rattle.std.proofs.lemmas.Int.{to_z-of_z}
use Rattle.vdb_tree.proofs.AsFieldOf.{as_field_of_new}
use Rattle.vdb_scene.specs.declared.scalar.Scalar.TheVariants as scalars
use Rattle.vdb_scene.proofs.any_grid.AnyGrid.new.Goals as goal

pub returns-in-Bool-clause-field : goal.returns-in-Bool-clause-field
returns-in-Bool-clause-field c = ap (as_field_of scalars.Bool) c.new.ensures.field ∙ as_field_of_new scalars.Bool c.in-Bool.value ∙ ap new (sym c.in-Bool.is)

pub returns-in-I32-clause-field : goal.returns-in-I32-clause-field
returns-in-I32-clause-field c =
    let same : to_z w32 (of_z w32 c.in-I32.value) ≡ c.in-I32.value = grind (arith, to_z-of_z) in
    ap (as_field_of scalars.I32) (c.new-in-I32.ensures.field ∙ ap new same) ∙ as_field_of_new scalars.I32 c.in-I32.value ∙ ap new (sym c.in-I32.is)

pub returns-in-I64-clause-field : goal.returns-in-I64-clause-field
returns-in-I64-clause-field c =
    let same : to_z w64 (of_z w64 c.in-I64.value) ≡ c.in-I64.value = grind (arith, to_z-of_z) in
    ap (as_field_of scalars.I64) (c.new-in-I64.ensures.field ∙ ap new same) ∙ as_field_of_new scalars.I64 c.in-I64.value ∙ ap new (sym c.in-I64.is)

pub returns-in-Bool-clause-unused : goal.returns-in-Bool-clause-unused
returns-in-Bool-clause-unused c = λ k. (c.new.ensures.last k, c.new.ensures.empty k)

pub returns-in-I32-clause-unused : goal.returns-in-I32-clause-unused
returns-in-I32-clause-unused c = λ k. (c.new-in-I32.ensures.last k, c.new-in-I32.ensures.empty k)

pub returns-in-I64-clause-unused : goal.returns-in-I64-clause-unused
returns-in-I64-clause-unused c = λ k. (c.new-in-I64.ensures.last k, c.new-in-I64.ensures.empty k)
