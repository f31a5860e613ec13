use Rattle.vdb_c.proofs.Common.{refl, vdb, field_of, Cell, Scalar, state_byte, value_number}
use Rattle.vdb_scene.specs.declared.scalar.Scalar.TheVariants as scalars
use Rattle.vdb_c.proofs.BoxReads.{laid_as}
use Rattle.vdb_c.proofs.boxes.arrays.read.Goals as goal

pub returns-in-Bool-clause-values : goal.returns-in-Bool-clause-values
returns-in-Bool-clause-values c =
    rw (c.in-Bool.is, ← c.tree.ensures)
    (laid_as scalars.Bool (field_of vdb c.tree.result.now) _ (λ (a : Cell Scalar). value_number a.value) (λ a. refl) c.args.bounds c.args.strides.now _ _ c.min.ensures.bounds c.read_box.ensures.values)

pub returns-in-Bool-clause-states : goal.returns-in-Bool-clause-states
returns-in-Bool-clause-states c =
    rw (c.in-Bool.is, ← c.tree.ensures)
    (laid_as scalars.Bool (field_of vdb c.tree.result.now) _ (λ (a : Cell Scalar). state_byte a.on) (λ a. refl) c.args.bounds c.args.strides.now _ _ c.min.ensures.bounds c.read_box.ensures.states)

pub returns-in-I32-clause-values : goal.returns-in-I32-clause-values
returns-in-I32-clause-values c =
    rw (c.in-I32.is, ← c.tree-in-I32.ensures)
    (laid_as scalars.I32 (field_of vdb c.tree-in-I32.result.now) _ (λ (a : Cell Scalar). value_number a.value) (λ a. refl) c.args.bounds c.args.strides.now _ _ c.min.ensures.bounds c.read_box-in-I32.ensures.values)

pub returns-in-I32-clause-states : goal.returns-in-I32-clause-states
returns-in-I32-clause-states c =
    rw (c.in-I32.is, ← c.tree-in-I32.ensures)
    (laid_as scalars.I32 (field_of vdb c.tree-in-I32.result.now) _ (λ (a : Cell Scalar). state_byte a.on) (λ a. refl) c.args.bounds c.args.strides.now _ _ c.min.ensures.bounds c.read_box-in-I32.ensures.states)

pub returns-in-I64-clause-values : goal.returns-in-I64-clause-values
returns-in-I64-clause-values c =
    rw (c.in-I64.is, ← c.tree-in-I64.ensures)
    (laid_as scalars.I64 (field_of vdb c.tree-in-I64.result.now) _ (λ (a : Cell Scalar). value_number a.value) (λ a. refl) c.args.bounds c.args.strides.now _ _ c.min.ensures.bounds c.read_box-in-I64.ensures.values)

pub returns-in-I64-clause-states : goal.returns-in-I64-clause-states
returns-in-I64-clause-states c =
    rw (c.in-I64.is, ← c.tree-in-I64.ensures)
    (laid_as scalars.I64 (field_of vdb c.tree-in-I64.result.now) _ (λ (a : Cell Scalar). state_byte a.on) (λ a. refl) c.args.bounds c.args.strides.now _ _ c.min.ensures.bounds c.read_box-in-I64.ensures.states)
