use Rattle.vdb_c.proofs.Common.{refl, vdb, cell_at, Cell, Scalar, state_byte, value_number}
use Rattle.vdb_scene.specs.declared.scalar.Scalar.TheVariants as scalars
use Rattle.vdb_c.proofs.Filled.{read_as}
use Rattle.vdb_c.proofs.voxels.many.read_cells.Goals as goal

pub returns-in-Bool-clause-values : goal.returns-in-Bool-clause-values
returns-in-Bool-clause-values c =
    let t = c.tree.result.now in
    rw (c.in-Bool.is, ← c.tree.ensures) (read_as scalars.Bool t.background (cell_at vdb t) _ (λ (b : Cell Scalar). value_number b.value) (λ b. refl) c.args.at.now _ _ c.read_voxels.ensures.values)

pub returns-in-Bool-clause-states : goal.returns-in-Bool-clause-states
returns-in-Bool-clause-states c =
    let t = c.tree.result.now in
    rw (c.in-Bool.is, ← c.tree.ensures) (read_as scalars.Bool t.background (cell_at vdb t) _ (λ (b : Cell Scalar). state_byte b.on) (λ b. refl) c.args.at.now _ _ c.read_voxels.ensures.states)

pub returns-in-I32-clause-values : goal.returns-in-I32-clause-values
returns-in-I32-clause-values c =
    let t = c.tree-in-I32.result.now in
    rw (c.in-I32.is, ← c.tree-in-I32.ensures) (read_as scalars.I32 t.background (cell_at vdb t) _ (λ (b : Cell Scalar). value_number b.value) (λ b. refl) c.args.at.now _ _ c.read_voxels-in-I32.ensures.values)

pub returns-in-I32-clause-states : goal.returns-in-I32-clause-states
returns-in-I32-clause-states c =
    let t = c.tree-in-I32.result.now in
    rw (c.in-I32.is, ← c.tree-in-I32.ensures) (read_as scalars.I32 t.background (cell_at vdb t) _ (λ (b : Cell Scalar). state_byte b.on) (λ b. refl) c.args.at.now _ _ c.read_voxels-in-I32.ensures.states)

pub returns-in-I64-clause-values : goal.returns-in-I64-clause-values
returns-in-I64-clause-values c =
    let t = c.tree-in-I64.result.now in
    rw (c.in-I64.is, ← c.tree-in-I64.ensures) (read_as scalars.I64 t.background (cell_at vdb t) _ (λ (b : Cell Scalar). value_number b.value) (λ b. refl) c.args.at.now _ _ c.read_voxels-in-I64.ensures.values)

pub returns-in-I64-clause-states : goal.returns-in-I64-clause-states
returns-in-I64-clause-states c =
    let t = c.tree-in-I64.result.now in
    rw (c.in-I64.is, ← c.tree-in-I64.ensures) (read_as scalars.I64 t.background (cell_at vdb t) _ (λ (b : Cell Scalar). state_byte b.on) (λ b. refl) c.args.at.now _ _ c.read_voxels-in-I64.ensures.states)
