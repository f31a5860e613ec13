-- Calls on one voxel that the cached leaf of an accessor answers.
use Rattle.vdb_c.proofs.Common.{refl, rules, subst, w32, w64, SFits, IsSome, Ok, Option, option_map, to_z-of_z, Write, grid_field, Scalar, I64, IsWrittenBy, write_of, value_of, ◌≡◌, ℕ, Some, None, Coord, AnyGrid, Writes, done}
use Rattle.vdb_scene.specs.declared.any_grid.AnyGrid.TheVariants as grids
use Rattle.vdb_scene.specs.Grids.{KeepsOutside, grid_root_limit}
use Rattle.vdb_c.proofs.voxels.near_writes.set_near.Goals as goal

no_some : (A : Type 0) → IsSome {T = A} None → ⊥
no_some A h = absurd cc

-- a write that is done
written_near : (accessor : Option (Option ℕ)) (at : Coord) (change : Option (Write Scalar)) (old new : AnyGrid) → IsSome accessor → grid_root_limit new ≡ grid_root_limit old
    → KeepsOutside old new at → IsWrittenBy (grid_root_limit old) at change (grid_field old) (grid_field new) (Ok tt) → Writes accessor at change old new done
written_near None at change old new some l e h = absurd (no_some (Option ℕ) some)
written_near (Some a) at None old new some l e h = absurd h
written_near (Some a) at (Some w) old new some l e h = ((l, (Ok tt, refl, h)), λ _. e)

pub returns-in-Bool-clause-written : goal.returns-in-Bool-clause-written
returns-in-Bool-clause-written g c = λ t.
    let given : SFits w64 c.args.given = search rules in
    let number : SFits w32 c.args.number = search rules in
    let old = grids.Bool c.in-Bool.held in
    let new = grids.Bool c.write_in_leaf_if.new.grid in
    let write = (rw (to_z-of_z w64 c.args.given given) at c.cell_write.ensures.write) in
    let accessor = (rw (to_z-of_z w32 c.args.number number) at c.in-Some.ensures) in
    let done =
    subst (λ (o : Option (Write Scalar)). IsWrittenBy c.in-Bool.held.tree.limit c.args.at o (grid_field old) (grid_field new) (Ok tt)) write (c.write_in_leaf_if.ensures.written t) in
    rw c.in-Bool.is (written_near _ c.args.at _ old new (subst IsSome accessor refl) c.write_in_leaf_if.ensures.limit (c.write_in_leaf_if.ensures.elsewhere t) done)

pub returns-in-I32-clause-written : goal.returns-in-I32-clause-written
returns-in-I32-clause-written g c = λ t.
    let given : SFits w64 c.args.given = search rules in
    let number : SFits w32 c.args.number = search rules in
    let old = grids.I32 c.in-I32.held in
    let new = grids.I32 c.write_in_leaf_if-in-I32.new.grid in
    let write = (rw (to_z-of_z w64 c.args.given given) at c.cell_write-in-I32.ensures.write) in
    let accessor = (rw (to_z-of_z w32 c.args.number number) at c.in-Some.ensures) in
    let done =
    subst (λ (o : Option (Write Scalar)). IsWrittenBy c.in-I32.held.tree.limit c.args.at o (grid_field old) (grid_field new) (Ok tt)) write (c.write_in_leaf_if-in-I32.ensures.written t) in
    rw c.in-I32.is (written_near _ c.args.at _ old new (subst IsSome accessor refl) c.write_in_leaf_if-in-I32.ensures.limit (c.write_in_leaf_if-in-I32.ensures.elsewhere t) done)

pub returns-in-I64-clause-written : goal.returns-in-I64-clause-written
returns-in-I64-clause-written g c = λ t.
    let given : SFits w64 c.args.given = search rules in
    let number : SFits w32 c.args.number = search rules in
    let old = grids.I64 c.in-I64.held in
    let new = grids.I64 c.write_in_leaf_if-in-I64.new.grid in
    let write = (rw (to_z-of_z w64 c.args.given given) at c.cell_write-in-I64.ensures.write) in
    let accessor = (rw (to_z-of_z w32 c.args.number number) at c.in-Some.ensures) in
    let done =
    subst (λ (o : Option (Write Scalar)). IsWrittenBy c.in-I64.held.tree.limit c.args.at o (grid_field old) (grid_field new) (Ok tt)) write (c.write_in_leaf_if-in-I64.ensures.written t) in
    rw c.in-I64.is (written_near _ c.args.at (option_map (write_of c.args.on) (value_of I64 c.args.given)) old new (subst IsSome accessor refl) c.write_in_leaf_if-in-I64.ensures.limit (c.write_in_leaf_if-in-I64.ensures.elsewhere t) done)
