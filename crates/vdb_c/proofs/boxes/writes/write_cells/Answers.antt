use Rattle.vdb_c.proofs.Common.{arith, inl, refl, rules, subst, w32, ℕ, SFits, to_z-of_z, vdb, Field, as_field_of, field_of, change_of_voxel}
use Rattle.vdb_c.specs.BoxWrites.{WritesBoxUpToIn}
use Rattle.vdb_c.proofs.LeafFields.{volume_fits}
use Rattle.vdb_c.proofs.boxes.writes.write_cells.Goals as goal

pub overflow_cast-written : goal.overflow_cast-written
overflow_cast-written g c =
    let fits = volume_fits c.args.bounds c.max.ensures.bounds c.args.strides.now c.requires.apart c.requires.reach in
    let size = c.volume.ensures.value in
    omega (arith, fits, size)

pub returns-then-write_leaves : goal.returns-then-write_leaves
unfolding WritesBoxUpToIn
returns-then-write_leaves g c = (c.write_leaves.ensures.limit, inl (refl, c.volume.ensures.value, c.write_leaves.ensures.written c.if-write_leaves.true))

pub returns : goal.returns
returns g c =
    let make = g.V.GridValue.as_scalar in
    let b = c.args.bounds in
    let change = change_of_voxel g.V.Voxel.KIND b c.args.strides.now c.args.values.now c.args.states.now in
    let new = c.write_rows.new.grid.tree in
    let n = c.write_rows.new.written in
    let code = c.write_rows.result in
    let fits : SFits w32 c.write_rows.result = search rules in
    rw (to_z-of_z w32 code fits)
    (subst (λ (l : ℕ). WritesBoxUpToIn b change l new.limit (as_field_of make (field_of vdb c.args.grid.now.tree)) (as_field_of make (field_of vdb new)) n code) c.write_leaves.ensures.limit
    (subst (λ (f : Field g.row.V.Denot). WritesBoxUpToIn b change c.write_leaves.new.grid.tree.limit new.limit (as_field_of make f) (as_field_of make (field_of vdb new)) n code) (c.write_leaves.ensures.untouched c.if-write_leaves.false) c.write_rows.ensures))
