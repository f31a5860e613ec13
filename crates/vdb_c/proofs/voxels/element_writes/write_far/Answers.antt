use Rattle.vdb_c.proofs.Common.{◌∙◌, ap, sym, subst, Option, vdb, as_field_of, Layout, field_of, Write, Scalar, Kind, IsWrittenBy, change_at}
use Rattle.vdb_c.proofs.voxels.element_writes.write_far.Goals as goal

pub returns-clause-outcome : goal.returns-clause-outcome
returns-clause-outcome g c = λ some.
    let make = g.V.GridValue.as_scalar in
    subst (λ (tree : Layout g.row.V.Denot). IsWrittenBy tree.limit c.args.at (change_at g.V.Voxel.KIND c.args.values.now c.args.states.now c.args.index) (as_field_of make (field_of vdb tree)) (as_field_of make (field_of vdb c.write.new.grid.tree)) c.write.result)
    (c.is_written_beside.ensures.untouched c.if-is_written_beside.false)
    (subst (λ (o : Option (Write Scalar)). IsWrittenBy c.is_written_beside.new.grid.tree.limit c.args.at o (as_field_of make (field_of vdb c.is_written_beside.new.grid.tree)) (as_field_of make (field_of vdb c.write.new.grid.tree)) c.write.result)
    (sym c.in-Some.is ∙ c.change_at.ensures.write ∙ ap (λ (k : Kind). change_at k c.args.values.now c.args.states.now c.args.index) c.KIND.ensures) (c.write.ensures.outcome, c.write.ensures.memory))
