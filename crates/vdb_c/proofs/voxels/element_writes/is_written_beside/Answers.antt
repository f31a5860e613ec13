use Rattle.vdb_c.proofs.Common.{subst, Ok, vdb, as_field_of, Layout, field_of, IsWrittenBy, change_at}
use Rattle.vdb_c.proofs.voxels.element_writes.is_written_beside.Goals as goal

pub returns-clause-written : goal.returns-clause-written
returns-clause-written g c = λ t.
    let make = g.V.GridValue.as_scalar in
    subst (λ (tree : Layout g.row.V.Denot). IsWrittenBy tree.limit c.args.at (change_at g.V.Voxel.KIND c.args.values.now c.args.states.now c.args.index) (as_field_of make (field_of vdb tree)) (as_field_of make (field_of vdb c.is_written_near.new.grid.tree)) (Ok tt))
    c.go_to.ensures.tree (c.is_written_near.ensures.written t)
