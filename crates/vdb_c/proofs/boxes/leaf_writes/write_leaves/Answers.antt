use Rattle.vdb_c.proofs.Common.{◌∙◌, ap, Field, as_field_of, is_inside, change_of_voxel, with_writes}
use Rattle.vdb_c.proofs.LeafFields.{as_written}
use Rattle.vdb_c.proofs.boxes.leaf_writes.write_leaves.Goals as goal

pub returns-clause-written : goal.returns-clause-written
returns-clause-written g c = λ _.
    let make = g.V.GridValue.as_scalar in
    let change = change_of_voxel g.V.Voxel.KIND c.args.bounds c.args.strides.now c.args.values.now c.args.states.now in
    as_written make change c.args.bounds _ _ c.write_each.ensures.written
    ∙ ap (λ (f : Field g.row.V.Denot). with_writes (is_inside c.args.bounds) change (as_field_of make f)) c.make_leaves.ensures.field
