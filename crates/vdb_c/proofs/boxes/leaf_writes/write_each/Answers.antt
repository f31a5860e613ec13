use Rattle.vdb_c.proofs.Common.{◌∙◌, refl, rules, both, min_inside, change_of_voxel}
use Rattle.vdb_c.proofs.LeafFields.{ready_after, written_first, written_last, written_next}
use Rattle.vdb_c.proofs.boxes.leaf_writes.write_each.Goals as goal

pub leaves-init : goal.leaves-init
leaves-init g c =
    let at_min = c.min-p.ensures.corner in
    let change = change_of_voxel g.V.Voxel.KIND c.args.bounds c.args.strides.now c.args.values.now c.args.states.now in
    record {
      inside = rw at_min (min_inside c.args.bounds (both _ _ c.min-p.ensures.bounds).0);
      limit = refl;
      leaves = λ q. refl;
      written = written_first g.V.GridValue.as_scalar change c.args.bounds c.min-p.result at_min _;
    }

pub write_leaf-requires : goal.write_leaf-requires
write_leaf-requires g c =
    let change = change_of_voxel g.V.Voxel.KIND c.args.bounds c.args.strides.now c.args.values.now c.args.states.now in
    (search rules, (c.requires.reach, λ q beside. ready_after g.V.GridValue.as_scalar change c.args.bounds c.leaves.p _ _ c.leaves.invariant.leaves c.leaves.invariant.written q beside (c.requires.ready q beside.0)))

pub leaves-preserved : goal.leaves-preserved
leaves-preserved g c =
    let inv = c.leaves.invariant in
    let change = change_of_voxel g.V.Voxel.KIND c.args.bounds c.args.strides.now c.args.values.now c.args.states.now in
    record {
      inside = c.in-Some.ensures.next.0;
      limit = c.write_leaf.ensures.limit ∙ inv.limit;
      leaves = λ q. c.write_leaf.ensures.leaves q ∙ inv.leaves q;
      written = written_next g.V.GridValue.as_scalar change c.args.bounds c.leaves.p _ _ _ inv.written c.write_leaf.ensures.written c.in-Some.next c.in-Some.ensures.next;
    }

pub returns-in-None-clause-written : goal.returns-in-None-clause-written
returns-in-None-clause-written g c =
    let change = change_of_voxel g.V.Voxel.KIND c.args.bounds c.args.strides.now c.args.values.now c.args.states.now in
    written_last g.V.GridValue.as_scalar change c.args.bounds c.leaves.p _ _ _ c.leaves.invariant.written c.write_leaf.ensures.written c.in-None.ensures.next
