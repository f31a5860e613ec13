use Rattle.vdb_file.proofs.Common.{err_from_is_err_and, exact_by}
use Rattle.vdb_file.proofs.HeadCodes.{no_node, voxel_values}
use Rattle.vdb_file.proofs.loading.block_head.take_head.Goals as goal

pub returns-in_err-take_count-in-3-clause-reads : goal.returns-in_err-take_count-in-3-clause-reads
returns-in_err-take_count-in-3-clause-reads g c =
    let exact = exact_by g.V.PartialEq.eq g.V.Ord.cmp g.met.V.Ord.matches_eq g.met.V.Voxel.exact in
    let values = voxel_values g.V.PartialEq.eq g.V.Voxel.bytes_of g.V.Voxel.is_value g.V.Voxel.KIND exact g.met.V.Eq.laws.refl g.met.V.Voxel.bytes_known g.met.V.Voxel.bytes_exact in
    let p = err_from_is_err_and c.from_residual-in_err-take_count-in-3.result c.from_residual-in_err-take_count-in-3.ensures.1 in
    rw (p.1, p.2) (no_node values c.args.background c.args.most c.in_err-take_count-in-3.field-0.0 _ _ (rw c.in-3.is at c.in_ok-tag.ensures.reads.1) c.in_err-take_count-in-3.ensures.reads)
