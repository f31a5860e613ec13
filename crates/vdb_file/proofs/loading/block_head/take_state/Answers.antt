use Rattle.vdb_file.proofs.Common.{rules, exact_by}
use Rattle.vdb_file.proofs.HeadCodes.{no_state, voxel_values}
use Rattle.vdb_file.proofs.loading.block_head.take_state.Goals as goal

pub returns-then-eq-clause-reads : goal.returns-then-eq-clause-reads
returns-then-eq-clause-reads g c =
    let exact = exact_by g.V.PartialEq.eq g.V.Ord.cmp g.met.V.Ord.matches_eq g.met.V.Voxel.exact in
    let values = voxel_values g.V.PartialEq.eq g.V.Voxel.bytes_of g.V.Voxel.is_value g.V.Voxel.KIND exact g.met.V.Eq.laws.refl g.met.V.Voxel.bytes_known g.met.V.Voxel.bytes_exact in
    no_state values c.args.background c.args.on c.in_ok-value.value (search rules) (search rules) c.in_ok-value.ensures.reads.0 _ _ c.in_ok-value.ensures.reads.1 _
