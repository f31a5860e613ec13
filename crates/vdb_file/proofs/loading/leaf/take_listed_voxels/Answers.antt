use Rattle.vdb_file.proofs.Common.{err_from_is_err_and, entry_count, exact_by, vdb, refl, ahead}
use Rattle.vdb_file.specs.declared.fault.LoadFault.TheVariants.{ConstantNode}
use Rattle.vdb_file.proofs.HeadCodes.{voxel_values}
use Rattle.vdb_file.proofs.LeafReads.{none_unlike, voxels_alike, voxels_differ}
use Rattle.vdb_file.proofs.Standard.{standard_bits}
use Rattle.vdb_file.proofs.loading.leaf.take_listed_voxels.Goals as goal

pub returns-in_err-take_voxels-clause-reads : goal.returns-in_err-take_voxels-clause-reads
returns-in_err-take_voxels-clause-reads g c p =
    let values = voxel_values g.V.PartialEq.eq g.V.Voxel.bytes_of g.V.Voxel.is_value g.V.Voxel.KIND (exact_by g.V.PartialEq.eq g.V.Ord.cmp g.met.V.Ord.matches_eq g.met.V.Voxel.exact) g.met.V.Eq.laws.refl g.met.V.Voxel.bytes_known g.met.V.Voxel.bytes_exact in
    let e = err_from_is_err_and c.from_residual.result c.from_residual.ensures.1 in
    rw (e.1, e.2) (none_unlike values vdb standard_bits c.args.background p c.in_err-take_voxels.field-0.0 (ahead c.args.input.now (g.S.Source.state c.args.reader.now)) c.args.count (c.in_err-take_voxels.ensures.reads p))

pub returns-in-Some-clause-reads : goal.returns-in-Some-clause-reads
returns-in-Some-clause-reads g c p =
    let values = voxel_values g.V.PartialEq.eq g.V.Voxel.bytes_of g.V.Voxel.is_value g.V.Voxel.KIND (exact_by g.V.PartialEq.eq g.V.Ord.cmp g.met.V.Ord.matches_eq g.met.V.Voxel.exact) g.met.V.Eq.laws.refl g.met.V.Voxel.bytes_known g.met.V.Voxel.bytes_exact in
    let read = c.in_ok-take_voxels.ensures.reads p in
    voxels_alike values vdb standard_bits c.args.background p ConstantNode (ahead c.args.input.now (g.S.Source.state c.args.reader.now)) c.args.count c.take_voxels.new.leaf
    (ahead c.take_voxels.new.input (g.S.Source.state c.take_voxels.new.reader)) read.0 read.1 c.in-Some.field-0 (entry_count 3) refl ((c.in-Some.ensures c.in-Some.field-0).0 refl)

pub returns-in-None-clause-reads : goal.returns-in-None-clause-reads
returns-in-None-clause-reads g c p =
    let values = voxel_values g.V.PartialEq.eq g.V.Voxel.bytes_of g.V.Voxel.is_value g.V.Voxel.KIND (exact_by g.V.PartialEq.eq g.V.Ord.cmp g.met.V.Ord.matches_eq g.met.V.Voxel.exact) g.met.V.Eq.laws.refl g.met.V.Voxel.bytes_known g.met.V.Voxel.bytes_exact in
    let read = c.in_ok-take_voxels.ensures.reads p in (
      (
        record {
          values = read.0.values;
          differs = voxels_differ values vdb standard_bits c.args.background p c.take_voxels.new.leaf (entry_count 3) refl c.states.ensures.values c.in-None.ensures;
        },
        read.0.counted,
      ),
      read.1,
    )
