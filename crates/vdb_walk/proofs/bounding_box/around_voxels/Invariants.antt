use Rattle.vdb_walk.proofs.Common.{◌*◌, ◌-◌, ◌≤◌, IsTrue, IfSome, is_box}
use Rattle.vdb_walk.proofs.Surrounds.{Reaches}
use Rattle.vdb_walk.proofs.bounding_box.around_voxels.Given as goal

abbrev pub invariant-voxels : goal.invariant-voxels
invariant-voxels g l = record {
  reaches : Reaches l.bits l.states l.fn.found l.part l.from l.around;
  within : l.from ≤ 64 * g.row.W;
  order : IfSome l.around (λ box. IsTrue (is_box box));
}

abbrev pub decreases-voxels : goal.decreases-voxels
decreases-voxels g l = 64 * g.row.W - l.from
