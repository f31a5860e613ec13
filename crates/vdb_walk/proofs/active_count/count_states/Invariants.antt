use Rattle.vdb_walk.proofs.Common.{◌≡◌, ◌+◌, ◌-◌, ◌*◌, ◌≤◌, set_count}
use Rattle.vdb_walk.proofs.VoxelCounts.{set_from}
use Rattle.vdb_walk.proofs.active_count.count_states.Given as goal

abbrev pub invariant-voxels : goal.invariant-voxels
invariant-voxels g l = record {
  counted : l.total + set_from l.bits l.states l.part l.from ≡ set_count l.bits l.states l.part;
  within : l.from ≤ 64 * g.row.W;
  few : l.total ≤ l.from;
}

abbrev pub decreases-voxels : goal.decreases-voxels
decreases-voxels g l = 64 * g.row.W - l.from
