use Rattle.std.proofs.Common.{◌≤◌, ◌*◌, ◌-◌}
use Rattle.vdb_walk.proofs.VoxelSeeks.{IsInactiveTo}
use Rattle.vdb_walk.proofs.voxels.next_set_in.Given as goal

abbrev pub invariant-loop-index : goal.invariant-loop-index
invariant-loop-index g l = record { inactive : IsInactiveTo l.bits l.states l.part l.from l.at; within : l.at ≤ 64 * g.row.W }

abbrev pub decreases-loop-index : goal.decreases-loop-index
decreases-loop-index g l = 64 * g.row.W - l.at
