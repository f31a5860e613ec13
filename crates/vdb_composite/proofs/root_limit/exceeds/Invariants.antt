use Rattle.vdb_composite.proofs.Common.{◌≤◌, vdb, field_of, IsPairWalk, left_count, blended, mixed}
use Rattle.vdb_composite.proofs.MixRoots.{HasFound}
use Rattle.vdb_composite.proofs.root_limit.exceeds.Given as goal

abbrev pub invariant-pairs : goal.invariant-pairs
invariant-pairs g l =
    record {
      walk : IsPairWalk vdb l.tree l.other l.walk;
      few : l.count ≤ l.tree.limit;
      found : HasFound g.V.PartialEq.eq vdb l.tree l.other (mixed (blended g.V.Voxel.greater g.V.Voxel.lesser g.V.Voxel.sum_of) l.mix (field_of vdb l.tree) (field_of vdb l.other)) l.walk.at l.last l.count;
    }

abbrev pub decreases-pairs : goal.decreases-pairs
decreases-pairs g l = left_count vdb l.walk.at
