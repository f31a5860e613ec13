use Rattle.vdb_composite.proofs.Common.{IsSome, vdb, field_of, IsPairWalk, left_count, blended, mixed_cell}
use Rattle.vdb_composite.proofs.MixWalks.{IsPassed}
use Rattle.vdb_composite.proofs.search.lacks.Given as goal

abbrev pub invariant-pairs : goal.invariant-pairs
invariant-pairs g l =
    record {
      walk : IsPairWalk vdb l.tree l.other l.walk;
      passed : IsPassed vdb l.tree l.other (λ q. IsSome (mixed_cell (blended g.V.Voxel.greater g.V.Voxel.lesser g.V.Voxel.sum_of) l.mix ((field_of vdb l.tree).cell q) ((field_of vdb l.other).cell q))) l.walk.at;
    }

abbrev pub decreases-pairs : goal.decreases-pairs
decreases-pairs g l = left_count vdb l.walk.at
