use Rattle.vdb_composite.proofs.Common.{◌≡◌, vdb, field_of, IsPairWalk, left_count, blended}
use Rattle.vdb_composite.proofs.MixWalks.{IsBuilt}
use Rattle.vdb_composite.proofs.build.add_pairs.Given as goal

abbrev pub invariant-pairs : goal.invariant-pairs
invariant-pairs g l =
    record {
      walk : IsPairWalk vdb l.tree l.other l.walk;
      limit : l.made.limit ≡ l.fn.made.limit;
      built : IsBuilt vdb l.tree l.other (blended g.V.Voxel.greater g.V.Voxel.lesser g.V.Voxel.sum_of) l.mix l.fn.background (field_of vdb l.made) l.walk.at;
    }

abbrev pub decreases-pairs : goal.decreases-pairs
decreases-pairs g l = left_count vdb l.walk.at
