use Rattle.vdb_composite.proofs.Common.{vdb, field_of, blended}
use Rattle.vdb_composite.proofs.MixSearch.{MissesBelow}
use Rattle.vdb_composite.proofs.search.voxels_meet.Given as goal

abbrev pub invariant-loop-index : goal.invariant-loop-index
invariant-loop-index g l =
    MissesBelow (blended g.V.Voxel.greater g.V.Voxel.lesser g.V.Voxel.sum_of) vdb l.bounds l.mix l.sought (field_of vdb l.tree) (field_of vdb l.other) l.index
