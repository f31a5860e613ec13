use Rattle.vdb_c.proofs.Common.{IsTrue, IsSome, is_inside, IsBefore, coordinates_after, Coord, change_of_voxel}
use Rattle.vdb_c.proofs.boxes.writes.missing_voxel.Given as goal

abbrev pub invariant-voxels : goal.invariant-voxels
invariant-voxels l = record {
  inside : IsTrue (is_inside l.bounds l.p);
  given : (q : Coord) → IsTrue (is_inside l.bounds q) → IsBefore q l.p → IsSome (change_of_voxel l.kind l.bounds l.strides l.values l.states q);
}

abbrev pub decreases-voxels : goal.decreases-voxels
decreases-voxels l = coordinates_after l.p
