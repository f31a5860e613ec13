use Rattle.vdb_c.proofs.Common.{IsTrue, is_inside, IsBefore, coordinates_after, Coord, change_of_voxel, IsWritten}
use Rattle.vdb_c.proofs.boxes.leaf_writes.is_kept.Given as goal

abbrev pub invariant-voxels : goal.invariant-voxels
invariant-voxels g l = record {
  inside : IsTrue (is_inside l.part l.p);
  kept : (q : Coord) → IsTrue (is_inside l.part q) → IsBefore q l.p → IsWritten g.V.GridValue.as_scalar (change_of_voxel g.V.Voxel.KIND l.bounds l.strides l.values l.states q) l.cell l.cell;
}

abbrev pub decreases-voxels : goal.decreases-voxels
decreases-voxels g l = coordinates_after l.p
