use Rattle.vdb_c.proofs.Common.{◌≡◌, ◌-◌, ◌<◌, pos, ◌+ℤ◌, vdb, as_field_of, field_of, along_z, change_of_voxel, place, after_writes}
use Rattle.vdb_c.proofs.boxes.writes.write_row.Given as goal

abbrev pub invariant-voxels : goal.invariant-voxels
invariant-voxels g l = record {
  below : l.count < l.size;
  z : l.z ≡ l.p.z +ℤ pos l.count;
  element : l.index ≡ place l.fn.bounds l.fn.strides (along_z l.p l.count);
  limit : l.grid.tree.limit ≡ l.fn.grid.tree.limit;
  field : as_field_of g.V.GridValue.as_scalar (field_of vdb l.grid.tree)
      ≡ after_writes (along_z l.p) (λ i. change_of_voxel g.V.Voxel.KIND l.fn.bounds l.fn.strides l.values l.states (along_z l.p i)) l.count (as_field_of g.V.GridValue.as_scalar (field_of vdb l.fn.grid.tree));
}

abbrev pub decreases-voxels : goal.decreases-voxels
decreases-voxels g l = l.size - l.count
