use Rattle.vdb_c.proofs.Common.{◌≡◌, vdb, as_field_of, field_of, after_writes, change_at, voxel_at}
use Rattle.vdb_c.proofs.voxels.many.write_voxels.Given as goal

abbrev pub invariant-loop-k : goal.invariant-loop-k
invariant-loop-k g l = record {
  limit : l.grid.tree.limit ≡ l.fn.grid.tree.limit;
  field : as_field_of g.V.GridValue.as_scalar (field_of vdb l.grid.tree)
      ≡ after_writes (voxel_at l.at) (change_at g.V.Voxel.KIND l.values l.states) l.k (as_field_of g.V.GridValue.as_scalar (field_of vdb l.fn.grid.tree));
}
