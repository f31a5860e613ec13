use Rattle.vdb_c.proofs.Common.{◌≡◌, IsTrue, vdb, is_inside, coordinates_after, as_field_of, field_of, change_of_voxel, is_first, rank, with_writes}
use Rattle.vdb_c.proofs.boxes.writes.write_rows.Given as goal

abbrev pub invariant-rows : goal.invariant-rows
invariant-rows g l = record {
  inside : IsTrue (is_inside l.bounds l.p);
  number : l.count ≡ rank l.bounds l.p;
  limit : l.grid.tree.limit ≡ l.fn.grid.tree.limit;
  field : as_field_of g.V.GridValue.as_scalar (field_of vdb l.grid.tree)
      ≡ with_writes (is_first l.bounds l.count) (change_of_voxel g.V.Voxel.KIND l.bounds l.strides l.values l.states) (as_field_of g.V.GridValue.as_scalar (field_of vdb l.fn.grid.tree));
}

abbrev pub decreases-rows : goal.decreases-rows
decreases-rows g l = coordinates_after l.p
