use Rattle.vdb_c.proofs.Common.{◌≡◌, IsTrue, vdb, is_inside, coordinates_after, Coord, field_of, in_leaf, change_of_voxel, AreWritten}
use Rattle.vdb_c.proofs.LeafFields.{Before}
use Rattle.vdb_c.proofs.boxes.leaf_writes.write_each.Given as goal

abbrev pub invariant-leaves : goal.invariant-leaves
invariant-leaves g l = record {
  inside : IsTrue (is_inside l.bounds l.p);
  limit : l.grid.tree.limit ≡ l.fn.grid.tree.limit;
  leaves : (q : Coord) → in_leaf vdb l.grid.tree q ≡ in_leaf vdb l.fn.grid.tree q;
  written : AreWritten g.V.GridValue.as_scalar (change_of_voxel g.V.Voxel.KIND l.bounds l.strides l.values l.states) (Before l.bounds l.p) (field_of vdb l.fn.grid.tree) (field_of vdb l.grid.tree);
}

abbrev pub decreases-leaves : goal.decreases-leaves
decreases-leaves g l = coordinates_after l.p
