use Rattle.vdb_c.proofs.Common.{◌≡◌, IsTrue, vdb, is_inside, IsBlockBefore, coordinates_after, Coord, Leaf, field_of, change_of_voxel, IsReady}
use Rattle.vdb_c.proofs.boxes.leaf_writes.make_leaves.Given as goal

abbrev pub invariant-leaves : goal.invariant-leaves
invariant-leaves g l = record {
  inside : IsTrue (is_inside l.bounds l.p);
  field : field_of vdb l.grid.tree ≡ field_of vdb l.fn.grid.tree;
  limit : l.grid.tree.limit ≡ l.fn.grid.tree.limit;
  ready : (q : Coord) → IsTrue (is_inside l.bounds q) → IsBlockBefore vdb Leaf q l.p → IsReady g.V.GridValue.as_scalar (change_of_voxel g.V.Voxel.KIND l.bounds l.strides l.values l.states) l.grid.tree q;
}

abbrev pub decreases-leaves : goal.decreases-leaves
decreases-leaves g l = coordinates_after l.p
