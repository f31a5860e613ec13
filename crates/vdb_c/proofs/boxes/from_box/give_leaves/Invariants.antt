use Rattle.vdb_c.proofs.Common.{◌≡◌, IsTrue, vdb, is_inside, coordinates_after, field_of}
use Rattle.vdb_c.specs.FromBox.{AreGiven, cell_given}
use Rattle.vdb_c.proofs.GivenFields.{Passed}
use Rattle.vdb_c.proofs.boxes.from_box.give_leaves.Given as goal

abbrev pub invariant-leaves : goal.invariant-leaves
invariant-leaves g l = record {
  inside : IsTrue (is_inside l.order l.p);
  limit : l.tree.limit ≡ l.fn.tree.limit;
  given : AreGiven l.bounds (Passed l.turn l.bounds l.p) (cell_given g.V.PartialEq.eq g.T.Given.value l.background l.bounds l.strides l.values) (field_of vdb l.fn.tree) (field_of vdb l.tree);
}

abbrev pub decreases-leaves : goal.decreases-leaves
decreases-leaves g l = coordinates_after l.p
