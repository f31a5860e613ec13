use Rattle.vdb_coord.specs.Walk.{coordinates_after}
use Rattle.vdb_tree.specs.Layout.{bits_of}
use Rattle.vdb_walk.proofs.PartCells.{HaveBefore}
use Rattle.vdb_walk.proofs.uniform_box.roots_have.Given as goal

abbrev pub invariant-roots : goal.invariant-roots
invariant-roots g l = HaveBefore (bits_of g.row.U g.row.L g.row.F) l.tree l.bounds l.cell l.p

abbrev pub decreases-roots : goal.decreases-roots
decreases-roots g l = coordinates_after l.p
