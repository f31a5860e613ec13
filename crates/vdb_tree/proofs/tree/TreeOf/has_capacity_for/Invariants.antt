use Rattle.vdb_tree.proofs.Common.{IsTrue, is_inside, coordinates_after, bits_of}
use Rattle.vdb_tree.proofs.CapacityWalks.{CountsTo}
use Rattle.vdb_tree.proofs.tree.TreeOf.has_capacity_for.Given as goal

abbrev pub invariant-loop-self : goal.invariant-loop-self
invariant-loop-self g l = CountsTo (bits_of g.row.U g.row.L g.row.F) l.fn.bounds l.self l.p l.capacity × IsTrue (is_inside l.fn.bounds l.p)

abbrev pub decreases-loop-self : goal.decreases-loop-self
decreases-loop-self g l = coordinates_after l.p
