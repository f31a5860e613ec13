use Rattle.vdb_tree.proofs.Common.{coordinates_after, bits_of, HasCapacityFor}
use Rattle.vdb_tree.proofs.CapacityWalks.{EntersTo}
use Rattle.vdb_tree.proofs.tree.TreeOf.enter_blocks.Given as goal

abbrev pub invariant-loop-self : goal.invariant-loop-self
invariant-loop-self g l =
    let bits = bits_of g.row.U g.row.L g.row.F in
    EntersTo bits l.fn.bounds l.fn.self l.self l.p × HasCapacityFor bits l.self l.fn.bounds

abbrev pub decreases-loop-self : goal.decreases-loop-self
decreases-loop-self g l = coordinates_after l.p
