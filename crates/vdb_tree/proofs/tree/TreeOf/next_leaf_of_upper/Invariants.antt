use Rattle.vdb_tree.proofs.Common.{◌≤◌, ◌-◌, entry_count, bits_of}
use Rattle.vdb_tree.proofs.NextLeaf.{IsUpperPassed}
use Rattle.vdb_tree.proofs.tree.TreeOf.next_leaf_of_upper.Given as goal

abbrev pub invariant-loop-corner : goal.invariant-loop-corner
invariant-loop-corner g l = IsUpperPassed (bits_of g.row.U g.row.L g.row.F) l.self l.p l.from l.next × (l.next ≤ entry_count g.row.U)

abbrev pub decreases-loop-corner : goal.decreases-loop-corner
decreases-loop-corner g l = entry_count g.row.U - l.next
