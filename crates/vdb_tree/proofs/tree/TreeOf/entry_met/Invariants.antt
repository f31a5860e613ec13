use Rattle.vdb_tree.proofs.Common.{Some, bits_of}
use Rattle.vdb_tree.proofs.KeysPast.{keys_past}
use Rattle.vdb_tree.proofs.KeySkips.{IsMetPast}
use Rattle.vdb_tree.proofs.tree.TreeOf.entry_met.Given as goal

abbrev pub invariant-loop-key : goal.invariant-loop-key
invariant-loop-key g l = IsMetPast (bits_of g.row.U g.row.L g.row.F) l.fn.bounds l.self.root l.fn.after l.passed

abbrev pub decreases-loop-key : goal.decreases-loop-key
decreases-loop-key g l = keys_past (Some l.passed) l.self.root
