use Rattle.vdb_tree.specs.Layout.{bits_of}
use Rattle.vdb_tree.proofs.KeysPast.{keys_past}
use Rattle.vdb_tree.proofs.RootSweeps.{SweepsTo}
use Rattle.vdb_tree.proofs.tree.TreeOf.sweep.Given as goal

abbrev pub invariant-loop-key : goal.invariant-loop-key
invariant-loop-key g l = SweepsTo (bits_of g.row.U g.row.L g.row.F) l.fn.self l.self l.passed

abbrev pub decreases-loop-key : goal.decreases-loop-key
decreases-loop-key g l = keys_past l.passed l.fn.self.root
