use Rattle.vdb_tree.specs.Layout.{bits_of}
use Rattle.vdb_tree.proofs.KeysPast.{keys_past}
use Rattle.vdb_tree.proofs.RootCounts.{IsCounted}
use Rattle.vdb_tree.proofs.tree.TreeOf.root_blocks.Given as goal

abbrev pub invariant-loop-key : goal.invariant-loop-key
invariant-loop-key g l = IsCounted g.V.PartialEq.eq (bits_of g.row.U g.row.L g.row.F) l.self l.passed l.count

abbrev pub decreases-loop-key : goal.decreases-loop-key
decreases-loop-key g l = keys_past l.passed l.self.root
