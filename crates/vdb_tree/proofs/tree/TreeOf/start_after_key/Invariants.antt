use Rattle.vdb_tree.proofs.Common.{Some, bits_of}
use Rattle.vdb_tree.proofs.KeysPast.{keys_past}
use Rattle.vdb_tree.proofs.PartWalks.{IsKeysPassed}
use Rattle.vdb_tree.proofs.tree.TreeOf.start_after_key.Given as goal

abbrev pub invariant-loop-key : goal.invariant-loop-key
invariant-loop-key g l = IsKeysPassed (bits_of g.row.U g.row.L g.row.F) l.self l.bounds l.fn.p l.passed

abbrev pub decreases-loop-key : goal.decreases-loop-key
decreases-loop-key g l = keys_past (Some l.passed) l.self.root
