use Rattle.vdb_tree.proofs.CopiedTables.{IsCopiedTo}
use Rattle.vdb_tree.proofs.KeysPast.{keys_past}
use Rattle.vdb_tree.proofs.root.RootTable.try_copy.Given as goal

abbrev pub invariant-loop-key : goal.invariant-loop-key
invariant-loop-key g l = IsCopiedTo l.self l.copy l.passed

abbrev pub decreases-loop-key : goal.decreases-loop-key
decreases-loop-key g l = keys_past l.passed l.self
