use Rattle.vdb_tree.specs.Layout.{bits_of}
use Rattle.vdb_tree.proofs.ActiveCapacities.{CountsActive}
use Rattle.vdb_tree.proofs.KeysPast.{keys_past}
use Rattle.vdb_tree.proofs.tree.TreeOf.has_capacity_for_active.Given as goal

abbrev pub invariant-keys : goal.invariant-keys
invariant-keys g l = CountsActive (bits_of g.row.U g.row.L g.row.F) l.other l.self l.passed l.capacity

abbrev pub decreases-keys : goal.decreases-keys
decreases-keys g l = keys_past l.passed l.other.root
