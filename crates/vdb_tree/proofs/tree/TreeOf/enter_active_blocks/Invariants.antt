use Rattle.vdb_tree.proofs.Common.{HasCapacityForActive, bits_of}
use Rattle.vdb_tree.proofs.ActiveCapacities.{EntersActive}
use Rattle.vdb_tree.proofs.KeysPast.{keys_past}
use Rattle.vdb_tree.proofs.tree.TreeOf.enter_active_blocks.Given as goal

abbrev pub invariant-keys : goal.invariant-keys
invariant-keys g l =
    let bits = bits_of g.row.U g.row.L g.row.F in
    record {
      enters : EntersActive bits l.other l.fn.self l.self l.passed;
      capacity : HasCapacityForActive bits l.other l.self;
    }

abbrev pub decreases-keys : goal.decreases-keys
decreases-keys g l = keys_past l.passed l.other.root
