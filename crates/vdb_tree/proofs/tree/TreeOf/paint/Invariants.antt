use Rattle.vdb_tree.proofs.Common.{bits_of, AreSplit}
use Rattle.vdb_tree.proofs.KeysPast.{keys_past}
use Rattle.vdb_tree.proofs.PaintedRoots.{PaintsRootsTo}
use Rattle.vdb_tree.proofs.tree.TreeOf.paint.Given as goal

abbrev pub invariant-loop-key : goal.invariant-loop-key
invariant-loop-key g l =
    let bits = bits_of g.row.U g.row.L g.row.F in
    PaintsRootsTo bits l.fn.bounds l.fn.cell l.fn.self l.self l.passed × AreSplit bits l.fn.bounds l.fn.cell l.self

abbrev pub decreases-loop-key : goal.decreases-loop-key
decreases-loop-key g l = keys_past l.passed l.fn.self.root
