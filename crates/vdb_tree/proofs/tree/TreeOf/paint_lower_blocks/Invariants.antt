use Rattle.vdb_tree.proofs.Common.{◌≡◌, IsTrue, block_number, is_inside, coordinates_after, Lower, Upper, Child, bits_of, root_entry, AreSplit}
use Rattle.vdb_tree.proofs.Paints.{PaintsTo}
use Rattle.vdb_tree.proofs.tree.TreeOf.paint_lower_blocks.Given as goal

abbrev pub invariant-loop-next : goal.invariant-loop-next
invariant-loop-next g l =
    let bits = bits_of g.row.U g.row.L g.row.F in
    PaintsTo bits l.fn.bounds l.fn.cell Upper Lower l.part l.fn.self l.self (block_number bits Upper l.fn.p) l.q × (l.self.root ≡ l.fn.self.root)
    × IsTrue (is_inside l.fn.bounds l.q) × (root_entry bits l.self l.q ≡ Child l.fn.upper) × AreSplit bits l.fn.bounds l.fn.cell l.self

abbrev pub decreases-loop-next : goal.decreases-loop-next
decreases-loop-next g l = coordinates_after l.q
