use Rattle.vdb_tree.proofs.Common.{rules, Lower, Upper, fits_everywhere, bits_of}
use Rattle.vdb_tree.proofs.UnlikeEntries.{unlike_in_field}
use Rattle.vdb_tree.proofs.tree.TreeOf.next_unlike.Goals as goal

pub returns-in-Child : goal.returns-in-Child
returns-in-Child g c =
    let inside = fits_everywhere c.args.p (search rules) (search rules) (search rules) in
    rw (c.in-Upper.is) (unlike_in_field (bits_of g.row.U g.row.L g.row.F) c.self.invariant.0.bits Upper c.args.self.now c.args.p inside c.args.cell c.args.from c.next_unlike_lower.result c.next_unlike_lower.ensures)

pub returns-in-Child-upper_entry : goal.returns-in-Child-upper_entry
returns-in-Child-upper_entry g c =
    let inside = fits_everywhere c.args.p (search rules) (search rules) (search rules) in
    rw (c.in-Lower.is) (unlike_in_field (bits_of g.row.U g.row.L g.row.F) c.self.invariant.0.bits Lower c.args.self.now c.args.p inside c.args.cell c.args.from c.next_unlike_leaf.result c.next_unlike_leaf.ensures)
