use Rattle.vdb_tree.proofs.Common.{both, bits_of}
use Rattle.vdb_tree.proofs.Jumps.{by_part}
use Rattle.vdb_tree.proofs.tree.TreeOf.start_of_entry.Goals as goal

pub returns-in-Some : goal.returns-in-Some
returns-in-Some g c = λ next.
    rw c.min.ensures.corner (by_part (bits_of g.row.U g.row.L g.row.F) c.args.self.now c.args.bounds c.args.skip c.args.outer c.args.level c.requires.next_above c.args.p c.requires.inside c.args.entry next
    c.in-Some.part c.in-Some.ensures.both (both _ _ c.min.ensures.bounds).0)
