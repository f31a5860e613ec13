use Rattle.vdb_tree.proofs.Common.{both, min_inside, bits_of}
use Rattle.vdb_tree.proofs.PartWalks.{start_at_corner}
use Rattle.vdb_tree.proofs.tree.TreeOf.parts.Goals as goal

pub returns-clause-walk : goal.returns-clause-walk
returns-clause-walk g c =
    let bounds = c.args.bounds in
    let start = start_at_corner (bits_of g.row.U g.row.L g.row.F) c.args.self.now bounds (min_inside bounds (both _ _ c.min.ensures.bounds).0) in
    record { start = rw c.min.ensures.corner start; lives = tt }
