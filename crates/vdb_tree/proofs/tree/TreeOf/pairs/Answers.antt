use Rattle.vdb_tree.specs.Layout.{bits_of}
use Rattle.vdb_tree.proofs.PairWalks.{least_start}
use Rattle.vdb_tree.proofs.tree.TreeOf.pairs.Goals as goal

pub returns-clause-walk : goal.returns-clause-walk
returns-clause-walk g c =
    let start = least_start (bits_of g.row.U g.row.L g.row.F) c.args.self.now c.args.other.now c.min-start.result c.all.result c.min-start.ensures.corner c.all.ensures in
    record { start = start; first = tt; second = tt }
