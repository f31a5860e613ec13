use Rattle.vdb_tree.specs.Layout.{bits_of}
use Rattle.vdb_tree.proofs.PartWalks.{lower_found, lower_none}
use Rattle.vdb_tree.proofs.tree.TreeOf.start_after_lower.Goals as goal

pub returns-in-Some : goal.returns-in-Some
returns-in-Some g c = lower_found (bits_of g.row.U g.row.L g.row.F) c.args.self.now c.args.bounds c.args.skip c.args.p c.requires.node c.in-Some.next c.in-Some.ensures

pub returns-in-None : goal.returns-in-None
returns-in-None g c = lower_none (bits_of g.row.U g.row.L g.row.F) c.args.self.now c.args.bounds c.args.skip c.args.p c.in-None.ensures c.start_after_key.result c.start_after_key.ensures
