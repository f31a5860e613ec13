use Rattle.vdb_tree.specs.Layout.{bits_of}
use Rattle.vdb_tree.proofs.PartWalks.{leaf_found, leaf_none}
use Rattle.vdb_tree.proofs.tree.TreeOf.start_after_leaf.Goals as goal

pub returns-in-Some : goal.returns-in-Some
returns-in-Some g c = leaf_found (bits_of g.row.U g.row.L g.row.F) c.args.self.now c.args.bounds c.args.skip c.args.p c.requires.node c.in-Some.next c.in-Some.ensures

pub returns-in-None : goal.returns-in-None
returns-in-None g c = leaf_none (bits_of g.row.U g.row.L g.row.F) c.args.self.now c.args.bounds c.args.skip c.args.p c.in-None.ensures c.start_after_lower.result c.start_after_lower.ensures
