use Rattle.vdb_tree.specs.Layout.{bits_of}
use Rattle.vdb_tree.proofs.Refining.{lower_at_corner}
use Rattle.vdb_tree.proofs.tree.TreeOf.next_leaf_of.Goals as goal

pub returns-clause-node : goal.returns-clause-node
returns-clause-node g c =
    lower_at_corner (bits_of g.row.U g.row.L g.row.F) c.args.self.now c.args.other.now c.args.p c.args.lower c.args.from c.next_leaf_corner.result c.requires.node c.next_leaf_corner.ensures.corner
