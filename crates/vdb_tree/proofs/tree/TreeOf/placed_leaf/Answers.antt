use Rattle.vdb_tree.proofs.LeafBlocks.{leaf_around}
use Rattle.vdb_tree.proofs.tree.TreeOf.placed_leaf.Goals as goal

pub returns-clause-leaf : goal.returns-clause-leaf
returns-clause-leaf g c =
    rw (← c.self.view_is)
    (leaf_around _ _ c.args.p _ _ (rw (← c.self.view_is) at c.requires.child) c.at.ensures.node)
