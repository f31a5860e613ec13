use Rattle.vdb_tree.proofs.LeafBlocks.{sets_states}
use Rattle.vdb_tree.proofs.tree.TreeOf.set_states.Goals as goal

pub returns-in-Child-clause-sets : goal.returns-in-Child-clause-sets
returns-in-Child-clause-sets g c = λ _. sets_states _ _ _ _ _ c.set_leaf_states.ensures.field
