use Rattle.vdb_tree.proofs.tree.TreeOf.block_is.Goals as goal

pub returns-in-Upper : goal.returns-in-Upper
returns-in-Upper g c = rw c.in-Upper.is c.root_block_is.ensures

pub returns-in-Lower : goal.returns-in-Lower
returns-in-Lower g c = rw c.in-Lower.is c.block_of_lower_is.ensures

pub returns-in-Leaf : goal.returns-in-Leaf
returns-in-Leaf g c = rw c.in-Leaf.is c.block_of_leaf_is.ensures
