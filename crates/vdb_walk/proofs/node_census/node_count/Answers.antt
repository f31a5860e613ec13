use Rattle.vdb_walk.proofs.node_census.node_count.Goals as goal

pub returns-in-Leaf : goal.returns-in-Leaf
returns-in-Leaf g c = rw c.in-Leaf.is c.node_counts-counts.ensures.at_least.leaf

pub returns-in-Lower : goal.returns-in-Lower
returns-in-Lower g c = rw c.in-Lower.is c.node_counts-counts.ensures.at_least.lower

pub returns-in-Upper : goal.returns-in-Upper
returns-in-Upper g c = rw c.in-Upper.is c.node_counts-counts.ensures.at_least.upper
