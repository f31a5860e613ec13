use Rattle.vdb_node.specs.Nodes.{entry_count}
use Rattle.vdb_node.proofs.Listed.{length-listed}
use Rattle.vdb_node.proofs.leaf.Leaf.states.Goals as goal

pub returns-clause-values : goal.returns-clause-values
returns-clause-values g c = rw (← c.self.view_is) (length-listed (g.V.Stored.value_in c.self.inside.row) (entry_count g.row.LOG2))
