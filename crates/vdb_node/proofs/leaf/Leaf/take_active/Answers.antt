use Rattle.vdb_node.specs.Nodes.{entry_count}
use Rattle.vdb_node.proofs.Leaves.{takes_active-leaf_of}
use Rattle.vdb_node.proofs.leaf.Leaf.take_active.Goals as goal

pub returns : goal.returns
returns g c =
    rw (← c.self.view_is, ← c.other.view_is)
    (takes_active-leaf_of (g.V.Stored.value_in c.self.inside.row) (g.V.Stored.value_in c.other.inside.row) (g.V.Stored.value_in c.take_marked.new.row)
    (entry_count g.row.LOG2) c.self.inside.states c.other.inside.states c.union.new.self (rw c.entries.ensures at c.take_marked.ensures.taken) c.union.ensures)
