use Rattle.vdb_node.specs.Nodes.{entry_count}
use Rattle.vdb_node.proofs.Leaves.{same_leaf}
use Rattle.vdb_node.proofs.leaf.Leaf.copy_from.Goals as goal

pub returns : goal.returns
returns g c =
    rw (← c.other.view_is)
    (same_leaf (g.V.Stored.value_in c.copy_row.new.row) (g.V.Stored.value_in c.other.inside.row) (entry_count g.row.LOG2)
    c.copy_from.new.self c.other.inside.states (rw c.entries.ensures at c.copy_row.ensures.values) c.copy_from.ensures.same)
