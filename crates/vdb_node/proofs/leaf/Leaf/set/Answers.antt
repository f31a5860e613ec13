use Rattle.vdb_node.specs.Nodes.{entry_count}
use Rattle.vdb_node.proofs.Leaves.{SetsVoxel-leaf_of}
use Rattle.vdb_node.proofs.leaf.Leaf.set.Goals as goal

pub returns : goal.returns
returns g c =
    rw (← c.self.view_is)
    (SetsVoxel-leaf_of (g.V.Stored.value_in c.self.inside.row) (g.V.Stored.value_in c.set_value.new.row) (entry_count g.row.LOG2)
    c.self.inside.states c.put.new.mask c.args.i c.args.cell c.requires c.set_value.ensures.here c.set_value.ensures.others c.put.ensures.here c.put.ensures.others)
