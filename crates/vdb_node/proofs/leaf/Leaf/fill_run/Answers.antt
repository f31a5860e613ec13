use Rattle.vdb_node.specs.Nodes.{entry_count}
use Rattle.vdb_node.proofs.Leaves.{FillsRun-leaf_of}
use Rattle.vdb_node.proofs.leaf.Leaf.fill_run.Goals as goal

pub returns : goal.returns
returns g c =
    rw (← c.self.view_is)
    (FillsRun-leaf_of (g.V.Stored.value_in c.self.inside.row) (g.V.Stored.value_in c.set_run.new.row) (entry_count g.row.LOG2)
    c.self.inside.states c.set_run-2.new.self c.args.from c.args.to c.args.cell c.requires.within c.set_run.ensures.run c.set_run.ensures.before
    c.set_run.ensures.after c.set_run-2.ensures.run c.set_run-2.ensures.before c.set_run-2.ensures.after)
