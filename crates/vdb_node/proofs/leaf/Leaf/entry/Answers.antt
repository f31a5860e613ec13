use Rattle.vdb_node.proofs.Common.{◌∙◌, refl, entry_count}
use Rattle.vdb_node.proofs.Leaves.{cell_in-leaf_of}
use Rattle.vdb_node.proofs.leaf.Leaf.entry.Goals as goal

pub returns : goal.returns
returns g c =
    rw (← c.self.view_is)
    (λ d.
    cell_in-leaf_of (g.V.Stored.value_in c.self.inside.row) (entry_count g.row.LOG2) c.self.inside.states d c.args.i c.requires
    ∙ rw (c.value_at.ensures, c.test.ensures) refl)
