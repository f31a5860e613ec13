use Rattle.vdb_node.proofs.Common.{entry_count, ◌∙◌, ◌*◌}
use Rattle.vdb_mask.proofs.MaskLemmas.{on_count-past}
use Rattle.vdb_node.proofs.leaf.Leaf.count_on.Goals as goal

pub returns : goal.returns
returns g c =
    rw (← c.self.view_is)
    (c.count.ensures
    ∙ on_count-past c.self.inside.states (entry_count g.row.LOG2) (64 * g.row.W) c.self.invariant.mask_capacity
    (λ i past _. c.self.invariant.past_end i past))
