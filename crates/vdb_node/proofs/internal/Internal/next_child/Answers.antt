use Rattle.vdb_node.proofs.Common.{◌*◌, entry_count}
use Rattle.vdb_mask.proofs.MaskLemmas.{IsNext-on_below}
use Rattle.vdb_node.proofs.Entries.{IsNextChild-listed}
use Rattle.vdb_node.proofs.internal.Internal.next_child.Goals as goal

pub returns : goal.returns
returns g c =
    rw (← c.self.view_is)
    (IsNextChild-listed g.V.Stored.slot_of c.self.inside.children c.self.inside.states (g.V.Stored.value_in c.self.inside.values) c.self.inside.slots.items
    (entry_count g.row.LOG2) c.args.from c.next_on.result
    (IsNext-on_below c.self.inside.children (entry_count g.row.LOG2) (64 * g.row.W) c.args.from c.next_on.result c.self.invariant.mask_capacity
    (λ i past _. c.self.invariant.no_child_past i past) c.next_on.ensures))
