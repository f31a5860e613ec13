use Rattle.vdb_node.proofs.Common.{◌*◌, refl, ◌||◌, is_on, entry_count}
use Rattle.vdb_mask.proofs.MaskLemmas.{IsFirstOn-below}
use Rattle.vdb_node.proofs.Entries.{IsFirstWithout-inactive}
use Rattle.vdb_node.proofs.internal.Internal.next_active.Goals as goal

pub returns : goal.returns
returns g c =
    rw (← c.self.view_is)
    (IsFirstWithout-inactive g.V.Stored.slot_of c.self.inside.children c.self.inside.states (g.V.Stored.value_in c.self.inside.values) c.self.inside.slots.items
    (entry_count g.row.LOG2) c.args.from c.next_on_in_either.result
    (IsFirstOn-below (λ i. is_on c.self.inside.children i || is_on c.self.inside.states i) (entry_count g.row.LOG2) (64 * g.row.W) c.args.from
    c.next_on_in_either.result c.self.invariant.mask_capacity
    (λ i past _. rw (c.self.invariant.no_child_past i past, c.self.invariant.no_state_past i past) refl) c.next_on_in_either.ensures))
