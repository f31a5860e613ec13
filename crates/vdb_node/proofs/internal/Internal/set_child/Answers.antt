use Rattle.vdb_node.proofs.Common.{◌∙◌, ap, refl, entry_of, entry_count, Child}
use Rattle.vdb_node.proofs.Entries.{entry_of-child, SetsEntry-listed}
use Rattle.vdb_node.proofs.internal.Internal.set_child.Goals as goal

pub returns : goal.returns
returns g c =
    rw (← c.self.view_is)
    (SetsEntry-listed (entry_of g.V.Stored.slot_of c.self.inside.children c.self.inside.states (g.V.Stored.value_in c.self.inside.values) c.self.inside.slots.items)
    (entry_of g.V.Stored.slot_of c.set.new.self c.self.inside.states (g.V.Stored.value_in c.set_slot.new.row) c.set_slot.new.slots.items) (entry_count g.row.LOG2)
    c.args.i _ c.requires
    (entry_of-child g.V.Stored.slot_of c.set.new.self c.self.inside.states (g.V.Stored.value_in c.set_slot.new.row) c.set_slot.new.slots.items c.args.i
    c.set.ensures.here
    ∙ ap Child c.set_slot.ensures.here)
    (λ j other. rw (c.set.ensures.others j other, c.set_slot.ensures.others j other, c.set_slot.ensures.other_numbers j other) refl))
