use Rattle.vdb_node.proofs.Common.{◌∙◌, ap, refl, entry_of, entry_count, Child}
use Rattle.vdb_node.proofs.Entries.{entry_of-child, entry_of-tile}
use Rattle.vdb_node.proofs.Listed.{get_or-listed}
use Rattle.vdb_node.proofs.internal.Internal.entry.Goals as goal

pub returns-then-test : goal.returns-then-test
returns-then-test g c =
    rw (← c.self.view_is)
    (λ d.
    get_or-listed (entry_of g.V.Stored.slot_of c.self.inside.children c.self.inside.states (g.V.Stored.value_in c.self.inside.values) c.self.inside.slots.items)
    (entry_count g.row.LOG2) c.args.i d c.requires
    ∙ entry_of-child g.V.Stored.slot_of c.self.inside.children c.self.inside.states (g.V.Stored.value_in c.self.inside.values) c.self.inside.slots.items c.args.i
    (c.test.ensures ∙ c.if-test.true)
    ∙ ap Child c.slot_at.ensures)

pub returns-else-test : goal.returns-else-test
returns-else-test g c =
    rw (← c.self.view_is)
    (λ d.
    get_or-listed (entry_of g.V.Stored.slot_of c.self.inside.children c.self.inside.states (g.V.Stored.value_in c.self.inside.values) c.self.inside.slots.items)
    (entry_count g.row.LOG2) c.args.i d c.requires
    ∙ entry_of-tile g.V.Stored.slot_of c.self.inside.children c.self.inside.states (g.V.Stored.value_in c.self.inside.values) c.self.inside.slots.items c.args.i
    (c.test.ensures ∙ c.if-test.false)
    ∙ rw (c.value_at.ensures, c.test-else-test.ensures) refl)
