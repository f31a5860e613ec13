use Rattle.vdb_node.proofs.Common.{◌∙◌, arith, entry_count}
use Rattle.vdb_node.proofs.Entries.{IsConstant-node_of}
use Rattle.vdb_node.proofs.internal.Internal.new_constant.Goals as goal

pub returns : goal.returns
returns g c =
    IsConstant-node_of g.V.Stored.slot_of c.off.result c.cut.new.mask (g.V.Stored.value_in c.in_ok-values.values) c.in_ok-slots.slots.items
    (entry_count g.row.LOG2) c.args.cell
    (λ i _. c.off.ensures i)
    (λ i h. c.in_ok-values.ensures.values i (omega (arith, h, c.entries.ensures)))
    (λ i h.
    c.cut.ensures.others i (omega (arith, h, c.entries-3.ensures)) ∙ c.filled-states.ensures.within i (omega (arith, h, c.requires.capacity)))
