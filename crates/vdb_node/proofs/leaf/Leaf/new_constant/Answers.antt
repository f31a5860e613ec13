use Rattle.vdb_node.proofs.Common.{◌∙◌, arith, entry_count}
use Rattle.vdb_node.proofs.Leaves.{IsConstantLeaf-leaf_of}
use Rattle.vdb_node.proofs.leaf.Leaf.new_constant.Goals as goal

pub returns-clause-cells : goal.returns-clause-cells
returns-clause-cells g c =
    IsConstantLeaf-leaf_of (g.V.Stored.value_in c.in_ok-row.row) (entry_count g.row.LOG2) c.cut.new.mask c.args.cell
    (λ i h. c.in_ok-row.ensures.values i (omega (arith, h, c.entries.ensures)))
    (λ i h.
    c.cut.ensures.others i (omega (arith, h, c.entries-2.ensures)) ∙ c.filled-states.ensures.within i (omega (arith, h, c.requires.capacity)))
