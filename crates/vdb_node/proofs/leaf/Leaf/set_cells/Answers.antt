use Rattle.vdb_node.proofs.Common.{◌+◌, refl, ◌∙◌, arith, entry_count}
use Rattle.vdb_node.proofs.Leaves.{cell_in-leaf_of, cell_kept}
use Rattle.vdb_node.proofs.leaf.Leaf.set_cells.Goals as goal

pub returns-clause-cells : goal.returns-clause-cells
returns-clause-cells g c = λ d i h.
    cell_in-leaf_of (g.V.Stored.value_in c.set_values.new.row) (entry_count g.row.LOG2) c.put_bits.new.mask d (c.args.from + i) (omega (arith, h, c.requires.within))
    ∙ rw (c.set_values.ensures.run i d.value h, c.put_bits.ensures.run i h) refl

pub returns-clause-before : goal.returns-clause-before
returns-clause-before g c =
    rw (← c.self.view_is)
    (λ d i h.
    cell_kept (g.V.Stored.value_in c.self.inside.row) (g.V.Stored.value_in c.set_values.new.row) (entry_count g.row.LOG2) c.self.inside.states
    c.put_bits.new.mask d i (c.set_values.ensures.before i h) (c.put_bits.ensures.before i h))

pub returns-clause-after : goal.returns-clause-after
returns-clause-after g c =
    rw (← c.self.view_is)
    (λ d i h.
    cell_kept (g.V.Stored.value_in c.self.inside.row) (g.V.Stored.value_in c.set_values.new.row) (entry_count g.row.LOG2) c.self.inside.states
    c.put_bits.new.mask d i (c.set_values.ensures.after i h) (c.put_bits.ensures.after i h))
