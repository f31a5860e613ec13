use Rattle.vdb_tree.proofs.Common.{rules, sym, ◌∙◌, fits_everywhere, bits_of}
use Rattle.vdb_tree.proofs.StateRuns.{by_mine, by_others}
use Rattle.vdb_tree.proofs.tree.TreeOf.next_below_node.Goals as goal

pub returns-then-made_state : goal.returns-then-made_state
returns-then-made_state g c =
    by_others (bits_of g.row.U g.row.L g.row.F) c.args.rule c.args.other.now c.args.self.now c.args.p c.self.invariant.0.bits (fits_everywhere c.args.p (search rules) (search rules) (search rules))
    (sym c.made_state.ensures ∙ c.if-made_state.true) c.args.from c.next_active_leaf.result c.next_active_leaf.ensures

pub returns-else-made_state : goal.returns-else-made_state
returns-else-made_state g c =
    by_mine (bits_of g.row.U g.row.L g.row.F) c.args.rule c.args.other.now c.args.self.now c.args.p c.self.invariant.0.bits (fits_everywhere c.args.p (search rules) (search rules) (search rules))
    (sym c.made_state.ensures ∙ c.if-made_state.false) c.args.from c.next_active_leaf-else-made_state.result c.next_active_leaf-else-made_state.ensures
