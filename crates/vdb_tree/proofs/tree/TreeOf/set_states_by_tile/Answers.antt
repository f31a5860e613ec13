use Rattle.vdb_tree.proofs.Common.{sym, ◌∙◌, bits_of}
use Rattle.vdb_tree.proofs.StateRuns.{acting_at, idle_at, idle_settled, leaf_filled}
use Rattle.vdb_tree.proofs.tree.TreeOf.set_states_by_tile.Goals as goal

pub returns-then-is_acting-clause-sets : goal.returns-then-is_acting-clause-sets
returns-then-is_acting-clause-sets g c =
    leaf_filled (bits_of g.row.U g.row.L g.row.F) c.args.rule c.args.other.now c.args.self.now c.fill_states.new.self c.args.p c.fill_states.ensures.above c.args.tile c.made_state-on.result c.fill_states.ensures.sets
    c.made_state-on.ensures c.requires.over (acting_at c.args.rule c.args.tile.on (sym c.is_acting.ensures ∙ c.if-is_acting.true))

pub returns-else-is_acting-clause-sets : goal.returns-else-is_acting-clause-sets
returns-else-is_acting-clause-sets g c =
    idle_settled (bits_of g.row.U g.row.L g.row.F) c.args.rule c.args.other.now c.args.self.now c.args.p c.args.tile c.requires.over
    (idle_at c.args.rule c.args.tile.on (sym c.is_acting.ensures ∙ c.if-is_acting.false))
