use Rattle.vdb_tree.proofs.Common.{rules, sym, ◌∙◌, fits_everywhere, bits_of}
use Rattle.vdb_tree.proofs.StateRuns.{by_mine, each_index, idle_at, tile_idle}
use Rattle.vdb_tree.proofs.tree.TreeOf.next_below_tile.Goals as goal

pub returns-then-made_state : goal.returns-then-made_state
returns-then-made_state g c =
    each_index (bits_of g.row.U g.row.L g.row.F) c.args.rule c.args.other.now c.args.self.now c.args.p c.args.from c.next_index.result c.next_index.ensures.some c.next_index.ensures.none

pub returns-else-made_state : goal.returns-else-made_state
returns-else-made_state g c =
    by_mine (bits_of g.row.U g.row.L g.row.F) c.args.rule c.args.other.now c.args.self.now c.args.p c.self.invariant.0.bits (fits_everywhere c.args.p (search rules) (search rules) (search rules))
    (sym c.made_state.ensures ∙ c.if-made_state.false) c.args.from c.next_active_leaf.result c.next_active_leaf.ensures

pub returns-else-is_acting : goal.returns-else-is_acting
returns-else-is_acting g c =
    tile_idle (bits_of g.row.U g.row.L g.row.F) c.args.rule c.args.other.now c.args.self.now c.args.p c.args.tile c.args.from c.requires.over
    (idle_at c.args.rule c.args.tile.on (sym c.is_acting.ensures ∙ c.if-is_acting.false))
