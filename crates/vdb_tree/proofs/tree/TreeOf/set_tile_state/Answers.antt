use Rattle.vdb_tree.proofs.Common.{ap, sym, ◌∙◌, Bool, bits_of}
use Rattle.vdb_tree.proofs.StateRuns.{acting_at, idle_at, idle_settled, refined_settled, tile_set}
use Rattle.vdb_tree.proofs.tree.TreeOf.set_tile_state.Goals as goal

pub returns-then-is_acting-clause-sets : goal.returns-then-is_acting-clause-sets
returns-then-is_acting-clause-sets g c =
    tile_set (bits_of g.row.U g.row.L g.row.F) c.args.rule c.args.other.now c.args.self.now c.put_tile_state.new.self c.args.p c.put_tile_state.ensures.above c.args.cell c.in-Tile.tile c.requires.tile
    (c.requires.over ∙ c.in-Tile.is) (acting_at c.args.rule c.in-Tile.tile.on (sym c.is_acting.ensures ∙ c.if-is_acting.true)) _
    (ap (λ (s : Bool). record { value = c.args.cell.value; on = s }) c.made_state-on.ensures) c.put_tile_state.ensures.fills c.put_tile_state.ensures.entries

pub returns-else-is_acting-clause-sets : goal.returns-else-is_acting-clause-sets
returns-else-is_acting-clause-sets g c =
    idle_settled (bits_of g.row.U g.row.L g.row.F) c.args.rule c.args.other.now c.args.self.now c.args.p c.in-Tile.tile (c.requires.over ∙ c.in-Tile.is)
    (idle_at c.args.rule c.in-Tile.tile.on (sym c.is_acting.ensures ∙ c.if-is_acting.false))

pub returns-in-Child-clause-sets : goal.returns-in-Child-clause-sets
returns-in-Child-clause-sets g c =
    refined_settled (bits_of g.row.U g.row.L g.row.F) c.args.rule c.args.other.now c.args.self.now c.args.p c.args.cell c.in-Child.field-0 c.requires.refined c.requires.tile (c.requires.over ∙ c.in-Child.is)
