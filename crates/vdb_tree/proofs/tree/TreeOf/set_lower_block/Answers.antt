use Rattle.vdb_tree.proofs.Common.{◌∙◌, Lower, bits_of}
use Rattle.vdb_tree.proofs.Ruled.{idle_block, lower_tile_block, refined_block}
use Rattle.vdb_tree.proofs.tree.TreeOf.set_lower_block.Goals as goal

pub returns-then-is_idle_tile-clause-sets : goal.returns-then-is_idle_tile-clause-sets
returns-then-is_idle_tile-clause-sets g c =
    idle_block (bits_of g.row.U g.row.L g.row.F) c.args.rule c.args.other.now Lower c.args.self.now c.args.p c.args.over c.requires.over (c.is_idle_tile.ensures.idle c.if-is_idle_tile.true)

pub returns-in-Tile-over-clause-sets : goal.returns-in-Tile-over-clause-sets
returns-in-Tile-over-clause-sets g c =
    let made = c.exchange_upper_tile.ensures in
    let beside = c.in-Tile-over.field-0 in
    lower_tile_block (bits_of g.row.U g.row.L g.row.F) c.args.rule c.args.other.now c.args.self.now c.exchange_upper_tile.new.self c.args.p c.in-Tile.tile beside c.tile_made.result c.tile_made.ensures c.in-Tile.ensures.value
    (c.requires.over ∙ c.in-Tile-over.is) (c.is_idle_tile.ensures.acts c.if-is_idle_tile.false beside c.in-Tile-over.is) made.fills made.root made.uppers made.lowers

pub returns-in_default-clause-sets : goal.returns-in_default-clause-sets
returns-in_default-clause-sets g c =
    refined_block (bits_of g.row.U g.row.L g.row.F) c.args.rule c.args.other.now Lower c.args.self.now c.args.p c.in-Tile.tile c.in_default.field-0 c.requires.refined c.in-Tile.ensures.value (c.requires.over ∙ c.in_default.is)
