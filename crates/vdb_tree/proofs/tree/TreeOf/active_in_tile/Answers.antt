use Rattle.vdb_tree.proofs.Common.{ap, rules, ◌∙◌, volume, fits_everywhere, bits_of}
use Rattle.vdb_tree.proofs.ActiveCounts.{tile_all, tile_none}
use Rattle.vdb_tree.proofs.Needed.{tile_block}
use Rattle.vdb_tree.proofs.tree.TreeOf.active_in_tile.Goals as goal

pub returns-then-cell-clause-value : goal.returns-then-cell-clause-value
returns-then-cell-clause-value g c =
    let bits = bits_of g.row.U g.row.L g.row.F in
    let t = c.args.self.now in
    c.volume.ensures.value ∙ ap volume (rw c.bits-bits.ensures.value at c.block_in.ensures)
    ∙ tile_all bits (rw c.bits-bits.ensures.value at c.bits-bits.ensures.configured) t c.args.level c.args.p (fits_everywhere c.args.p (search rules) (search rules) (search rules)) c.args.cell
    (tile_block bits t c.args.level c.args.p c.args.cell c.requires) c.if-cell.true

pub returns-else-cell-clause-value : goal.returns-else-cell-clause-value
returns-else-cell-clause-value g c =
    let bits = bits_of g.row.U g.row.L g.row.F in
    let t = c.args.self.now in
    tile_none bits (rw c.bits-bits.ensures.value at c.bits-bits.ensures.configured) t c.args.level c.args.p (fits_everywhere c.args.p (search rules) (search rules) (search rules)) c.args.cell
    (tile_block bits t c.args.level c.args.p c.args.cell c.requires) c.if-cell.false
