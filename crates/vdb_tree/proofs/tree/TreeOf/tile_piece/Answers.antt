use Rattle.vdb_tree.proofs.Common.{rules, fits_everywhere, inside_around, bits_of}
use Rattle.vdb_tree.proofs.PieceCells.{tile_field}
use Rattle.vdb_tree.proofs.tree.TreeOf.tile_piece.Goals as goal

pub returns-clause-holds : goal.returns-clause-holds
returns-clause-holds g c = rw c.block_in-bounds.ensures (inside_around c.bits.result c.args.level c.args.p)

pub returns-clause-cells : goal.returns-clause-cells
returns-clause-cells g c q inside =
    let here = fits_everywhere c.args.p (search rules) (search rules) (search rules) in
    tile_field (bits_of g.row.U g.row.L g.row.F) c.args.self.now c.args.level c.args.p c.args.cell c.self.invariant.0.bits here c.requires
    c.bits.result c.bits.ensures.value c.block_in-bounds.result c.block_in-bounds.ensures q inside
