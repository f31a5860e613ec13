use Rattle.vdb_tree.specs.Layout.{bits_of}
use Rattle.vdb_tree.proofs.PairWalks.{tile_background}
use Rattle.vdb_tree.proofs.tree.TreeOf.is_background_end.Goals as goal

pub returns-in-Tile : goal.returns-in-Tile
returns-in-Tile g c = λ h.
    let end = rw c.in-Tile.is at c.requires in
    tile_background (bits_of g.row.U g.row.L g.row.F) c.args.self.now c.args.p c.in-Tile.field-0 c.in-Tile.cell end (c.is_background.ensures.0 h)
