use Rattle.vdb_tree.specs.Layout.{bits_of}
use Rattle.vdb_tree.proofs.PairWalks.{leaf_cells, tile_cells}
use Rattle.vdb_tree.proofs.tree.TreeOf.content_of.Goals as goal

pub returns-in-Tile-clause-tile : goal.returns-in-Tile-clause-tile
returns-in-Tile-clause-tile g c = λ q i.
    let end = rw c.in-Tile.is at c.requires.ends in
    tile_cells (bits_of g.row.U g.row.L g.row.F) c.args.self.now c.args.p c.in-Tile.field-0 c.in-Tile.cell end q (c.requires.within q i)

pub returns-in-Leaf-clause-leaf : goal.returns-in-Leaf-clause-leaf
returns-in-Leaf-clause-leaf g c =
    let end = rw c.in-Leaf.is at c.requires.ends in (
      leaf_cells (bits_of g.row.U g.row.L g.row.F) c.args.self.now c.args.p end.0 c.args.bounds c.requires.within c.held_leaf.result.now c.held_leaf.ensures.leaf,
      c.requires.leaf_block end.0,
    )
