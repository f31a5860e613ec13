use Rattle.vdb_tree.proofs.Common.{◌∙◌, rules, fits_everywhere}
use Rattle.vdb_tree.proofs.LeafBlocks.{tile_around}
use Rattle.vdb_tree.proofs.tree.TreeOf.leaf.Goals as goal

pub returns-in-Tile-clause-tile : goal.returns-in-Tile-clause-tile
returns-in-Tile-clause-tile g c none =
    tile_around _ c.args.self.now c.args.p _ (c.leaf_entry.ensures.value ∙ c.in-Tile.is) (fits_everywhere c.args.p (search rules) (search rules) (search rules))
