use Rattle.vdb_tree.proofs.Common.{◌∙◌, sym}
use Rattle.vdb_tree.proofs.tree.TreeOf.exchange_root_tile.Goals as goal

pub returns-clause-table : goal.returns-clause-table
returns-clause-table g c = c.paint_root_tile.ensures.table c.args.was (sym c.paint_root_tile.ensures.was ∙ c.requires.tiled)
