use Rattle.vdb_tree.proofs.Common.{◌∙◌, Upper, bits_of}
use Rattle.vdb_tree.proofs.MadeNodes.{but_after}
use Rattle.vdb_tree.proofs.Splits.{adds_twice}
use Rattle.vdb_tree.proofs.tree.TreeOf.upper_around.Goals as goal

pub returns-in_ok-enter_root_block-in-Tile-clause-adds : goal.returns-in_ok-enter_root_block-in-Tile-clause-adds
returns-in_ok-enter_root_block-in-Tile-clause-adds g c = adds_twice (bits_of g.row.U g.row.L g.row.F) c.args.self.now c.enter_root_block.new.self c.split_root.new.self c.in_ok-enter_root_block-in-Tile.ensures.adds c.split_root.ensures.adds

pub returns-in_ok-enter_root_block-in-Tile-clause-table : goal.returns-in_ok-enter_root_block-in-Tile-clause-table
returns-in_ok-enter_root_block-in-Tile-clause-table g c = λ k d. c.split_root.ensures.table k d ∙ c.in_ok-enter_root_block-in-Tile.ensures.table k d

pub returns-in_ok-enter_root_block-in-Tile-clause-but : goal.returns-in_ok-enter_root_block-in-Tile-clause-but
returns-in_ok-enter_root_block-in-Tile-clause-but g c = but_after (bits_of g.row.U g.row.L g.row.F) Upper c.args.self.now c.enter_root_block.new.self c.split_root.new.self c.args.p c.in_ok-enter_root_block-in-Tile.ensures.same c.split_root.ensures.but
