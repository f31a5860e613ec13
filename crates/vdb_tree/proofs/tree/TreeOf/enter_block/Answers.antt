use Rattle.vdb_tree.specs.Layout.{bits_of}
use Rattle.vdb_tree.proofs.MadeNodes.{keys_in_but}
use Rattle.vdb_tree.proofs.Capacities.{capacity_stays}
use Rattle.vdb_tree.proofs.tree.TreeOf.enter_block.Goals as goal

pub returns-clause-capacity : goal.returns-clause-capacity
returns-clause-capacity g c =
    let call = c.enter_root_block.ensures in
    capacity_stays (bits_of g.row.U g.row.L g.row.F) c.args.self.now c.args.bounds c.requires.capacity c.args.p c.requires.inside c.enter_root_block.new.self call.keeps.head.limit call.table

pub returns-clause-keys : goal.returns-clause-keys
returns-clause-keys g c =
    keys_in_but (bits_of g.row.U g.row.L g.row.F) c.args.bounds c.args.self.now c.enter_root_block.new.self c.args.p c.requires.inside c.enter_root_block.ensures.table
