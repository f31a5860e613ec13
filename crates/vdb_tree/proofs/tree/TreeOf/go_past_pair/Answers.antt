use Rattle.vdb_tree.specs.Layout.{bits_of}
use Rattle.vdb_tree.proofs.PairWalks.{around_walk, goes_nearer, step_yields, walk_past}
use Rattle.vdb_tree.proofs.tree.TreeOf.go_past_pair.Goals as goal

pub returns-clause-walk : goal.returns-clause-walk
returns-clause-walk g c =
    let bits = bits_of g.row.U g.row.L g.row.F in
    let around = around_walk bits c.args.self.now c.args.other.now c.args.walk.now c.args.p c.requires.at c.requires.walk c.self.invariant.0.bits c.args.level c.requires.level c.args.bounds c.requires.block in
    walk_past bits c.args.self.now c.args.other.now c.args.walk.now c.go_to.new.self c.args.p c.start_past_block-next.result c.requires.at c.requires.walk c.go_to.ensures c.args.level c.args.bounds around c.start_past_block-next.ensures.next

pub returns-clause-yields : goal.returns-clause-yields
returns-clause-yields g c =
    let bits = bits_of g.row.U g.row.L g.row.F in
    let around = around_walk bits c.args.self.now c.args.other.now c.args.walk.now c.args.p c.requires.at c.requires.walk c.self.invariant.0.bits c.args.level c.requires.level c.args.bounds c.requires.block in
    step_yields bits c.args.self.now c.args.other.now c.args.walk.now c.go_to.new.self c.args.p c.start_past_block-next.result c.requires.at c.requires.walk c.go_to.ensures c.args.level c.args.bounds around c.start_past_block-next.ensures.next

pub returns-clause-nearer : goal.returns-clause-nearer
returns-clause-nearer g c =
    let bits = bits_of g.row.U g.row.L g.row.F in
    goes_nearer bits c.args.self.now c.args.other.now c.args.walk.now c.go_to.new.self c.args.p c.start_past_block-next.result c.requires.at c.requires.walk c.go_to.ensures c.start_past_block-next.ensures.nearer
