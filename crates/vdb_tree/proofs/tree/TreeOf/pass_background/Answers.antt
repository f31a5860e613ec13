use Rattle.vdb_tree.specs.Layout.{bits_of}
use Rattle.vdb_tree.proofs.PairWalks.{step_passes, walk_on}
use Rattle.vdb_tree.proofs.tree.TreeOf.pass_background.Goals as goal

pub returns-clause-walk : goal.returns-clause-walk
returns-clause-walk g c =
    walk_on (bits_of g.row.U g.row.L g.row.F) c.args.self.now c.args.other.now c.args.walk.now c.go_to.new.self c.args.p c.lesser_start-next.result c.requires.at c.requires.walk c.go_to.ensures
    c.start_past_background-after_first.result c.start_past_background-after_second.result c.start_past_background-after_first.ensures.next c.start_past_background-after_second.ensures.next
    c.lesser_start-next.ensures.one

pub returns-clause-passed : goal.returns-clause-passed
returns-clause-passed g c =
    step_passes (bits_of g.row.U g.row.L g.row.F) c.args.self.now c.args.other.now c.args.walk.now c.go_to.new.self c.args.p c.lesser_start-next.result c.requires.at c.requires.walk c.go_to.ensures
    c.start_past_background-after_first.result c.start_past_background-after_second.result c.start_past_background-after_first.ensures.next c.start_past_background-after_second.ensures.next
    c.lesser_start-next.ensures.one c.requires.first_background c.requires.second_background c.lesser_start-next.ensures.least
