use Rattle.vdb_tree.proofs.Common.{◌∙◌, bits_of}
use Rattle.vdb_tree.proofs.PartWalks.{none_passes, some_yields, step_is}
use Rattle.vdb_tree.proofs.tree.TreeOf.step.Goals as goal

pub returns-clause-part : goal.returns-clause-part
returns-clause-part g c =
    let bits = bits_of g.row.U g.row.L g.row.F in
    let t = c.args.self.now in
    let old = c.args.walk.now in
    let step = step_is bits t old c.end_at-end.new.walk c.go_to.new.self c.args.p c.start_after-next.result c.bounds-bounds.result c.skip-skip.result c.requires.at
    c.end_at-end.ensures.bounds c.end_at-end.ensures.skip c.go_to.ensures c.bounds-bounds.ensures c.skip-skip.ensures c.requires.walk.start c.start_after-next.ensures.next in
    some_yields bits t (λ part. part.bounds) old c.go_to.new.self c.args.p step c.bounds-bounds.result (c.bounds-bounds.ensures ∙ c.end_at-end.ensures.bounds) c.part_around-part.result c.part_around-part.ensures.bounds

pub returns-clause-passed : goal.returns-clause-passed
returns-clause-passed g c =
    let bits = bits_of g.row.U g.row.L g.row.F in
    let t = c.args.self.now in
    let old = c.args.walk.now in
    let step = step_is bits t old c.end_at-end.new.walk c.go_to.new.self c.args.p c.start_after-next.result c.bounds-bounds.result c.skip-skip.result c.requires.at
    c.end_at-end.ensures.bounds c.end_at-end.ensures.skip c.go_to.ensures c.bounds-bounds.ensures c.skip-skip.ensures c.requires.walk.start c.start_after-next.ensures.next in
    none_passes bits t old c.go_to.new.self c.args.p step c.bounds-bounds.result (c.bounds-bounds.ensures ∙ c.end_at-end.ensures.bounds)
    c.skip-skip.result (c.skip-skip.ensures ∙ c.end_at-end.ensures.skip) c.part_around-part.result c.part_around-part.ensures.passed
