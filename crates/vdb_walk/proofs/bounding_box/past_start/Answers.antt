use Rattle.vdb_walk.proofs.Common.{sym, ◌∙◌, fewer_past}
use Rattle.vdb_walk.proofs.bounding_box.past_start.Goals as goal

pub returns-then-is_lt-clause-nearer : goal.returns-then-is_lt-clause-nearer
returns-then-is_lt-clause-nearer c =
    fewer_past c.args.bits c.args.start c.in-Some.next c.in-Some.ensures.inside (rw c.block_cmp_in.ensures at (sym c.is_lt.ensures ∙ c.if-is_lt.true))
