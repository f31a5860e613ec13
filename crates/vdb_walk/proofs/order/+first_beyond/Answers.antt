use Rattle.vdb_walk.proofs.Common.{◌∙◌, sym, both, IsPastLast}
use Rattle.vdb_walk.proofs.Firsts.{first_at_min, none_past, of_first, of_second}
use Rattle.vdb_walk.proofs.order.+first_beyond.Goals as goal

pub returns-then-is_past : goal.returns-then-is_past
returns-then-is_past t c =
    rw c.min-then-is_past.ensures.corner
    (first_at_min c.args.bits (IsPastLast c.args.bits c.args.last) c.args.part (both _ _ c.min.ensures.bounds).0
    (rw c.min.ensures.corner at (sym c.is_past.ensures ∙ c.if-is_past.true)))

pub returns-then-not-is_past : goal.returns-then-not-is_past
returns-then-not-is_past t c = λ q inside past.
    none_past c.args.bits c.args.last c.args.part q (rw c.max.ensures.corner at (sym c.is_past-2.ensures ∙ c.if-not-is_past.true)) inside past

pub returns-in-Some-first_beyond : goal.returns-in-Some-first_beyond
returns-in-Some-first_beyond t c =
    of_first c.args.bits (IsPastLast c.args.bits c.args.last) c.args.part _ _ c.in-Some.ensures.some c.in-Some-first_beyond.p c.in-Some.ensures.ordered c.in-Some-first_beyond.ensures

pub returns-in-None : goal.returns-in-None
returns-in-None t c =
    of_second c.args.bits (IsPastLast c.args.bits c.args.last) c.args.part _ _ c.in-Some.ensures.some c.first_beyond-in-None.result c.in-None.ensures c.first_beyond-in-None.ensures
