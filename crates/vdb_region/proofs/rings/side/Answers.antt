use Rattle.std.proofs.Common.{◌∙◌, sym}
use Rattle.vdb_region.proofs.Sides.{half_none, side_none, side_some}
use Rattle.vdb_region.proofs.rings.side.Goals as goal

pub returns-in-Some-clause-some : goal.returns-in-Some-clause-some
returns-in-Some-clause-some c =
    rw (← c.outer-around.ensures, ← c.inner.ensures)
    (side_some c.outer-around.result c.inner.result c.args.face c.min.ensures.bounds c.half.ensures.bounds c.in-Some.half c.intersect.result (sym c.in-Some.is ∙ c.half.ensures.value) c.intersect.ensures.both)

pub returns-in-Some-clause-none : goal.returns-in-Some-clause-none
returns-in-Some-clause-none c =
    rw (← c.outer-around.ensures, ← c.inner.ensures)
    (side_none c.outer-around.result c.inner.result c.args.face c.min.ensures.bounds c.half.ensures.bounds c.in-Some.half c.intersect.result (sym c.in-Some.is ∙ c.half.ensures.value) c.intersect.ensures.none)

pub returns-in-None-clause-none : goal.returns-in-None-clause-none
returns-in-None-clause-none c =
    rw (← c.outer-around.ensures, ← c.inner.ensures)
    (half_none c.outer-around.result c.inner.result c.args.face c.min.ensures.bounds c.half.ensures.bounds (sym c.in-None.is ∙ c.half.ensures.value))
