use Rattle.vdb_c.proofs.Common.{◌≡◌, false, subst, sym, vdb, Coord, Option}
use Rattle.vdb_coord.proofs.BlockOrder.{never_back}
use Rattle.vdb_coord.specs.Blocks.{is_past}
use Rattle.vdb_c.proofs.parts.begun.Goals as goal

pub returns-in-Some-clause-earlier : goal.returns-in-Some-clause-earlier
returns-in-Some-clause-earlier g c = λ q i gone.
    subst (λ (o : Option Coord). is_past vdb o q ≡ false) (sym c.in-Some.is) (never_back vdb q c.in-Some.p (c.parts_from.ensures.earlier q (rw c.all.ensures i) gone))
