use Rattle.vdb_walk.proofs.Common.{None, Some, IsPastLast}
use Rattle.vdb_walk.proofs.Firsts.{first_same}
use Rattle.vdb_walk.proofs.PartSeeks.{IsTilePast}
use Rattle.vdb_walk.proofs.first_active.first_in_tile.Goals as goal

pub returns-in-Some-clause-first : goal.returns-in-Some-clause-first
returns-in-Some-clause-first g c =
    first_same c.args.bits (IsPastLast c.args.bits c.args.after) (IsTilePast c.args.bits c.args.after c.args.cell) c.args.part (λ q i k. (k, c.if-not-cell.false)) (λ q i k. k.0) (Some c.in-Some.p) c.in-Some.ensures

pub returns-in-None-clause-first : goal.returns-in-None-clause-first
returns-in-None-clause-first g c =
    first_same c.args.bits (IsPastLast c.args.bits c.args.after) (IsTilePast c.args.bits c.args.after c.args.cell) c.args.part (λ q i k. (k, c.if-not-cell.false)) (λ q i k. k.0) None c.in-None.ensures
