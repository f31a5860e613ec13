use Rattle.vdb_pool.proofs.Common.{◌≤◌, ◌-◌, arith, sym, subst, length-map, spare_of, node_of}
use Rattle.vdb_pool.proofs.Links.{length-linked}
use Rattle.vdb_pool.proofs.pool.Pool.reserve.Goals as goal

pub returns-then-n-self-clause-had_capacity : goal.returns-then-n-self-clause-had_capacity
returns-then-n-self-clause-had_capacity g c capacity =
    let p = c.self.inside in let ok = c.self.invariant in
    let capacity' = subst (λ v. c.args.n ≤ spare_of v) (sym c.self.view_is) capacity in
    absurd (omega (arith, c.if-n-self.true, length-linked (p.used - p.held) p.top p.storage.items ok.stack, length-map p.storage.items node_of, ok.used_is, ok.total_is, ok.total_fits, ok.within, ok.held_within))
