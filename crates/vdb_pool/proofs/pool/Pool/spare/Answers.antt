use Rattle.vdb_pool.proofs.Common.{arith, ◌-◌, length-map, node_of}
use Rattle.vdb_pool.proofs.Links.{length-linked}
use Rattle.vdb_pool.proofs.pool.Pool.spare.Goals as goal

pub returns-clause-value : goal.returns-clause-value
returns-clause-value g c =
    let p = c.self.inside in let ok = c.self.invariant in
    rw (← c.self.view_is) (omega (arith, length-linked (p.used - p.held) p.top p.storage.items ok.stack, length-map p.storage.items node_of, ok.used_is, ok.total_is, ok.within, ok.held_within))

pub returns-clause-all : goal.returns-clause-all
returns-clause-all g c =
    let p = c.self.inside in let ok = c.self.invariant in
    rw (← c.self.view_is) (omega (arith, ok.held_is, ok.total_is, ok.within, ok.held_within))
