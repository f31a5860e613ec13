use Rattle.vdb_pool.proofs.Common.{subst, IsOrderly}
use Rattle.vdb_pool.proofs.Orderly.{orderly}
use Rattle.vdb_pool.proofs.pool.Pool.len.Goals as goal

pub returns-clause-orderly : goal.returns-clause-orderly
returns-clause-orderly g c =
    let p = c.self.inside in
    subst IsOrderly c.self.view_is (orderly p.chunks.items p.storage.places p.storage.items p.used p.total p.held p.top c.self.invariant)
