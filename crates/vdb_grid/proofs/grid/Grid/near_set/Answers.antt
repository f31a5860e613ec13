use Rattle.vdb_grid.proofs.EachAccessor.{near_kept}
use Rattle.vdb_grid.proofs.grid.Grid.near_set.Goals as goal

pub invariant_of-self : goal.invariant_of-self
invariant_of-self g c =
    (λ k p e. c.write_near-written.ensures.paths _ _ (c.self.invariant.0 k p e), c.self.invariant.1, near_kept _ _ _ _ c.write_near-written.ensures.paths c.self.invariant.2)

pub returns-clause-alone : goal.returns-clause-alone
returns-clause-alone g c = λ t. rw (← c.self.view_is) (c.write_near-written.ensures.alone t)

pub returns-clause-elsewhere : goal.returns-clause-elsewhere
returns-clause-elsewhere g c = rw (← c.self.view_is) c.write_near-written.ensures.elsewhere
