use Rattle.vdb_grid.proofs.grid.Grid.fill.Goals as goal

pub invariant_of-self : goal.invariant_of-self
invariant_of-self g c = (c.retrace.ensures.whole, c.retrace.ensures.unused, c.nowhere-self-inside.ensures _)

pub returns-clause-outcome : goal.returns-clause-outcome
returns-clause-outcome g c = rw (← c.self.view_is) c.fill-outcome.ensures.outcome
