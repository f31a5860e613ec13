use Rattle.vdb_grid.proofs.grid.Grid.write.Goals as goal

pub returns-clause-outcome : goal.returns-clause-outcome
returns-clause-outcome g c = rw (← c.self.view_is) c.write-outcome.ensures.outcome

pub returns-clause-non_constant : goal.returns-clause-non_constant
returns-clause-non_constant g c = rw (← c.self.view_is) c.write-outcome.ensures.non_constant
