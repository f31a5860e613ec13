use Rattle.vdb_grid.proofs.grid.Grid.unite.Goals as goal

pub returns-clause-outcome : goal.returns-clause-outcome
returns-clause-outcome g c = rw (← c.self.view_is) c.unite-outcome.ensures.outcome
