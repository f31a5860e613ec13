use Rattle.vdb_grid.proofs.grid.Grid.touch_leaf.Goals as goal

pub returns-clause-table : goal.returns-clause-table
returns-clause-table g c = rw (← c.self.view_is) c.touch_leaf-outcome.ensures.table

pub returns-clause-full : goal.returns-clause-full
returns-clause-full g c = rw (← c.self.view_is) c.touch_leaf-outcome.ensures.full
