use Rattle.vdb_grid.proofs.grid.Grid.voxelise.Goals as goal

pub returns-clause-made : goal.returns-clause-made
returns-clause-made g c = rw (← c.self.view_is) c.voxelise-outcome.ensures.made
