use Rattle.vdb_grid.proofs.NearLeaves.{whole_if_found}
use Rattle.vdb_grid.proofs.grid.Grid.near_cell.Goals as goal

pub returns-clause-whole : goal.returns-clause-whole
returns-clause-whole g c = rw (← c.self.view_is) (whole_if_found _ _ _ _ _ _ _ c.self.invariant.0 c.in_ok-q.was c.cell_near.ensures.answer)
