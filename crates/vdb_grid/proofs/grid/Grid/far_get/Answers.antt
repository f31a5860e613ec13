use Rattle.vdb_grid.proofs.EachAccessor.{near_whole}
use Rattle.vdb_grid.proofs.grid.Grid.far_get.Goals as goal

pub invariant_of-self : goal.invariant_of-self
invariant_of-self g c = (c.self.invariant.0, c.self.invariant.1, near_whole _ _ _ c.descend-cell.ensures.whole)
