use Rattle.vdb_c.proofs.Common.{inl, refl, subst, sym, Some, Box, grid_field}
use Rattle.vdb_walk.specs.Reports.{IsActiveBounds}
use Rattle.vdb_c.specs.Reports.{IsBounds}
use Rattle.vdb_c.proofs.grids.reports.look_around.Goals as goal

pub returns-in-Some : goal.returns-in-Some
unfolding IsBounds
returns-in-Some c = inl (refl, subst (λ (box : Box). IsActiveBounds (grid_field c.args.grid.now) (Some box)) (sym c.corners_of.ensures) c.in-Some.ensures)
