use Rattle.vdb_tree.proofs.Common.{both, refl}
use Rattle.vdb_tree.proofs.Capacities.{fill_exceeds, fill_background, fill_too_wide, fill_within}
use Rattle.vdb_tree.proofs.Uniform.{exact_by}
use Rattle.vdb_tree.proofs.tree.TreeOf.keeps_fills_to_limit.Goals as goal

pub returns-clause-background_cell : goal.returns-clause-background_cell
returns-clause-background_cell g c =
    let exact = exact_by g.V.PartialEq.eq g.V.Ord.cmp g.met.V.Ord.matches_eq g.met.V.Voxel.exact in
    rw (← c.self.view_is) (fill_background g.V.PartialEq.eq exact g.met.V.Eq.laws.refl _ c.self.invariant.0.bits _ c.args.bounds _ c.self.invariant.1 refl)

pub returns-clause-within : goal.returns-clause-within
returns-clause-within g c =
    let exact = exact_by g.V.PartialEq.eq g.V.Ord.cmp g.met.V.Ord.matches_eq g.met.V.Voxel.exact in
    rw (← c.self.view_is) (λ capacity cell. fill_within g.V.PartialEq.eq exact g.met.V.Eq.laws.refl _ c.self.invariant.0.bits _ c.args.bounds cell capacity)

pub returns-clause-full : goal.returns-clause-full
returns-clause-full g c =
    let exact = exact_by g.V.PartialEq.eq g.V.Ord.cmp g.met.V.Ord.matches_eq g.met.V.Voxel.exact in
    let range = (both _ _ c.min.ensures.bounds).1 in
    rw (← c.self.view_is)
    (λ lacks swept cell other. fill_exceeds g.V.PartialEq.eq exact g.met.V.Eq.laws.refl _ c.self.invariant.0.bits _ c.args.bounds cell range other c.self.invariant.1 swept lacks)

pub returns-clause-wide : goal.returns-clause-wide
returns-clause-wide g c =
    let exact = exact_by g.V.PartialEq.eq g.V.Ord.cmp g.met.V.Ord.matches_eq g.met.V.Voxel.exact in
    let ends = both _ _ c.min.ensures.bounds in
    rw (← c.self.view_is)
    (λ wide cell other. fill_too_wide g.V.PartialEq.eq exact g.met.V.Eq.laws.refl _ c.self.invariant.0.bits _ c.args.bounds cell ends.1 other ends.0 wide)
