use Rattle.vdb_tree.proofs.Common.{rules, fits_everywhere}
use Rattle.vdb_tree.proofs.Rooted.{altered_within, roots_limit}
use Rattle.vdb_tree.proofs.Uniform.{exact_by}
use Rattle.vdb_tree.proofs.Writes.{exceeds}
use Rattle.vdb_tree.proofs.tree.TreeOf.keeps_to_limit.Goals as goal

pub returns-clause-kept : goal.returns-clause-kept
returns-clause-kept g c =
    let exact = exact_by g.V.PartialEq.eq g.V.Ord.cmp g.met.V.Ord.matches_eq g.met.V.Voxel.exact in
    rw (← c.self.view_is) (roots_limit g.V.PartialEq.eq exact g.met.V.Eq.laws.refl _ c.self.invariant.0.bits _ c.self.invariant.1)

pub returns-clause-within : goal.returns-clause-within
returns-clause-within g c =
    let exact = exact_by g.V.PartialEq.eq g.V.Ord.cmp g.met.V.Ord.matches_eq g.met.V.Voxel.exact in
    rw (← c.self.view_is) (λ capacity changed altered. altered_within g.V.PartialEq.eq exact g.met.V.Eq.laws.refl _ c.self.invariant.0.bits _ c.args.p changed altered c.self.invariant.1 capacity)

pub returns-clause-full : goal.returns-clause-full
returns-clause-full g c =
    let exact = exact_by g.V.PartialEq.eq g.V.Ord.cmp g.met.V.Ord.matches_eq g.met.V.Voxel.exact in
    let inside = fits_everywhere c.args.p (search rules) (search rules) (search rules) in
    rw (← c.self.view_is) (λ no_capacity swept changed altered differs. exceeds g.V.PartialEq.eq exact g.met.V.Eq.laws.refl _ c.self.invariant.0.bits _ c.args.p inside c.self.invariant.1 no_capacity swept changed altered differs)
