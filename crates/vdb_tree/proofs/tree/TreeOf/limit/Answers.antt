use Rattle.vdb_tree.proofs.Rooted.{roots_limit}
use Rattle.vdb_tree.proofs.Uniform.{exact_by}
use Rattle.vdb_tree.proofs.tree.TreeOf.limit.Goals as goal

pub returns-clause-kept : goal.returns-clause-kept
returns-clause-kept g c =
    let exact = exact_by g.V.PartialEq.eq g.V.Ord.cmp g.met.V.Ord.matches_eq g.met.V.Voxel.exact in
    rw (← c.self.view_is) (roots_limit g.V.PartialEq.eq exact g.met.V.Eq.laws.refl _ c.self.invariant.0.bits _ c.self.invariant.1)
