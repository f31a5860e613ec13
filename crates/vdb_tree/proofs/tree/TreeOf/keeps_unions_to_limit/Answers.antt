use Rattle.vdb_tree.proofs.Common.{subst, Layout, bits_of, IsSound}
use Rattle.vdb_tree.proofs.ActiveCapacities.{unite_exceeds, unite_within}
use Rattle.vdb_tree.proofs.Uniform.{exact_by}
use Rattle.vdb_tree.proofs.tree.TreeOf.keeps_unions_to_limit.Goals as goal

pub returns-clause-within : goal.returns-clause-within
returns-clause-within g c =
    let exact = exact_by g.V.PartialEq.eq g.V.Ord.cmp g.met.V.Ord.matches_eq g.met.V.Voxel.exact in
    unite_within g.V.PartialEq.eq exact g.met.V.Eq.laws.refl (bits_of g.row.U g.row.L g.row.F) c.self.invariant.0.bits c.args.self.now c.args.other.now

pub returns-clause-full : goal.returns-clause-full
returns-clause-full g c = λ lacks swept.
    let exact = exact_by g.V.PartialEq.eq g.V.Ord.cmp g.met.V.Ord.matches_eq g.met.V.Voxel.exact in
    let bits = bits_of g.row.U g.row.L g.row.F in
    unite_exceeds g.V.PartialEq.eq exact g.met.V.Eq.laws.refl bits c.self.invariant.0.bits c.args.self.now c.args.other.now
    (subst (λ (t : Layout g.row.V.Denot). IsSound bits t) c.self.view_is c.self.invariant.1) (subst (λ (t : Layout g.row.X.Denot). IsSound bits t) c.other.view_is c.other.invariant.1) swept lacks
