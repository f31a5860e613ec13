use Rattle.vdb_tree.proofs.Common.{rules, fits_everywhere, Leaf}
use Rattle.vdb_tree.proofs.Needed.{has_needed}
use Rattle.vdb_tree.proofs.Uniform.{exact_by}
use Rattle.vdb_tree.proofs.tree.TreeOf.has_leaf_if_non_constant.Goals as goal

pub returns : goal.returns
returns g c = λ non_constant.
    let exact = exact_by g.V.PartialEq.eq g.V.Ord.cmp g.met.V.Ord.matches_eq g.met.V.Voxel.exact in
    let inside = fits_everywhere c.args.p (search rules) (search rules) (search rules) in
    (has_needed g.V.PartialEq.eq exact g.met.V.Eq.laws.refl _ c.self.invariant.0.bits c.args.self.now).nodes Leaf c.args.p inside non_constant
