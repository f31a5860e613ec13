use Rattle.vdb_tree.specs.Layout.{bits_of}
use Rattle.vdb_tree.proofs.Equations.{keeps_field}
use Rattle.vdb_tree.proofs.Needed.{least_from}
use Rattle.vdb_tree.proofs.Uniform.{exact_by}
use Rattle.vdb_tree.proofs.tree.TreeOf.prune.Goals as goal

pub returns-clause-field : goal.returns-clause-field
returns-clause-field g c = keeps_field (bits_of g.row.U g.row.L g.row.F) c.args.self.now c.sweep.new.self c.sweep.ensures.keeps

pub returns-clause-least : goal.returns-clause-least
returns-clause-least g c =
    let exact = exact_by g.V.PartialEq.eq g.V.Ord.cmp g.met.V.Ord.matches_eq g.met.V.Voxel.exact in
    least_from g.V.PartialEq.eq exact g.met.V.Eq.laws.refl (bits_of g.row.U g.row.L g.row.F) c.self.invariant.0.bits c.sweep.new.self c.sweep.ensures.swept
    (λ p. (c.sweep.ensures.needed p).2) (λ p. (c.sweep.ensures.needed p).1) (λ p. (c.sweep.ensures.needed p).0)
