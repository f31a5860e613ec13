use Rattle.vdb_tree.proofs.Common.{◌∙◌, ap, bits_of, field_of, acts_at}
use Rattle.std.proofs.lemmas.Result.{on_ok_weaker}
use Rattle.vdb_tree.proofs.Levels.{some_held}
use Rattle.vdb_tree.proofs.RuledRoots.{no_unite_intersect, no_unite_subtract, ruled_keeps}
use Rattle.vdb_tree.proofs.Uniform.{exact_by}
use Rattle.vdb_tree.proofs.tree.TreeOf.enter_for.Goals as goal

pub returns-in-Unite-clause-entered : goal.returns-in-Unite-clause-entered
returns-in-Unite-clause-entered g c =
    on_ok_weaker c.enter_active.result (λ entered r q none on. some_held _ (entered q (on ∙ ap acts_at r)) none) c.enter_active.ensures.entered

pub returns-in-Unite-clause-limit : goal.returns-in-Unite-clause-limit
returns-in-Unite-clause-limit g c = rw c.in-Unite.is c.enter_active.ensures.limit

pub returns-in-Unite-clause-memory : goal.returns-in-Unite-clause-memory
returns-in-Unite-clause-memory g c = λ other. absurd (other c.in-Unite.is)

pub returns-in-Subtract-clause-limit : goal.returns-in-Subtract-clause-limit
returns-in-Subtract-clause-limit g c =
    let exact = exact_by g.V.PartialEq.eq g.V.Ord.cmp g.met.V.Ord.matches_eq g.met.V.Voxel.exact in
    let bits = bits_of g.row.U g.row.L g.row.F in
    ruled_keeps g.V.PartialEq.eq exact g.met.V.Eq.laws.refl bits c.args.rule (no_unite_subtract c.args.rule c.in-Subtract.is) (field_of bits c.args.self.now) (field_of bits c.args.other.now) c.limit.result c.args.self.now.limit
    c.limit.ensures.kept c.limit.ensures.value

pub returns-in-Intersect-clause-limit : goal.returns-in-Intersect-clause-limit
returns-in-Intersect-clause-limit g c =
    let exact = exact_by g.V.PartialEq.eq g.V.Ord.cmp g.met.V.Ord.matches_eq g.met.V.Voxel.exact in
    let bits = bits_of g.row.U g.row.L g.row.F in
    ruled_keeps g.V.PartialEq.eq exact g.met.V.Eq.laws.refl bits c.args.rule (no_unite_intersect c.args.rule c.in-Intersect.is) (field_of bits c.args.self.now) (field_of bits c.args.other.now) c.limit.result c.args.self.now.limit
    c.limit.ensures.kept c.limit.ensures.value
