use Rattle.vdb_tree.proofs.Common.{◌∙◌, ap, Field, ruled, bits_of, field_of}
use Rattle.vdb_tree.proofs.Equations.{keeps_field}
use Rattle.vdb_tree.proofs.Splits.{keeps_twice}
use Rattle.vdb_tree.proofs.tree.TreeOf.combine_states.Goals as goal

pub returns-clause-outcome : goal.returns-clause-outcome
returns-clause-outcome g c =
    let bits = bits_of g.row.U g.row.L g.row.F in
    let kept = keeps_field bits c.args.self.now c.refine.new.self (keeps_twice bits c.args.self.now c.enter_for.new.self c.refine.new.self c.enter_for.ensures.keeps c.refine.ensures.keeps) in
    (c.set_refined_states.ensures.field ∙ ap (λ (f : Field g.row.V.Denot). ruled c.args.rule f (field_of bits c.args.other.now)) kept, c.in_ok-enter_for.ensures.limit)
