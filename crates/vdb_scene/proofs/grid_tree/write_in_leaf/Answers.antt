use Rattle.vdb_scene.proofs.Common.{subst, Ok, vdb, as_field_of, write, field_of, IsOutcome, as_outcome_of_write, scalar_eq}
use Rattle.vdb_scene.proofs.grid_tree.write_in_leaf.Goals as goal

pub returns-then-this-ne0-clause-outcome : goal.returns-then-this-ne0-clause-outcome
returns-then-this-ne0-clause-outcome g c = λ t.
    let make = g.V.GridValue.as_scalar in
    let old = field_of vdb c.args.grid.now.tree in
    let new = field_of vdb c.write_in_lower.new.self.tree in
    subst (λ w. IsOutcome scalar_eq vdb c.args.grid.now.tree.limit (as_field_of make old) (write c.args.at w (as_field_of make old)) (as_field_of make new) (Ok tt)) c.of_kind-change.ensures
    (as_outcome_of_write make g.V.PartialEq.eq scalar_eq g.met.V.GridValue.same_eq vdb c.args.grid.now.tree.limit c.args.at c.of_kind-change.result old new (Ok tt) (c.write_in_lower.ensures.outcome t))

pub returns-else-this-ne0-clause-outcome : goal.returns-else-this-ne0-clause-outcome
returns-else-this-ne0-clause-outcome g c = λ t.
    let make = g.V.GridValue.as_scalar in
    let old = field_of vdb c.args.grid.now.tree in
    let new = field_of vdb c.write_in_leaf.new.self.tree in
    subst (λ w. IsOutcome scalar_eq vdb c.args.grid.now.tree.limit (as_field_of make old) (write c.args.at w (as_field_of make old)) (as_field_of make new) (Ok tt)) c.of_kind-change.ensures
    (as_outcome_of_write make g.V.PartialEq.eq scalar_eq g.met.V.GridValue.same_eq vdb c.args.grid.now.tree.limit c.args.at c.of_kind-change.result old new (Ok tt) (c.write_in_leaf.ensures.outcome t))

pub returns-then-this-ne0-clause-alone : goal.returns-then-this-ne0-clause-alone
returns-then-this-ne0-clause-alone g c = λ t. (c.of_kind-change.result, c.of_kind-change.ensures, c.write_in_lower.ensures.alone t)

pub returns-else-this-ne0-clause-alone : goal.returns-else-this-ne0-clause-alone
returns-else-this-ne0-clause-alone g c = λ t. (c.of_kind-change.result, c.of_kind-change.ensures, c.write_in_leaf.ensures.alone t)
