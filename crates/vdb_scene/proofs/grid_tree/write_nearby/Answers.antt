use Rattle.vdb_scene.proofs.Common.{subst, Ok, vdb, as_field_of, write, field_of, IsOutcome, as_outcome_of_write, scalar_eq}
use Rattle.vdb_scene.proofs.grid_tree.write_nearby.Goals as goal

pub returns-clause-outcome : goal.returns-clause-outcome
returns-clause-outcome g c = λ t.
    let make = g.V.GridValue.as_scalar in
    let old = field_of vdb c.args.grid.now.tree in
    let new = field_of vdb c.near_set.new.self.tree in
    subst (λ w. IsOutcome scalar_eq vdb c.args.grid.now.tree.limit (as_field_of make old) (write c.args.at w (as_field_of make old)) (as_field_of make new) (Ok tt)) c.of_kind.ensures
    (as_outcome_of_write make g.V.PartialEq.eq scalar_eq g.met.V.GridValue.same_eq vdb c.args.grid.now.tree.limit c.args.at c.of_kind.result old new (Ok tt) (c.near_set.ensures.outcome t))
