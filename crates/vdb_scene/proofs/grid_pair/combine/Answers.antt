use Rattle.vdb_scene.proofs.Common.{err_from_is_err_and, vdb, as_field_of, field_of, grid_field, ruled}
use Rattle.vdb_scene.proofs.TwoGrids.{states_refused}
use Rattle.vdb_scene.proofs.grid_pair.combine.Goals as goal

pub returns-in_err-combine_states-in-States-clause-outcome : goal.returns-in_err-combine_states-in-States-clause-outcome
returns-in_err-combine_states-in-States-clause-outcome g c =
    let make = g.V.GridValue.as_scalar in
    let f = as_field_of make (field_of vdb c.args.grid.now.tree) in
    let exit = err_from_is_err_and c.from_residual.result c.from_residual.ensures.1 in
    rw (c.in-States.is, exit.1, exit.2) (states_refused c.args.grid.now.tree.limit f (grid_field c.args.other.now) (ruled c.in-States.rule f (grid_field c.args.other.now)) (as_field_of make (field_of vdb c.combine_states.new.grid.tree))
    c.in_err-combine_states-in-States.field-0.0 c.in_err-combine_states-in-States.ensures.outcome)

pub returns-in-Some-clause-outcome : goal.returns-in-Some-clause-outcome
returns-in-Some-clause-outcome g c = rw (c.in-Values.is, c.in-Some.ensures.some) c.combine_values.ensures.outcome
