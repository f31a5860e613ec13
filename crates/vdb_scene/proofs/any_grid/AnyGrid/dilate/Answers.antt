use Rattle.vdb_scene.proofs.any_grid.AnyGrid.dilate.Goals as goal

pub returns-in-Bool-clause-outcome : goal.returns-in-Bool-clause-outcome
returns-in-Bool-clause-outcome c = rw c.in-Bool.is c.dilate.ensures.outcome

pub returns-in-I32-clause-outcome : goal.returns-in-I32-clause-outcome
returns-in-I32-clause-outcome c = rw c.in-I32.is c.dilate-in-I32.ensures.outcome

pub returns-in-I64-clause-outcome : goal.returns-in-I64-clause-outcome
returns-in-I64-clause-outcome c = rw c.in-I64.is c.dilate-in-I64.ensures.outcome
