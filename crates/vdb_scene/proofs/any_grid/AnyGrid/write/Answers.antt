use Rattle.vdb_scene.proofs.any_grid.AnyGrid.write.Goals as goal

pub returns-in-Bool-clause-outcome : goal.returns-in-Bool-clause-outcome
returns-in-Bool-clause-outcome c = rw c.in-Bool.is c.write.ensures.outcome

pub returns-in-Bool-clause-memory : goal.returns-in-Bool-clause-memory
returns-in-Bool-clause-memory c = rw c.in-Bool.is c.write.ensures.memory

pub returns-in-I32-clause-outcome : goal.returns-in-I32-clause-outcome
returns-in-I32-clause-outcome c = rw c.in-I32.is c.write-in-I32.ensures.outcome

pub returns-in-I32-clause-memory : goal.returns-in-I32-clause-memory
returns-in-I32-clause-memory c = rw c.in-I32.is c.write-in-I32.ensures.memory

pub returns-in-I64-clause-outcome : goal.returns-in-I64-clause-outcome
returns-in-I64-clause-outcome c = rw c.in-I64.is c.write-in-I64.ensures.outcome

pub returns-in-I64-clause-memory : goal.returns-in-I64-clause-memory
returns-in-I64-clause-memory c = rw c.in-I64.is c.write-in-I64.ensures.memory

pub returns-in-Bool-clause-last : goal.returns-in-Bool-clause-last
returns-in-Bool-clause-last c = rw c.in-Bool.is c.write.ensures.last

pub returns-in-I32-clause-last : goal.returns-in-I32-clause-last
returns-in-I32-clause-last c = rw c.in-I32.is c.write-in-I32.ensures.last

pub returns-in-I64-clause-last : goal.returns-in-I64-clause-last
returns-in-I64-clause-last c = rw c.in-I64.is c.write-in-I64.ensures.last

pub returns-in-Bool-clause-steps : goal.returns-in-Bool-clause-steps
returns-in-Bool-clause-steps c = rw c.in-Bool.is c.write.ensures.steps

pub returns-in-I32-clause-steps : goal.returns-in-I32-clause-steps
returns-in-I32-clause-steps c = rw c.in-I32.is c.write-in-I32.ensures.steps

pub returns-in-I64-clause-steps : goal.returns-in-I64-clause-steps
returns-in-I64-clause-steps c = rw c.in-I64.is c.write-in-I64.ensures.steps

pub returns-in-Bool-clause-elsewhere : goal.returns-in-Bool-clause-elsewhere
returns-in-Bool-clause-elsewhere c = rw c.in-Bool.is c.write.ensures.elsewhere

pub returns-in-Bool-clause-near : goal.returns-in-Bool-clause-near
returns-in-Bool-clause-near c = rw c.in-Bool.is c.write.ensures.near

pub returns-in-I32-clause-elsewhere : goal.returns-in-I32-clause-elsewhere
returns-in-I32-clause-elsewhere c = rw c.in-I32.is c.write-in-I32.ensures.elsewhere

pub returns-in-I32-clause-near : goal.returns-in-I32-clause-near
returns-in-I32-clause-near c = rw c.in-I32.is c.write-in-I32.ensures.near

pub returns-in-I64-clause-elsewhere : goal.returns-in-I64-clause-elsewhere
returns-in-I64-clause-elsewhere c = rw c.in-I64.is c.write-in-I64.ensures.elsewhere

pub returns-in-I64-clause-near : goal.returns-in-I64-clause-near
returns-in-I64-clause-near c = rw c.in-I64.is c.write-in-I64.ensures.near
