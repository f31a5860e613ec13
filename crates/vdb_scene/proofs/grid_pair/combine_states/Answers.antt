use Rattle.vdb_scene.proofs.grid_pair.combine_states.Goals as goal

pub returns-in-Bool-clause-outcome : goal.returns-in-Bool-clause-outcome
returns-in-Bool-clause-outcome g c = rw (c.in-Bool.is, ← c.tree.ensures) c.set_states.ensures.outcome

pub returns-in-I32-clause-outcome : goal.returns-in-I32-clause-outcome
returns-in-I32-clause-outcome g c = rw (c.in-I32.is, ← c.tree-in-I32.ensures) c.set_states-in-I32.ensures.outcome

pub returns-in-I64-clause-outcome : goal.returns-in-I64-clause-outcome
returns-in-I64-clause-outcome g c = rw (c.in-I64.is, ← c.tree-in-I64.ensures) c.set_states-in-I64.ensures.outcome
