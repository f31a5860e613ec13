use Rattle.vdb_scene.proofs.any_grid.AnyGrid.probe.Goals as goal

pub returns-in-Bool-clause-cell : goal.returns-in-Bool-clause-cell
returns-in-Bool-clause-cell c = rw c.in-Bool.is c.probe.ensures.cell

pub returns-in-Bool-clause-tree : goal.returns-in-Bool-clause-tree
returns-in-Bool-clause-tree c = rw c.in-Bool.is c.probe.ensures.tree

pub returns-in-Bool-clause-last : goal.returns-in-Bool-clause-last
returns-in-Bool-clause-last c = rw c.in-Bool.is c.probe.ensures.last

pub returns-in-I32-clause-cell : goal.returns-in-I32-clause-cell
returns-in-I32-clause-cell c = rw c.in-I32.is c.probe-in-I32.ensures.cell

pub returns-in-I32-clause-tree : goal.returns-in-I32-clause-tree
returns-in-I32-clause-tree c = rw c.in-I32.is c.probe-in-I32.ensures.tree

pub returns-in-I32-clause-last : goal.returns-in-I32-clause-last
returns-in-I32-clause-last c = rw c.in-I32.is c.probe-in-I32.ensures.last

pub returns-in-I64-clause-cell : goal.returns-in-I64-clause-cell
returns-in-I64-clause-cell c = rw c.in-I64.is c.probe-in-I64.ensures.cell

pub returns-in-I64-clause-tree : goal.returns-in-I64-clause-tree
returns-in-I64-clause-tree c = rw c.in-I64.is c.probe-in-I64.ensures.tree

pub returns-in-I64-clause-last : goal.returns-in-I64-clause-last
returns-in-I64-clause-last c = rw c.in-I64.is c.probe-in-I64.ensures.last

pub returns-in-Bool-clause-near : goal.returns-in-Bool-clause-near
returns-in-Bool-clause-near c = rw c.in-Bool.is c.probe.ensures.near

pub returns-in-I32-clause-near : goal.returns-in-I32-clause-near
returns-in-I32-clause-near c = rw c.in-I32.is c.probe-in-I32.ensures.near

pub returns-in-I64-clause-near : goal.returns-in-I64-clause-near
returns-in-I64-clause-near c = rw c.in-I64.is c.probe-in-I64.ensures.near
