use Rattle.vdb_c.proofs.values.cells.go_to.Goals as goal

pub returns-in-Bool-clause-tree : goal.returns-in-Bool-clause-tree
returns-in-Bool-clause-tree c = rw c.in-Bool.is c.far_number.ensures.tree

pub returns-in-I32-clause-tree : goal.returns-in-I32-clause-tree
returns-in-I32-clause-tree c = rw c.in-I32.is c.far_number-in-I32.ensures.tree

pub returns-in-I64-clause-tree : goal.returns-in-I64-clause-tree
returns-in-I64-clause-tree c = rw c.in-I64.is c.far_number-in-I64.ensures.tree
