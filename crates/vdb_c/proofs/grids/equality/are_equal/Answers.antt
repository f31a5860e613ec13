use Rattle.vdb_c.proofs.grids.equality.are_equal.Goals as goal

pub returns-in-Bool : goal.returns-in-Bool
returns-in-Bool c = rw (c.in-Bool.is, ← c.tree.ensures) c.has_field_of.ensures

pub returns-in-I32 : goal.returns-in-I32
returns-in-I32 c = rw (c.in-I32.is, ← c.tree-in-I32.ensures) c.has_field_of-in-I32.ensures

pub returns-in-I64 : goal.returns-in-I64
returns-in-I64 c = rw (c.in-I64.is, ← c.tree-in-I64.ensures) c.has_field_of-in-I64.ensures
