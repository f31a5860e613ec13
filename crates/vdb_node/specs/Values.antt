-- What a contract sees of a row of values.
use Rattle.std.specs.Prelude.{ℕ, slice_index_or}
use Rattle.vdb_node.specs.declared.values.Values.{Values}

-- the values that a row has places for
abbrev pub capacity : {V : Type 0} → Values V → ℕ
capacity row = row.first.cap

-- the value at an index
abbrev pub value_of : {V : Type 0} → Values V → ℕ → V
value_of row i = slice_index_or row.first.items i row.rest
