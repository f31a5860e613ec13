use Rattle.vdb_c.proofs.Common.{◌≡◌, ◌<◌, ℕ, ℤ, slice_index_or, cell_in, Cell}
use Rattle.vdb_c.proofs.values.numbers.I32Number.copy_numbers.Given as goal

abbrev pub invariant-loop-i : goal.invariant-loop-i
invariant-loop-i l = (d : Cell ℤ) (j : ℕ) (e : ℤ) → j < l.i → slice_index_or l.into j e ≡ ((cell_in d l.leaf j).value)
