use Rattle.vdb_c.proofs.Common.{◌≡◌, ◌<◌, ℕ, ℤ, Bool, pos, if◌then◌else◌, slice_index_or, cell_in, Cell}
use Rattle.vdb_c.proofs.values.numbers.BoolNumber.copy_numbers.Given as goal

abbrev pub invariant-loop-i : goal.invariant-loop-i
invariant-loop-i l = (d : Cell Bool) (j : ℕ) (e : ℤ) → j < l.i → slice_index_or l.into j e ≡ (if (cell_in d l.leaf j).value then pos 1 else pos 0)
