use Rattle.vdb_node.proofs.Common.{◌≡◌, ◌+◌, ◌<◌, ℕ, Bool, get_or, is_on}
use Rattle.vdb_node.proofs.kinds.BoolStored.copy_values.Given as goal

abbrev pub invariant-values : goal.invariant-values
invariant-values g l = (j : ℕ) (d : Bool) → j < l.i → get_or l.into j d ≡ is_on l.row (l.from + j)
