use Rattle.vdb_node.proofs.Common.{◌≡◌, ◌+◌, ◌<◌, ◌≤◌, ℕ, Bool, get_or, is_on}
use Rattle.vdb_node.proofs.kinds.BoolStored.set_values.Given as goal

abbrev pub invariant-values : goal.invariant-values
invariant-values g l =
    record {
      run : (j : ℕ) (d : Bool) → j < l.i → is_on l.row (l.from + j) ≡ get_or l.values j d;
      before : (j : ℕ) → j < l.from → is_on l.row j ≡ is_on l.initial.row j;
      after : (j : ℕ) → l.from + l.i ≤ j → is_on l.row j ≡ is_on l.initial.row j;
    }
