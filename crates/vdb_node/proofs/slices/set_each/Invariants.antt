use Rattle.std.proofs.Common.{◌≡◌, ◌<◌, ◌≤◌, ℕ, get_or}
use Rattle.vdb_node.proofs.slices.set_each.Given as goal

abbrev pub invariant-values : goal.invariant-values
invariant-values g l =
    record {
      run : (j : ℕ) (d : g.row.V.Denot) → l.from ≤ j → j < l.i → get_or l.values j d ≡ l.value;
      before : (j : ℕ) (d : g.row.V.Denot) → j < l.from → get_or l.values j d ≡ get_or l.initial.values j d;
      after : (j : ℕ) (d : g.row.V.Denot) → l.i ≤ j → get_or l.values j d ≡ get_or l.initial.values j d;
    }
