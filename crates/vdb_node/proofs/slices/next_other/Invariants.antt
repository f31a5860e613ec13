use Rattle.std.proofs.Common.{◌≡◌, ◌<◌, ◌≤◌, ℕ, get_or}
use Rattle.vdb_node.proofs.slices.next_other.Given as goal

abbrev pub invariant-values : goal.invariant-values
invariant-values g l = (i : ℕ) (d : g.row.V.Denot) → l.from ≤ i → i < l.i → get_or l.values i d ≡ l.value
