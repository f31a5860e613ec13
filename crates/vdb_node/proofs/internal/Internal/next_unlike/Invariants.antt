use Rattle.vdb_node.proofs.Common.{◌≡◌, ◌-◌, ◌<◌, ◌≤◌, ℕ, false, is_on}
use Rattle.vdb_node.proofs.internal.Internal.next_unlike.Given as goal

abbrev pub invariant-parts : goal.invariant-parts
invariant-parts g l =
    record {
      least : l.from ≤ l.start;
      within : l.start ≤ l.count;
      unmarked : (i : ℕ) → l.from ≤ i → i < l.start → is_on l.children i ≡ false;
      values : (i : ℕ) → l.from ≤ i → i < l.start → g.V.Stored.value_in l.values i ≡ l.value;
      same : (i : ℕ) → l.from ≤ i → i < l.start → is_on l.states i ≡ l.on;
    }

abbrev pub decreases-parts : goal.decreases-parts
decreases-parts g l = l.count - l.start
