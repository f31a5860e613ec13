use Rattle.vdb_node.proofs.Common.{◌≡◌, ◌-◌, ◌<◌, ◌≤◌, ℕ, length, if◌then◌else◌, is_on}
use Rattle.vdb_node.specs.Values.{capacity, value_of}
use Rattle.vdb_node.proofs.values.Values.take_marked.Given as goal

abbrev pub invariant-runs : goal.invariant-runs
invariant-runs g l =
    record {
      within : l.from ≤ l.count;
      room : capacity l.initial.self ≤ capacity l.self;
      written : l.count ≤ length l.self.first.items;
      taken : (j : ℕ) → j < l.from
          → value_of l.self j ≡ (if is_on l.marks j then value_of l.other j else value_of l.initial.self j);
      rest : (j : ℕ) → l.from ≤ j → value_of l.self j ≡ value_of l.initial.self j;
    }

abbrev pub decreases-runs : goal.decreases-runs
decreases-runs g l = l.count - l.from
