use Rattle.std.proofs.Common.{◌≡◌, ◌≤◌, ◌+◌, ◌*◌, length}
use Rattle.vdb_grid.specs.Grid.{AreUnusedEmpty}
use Rattle.vdb_grid.proofs.EachAccessor.{AreWholeBelow}
use Rattle.vdb_grid.proofs.accessors.retrace.Given as goal

abbrev pub invariant-loop-k : goal.invariant-loop-k
invariant-loop-k g l = record {
  whole : AreWholeBelow l.tree l.coords l.paths l.k;
  unused : AreUnusedEmpty l.coords l.paths;
  length : length l.paths ≡ length l.coords;
  steps : l.steps ≤ l.initial.steps + 3 * l.k;
}
