use Rattle.vdb_c.proofs.Common.{◌*◌, Cell}
use Rattle.vdb_c.specs.Equality.{AreEqualRuns}
use Rattle.vdb_c.proofs.grids.equality.are_equal_leaves.Given as goal

abbrev pub invariant-loop-k : goal.invariant-loop-k
invariant-loop-k g l = (d e : Cell g.row.V.Denot) → AreEqualRuns 0 (64 * l.k) d e l.a l.b
