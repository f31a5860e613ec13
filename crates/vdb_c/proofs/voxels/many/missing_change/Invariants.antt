use Rattle.vdb_c.proofs.Common.{ℕ, ◌<◌, IsSome, change_at}
use Rattle.vdb_c.proofs.voxels.many.missing_change.Given as goal

abbrev pub invariant-loop-k : goal.invariant-loop-k
invariant-loop-k l = (i : ℕ) → i < l.k → IsSome (change_at l.kind l.values l.states i)
