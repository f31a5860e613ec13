use Rattle.vdb_c.proofs.Common.{◌≡◌, ◌<◌, ◌+◌, ◌*◌, ℕ, HasRun}
use Rattle.vdb_mask.specs.Mask.{has_bit, is_on}
use Rattle.vdb_c.proofs.leaves.rows.copy_states.Given as goal

abbrev pub invariant-loop-i : goal.invariant-loop-i
invariant-loop-i g l = HasRun (8 * l.k) l.i (λ i x. (j : ℕ) → j < 64 → is_on l.leaf.states (64 * i + j) ≡ has_bit x j) l.fn.states l.states
