use Rattle.vdb_mask.proofs.Common.{◌≡◌, ◌*◌, ◌<◌, ◌≤◌, ℕ, not, bits_of, is_on}
use Rattle.vdb_mask.proofs.words.next.Given as goal

abbrev pub invariant-words : goal.invariant-words
invariant-words l = (i : ℕ) → l.from ≤ i → i < 64 * l.k → is_on (bits_of l.words) i ≡ not l.value
