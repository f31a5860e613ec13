use Rattle.vdb_mask.proofs.Common.{◌≡◌, ◌*◌, ◌<◌, ◌≤◌, ℕ, false, ◌||◌, bits_of, is_on, is_value}
use Rattle.vdb_mask.proofs.either.next.Given as goal

abbrev pub invariant-words : goal.invariant-words
invariant-words l = (i : ℕ) → l.from ≤ i → i < 64 * l.k → (is_on (bits_of l.words) i || is_value l.value (bits_of l.others) i) ≡ false
