use Rattle.vdb_mask.proofs.Common.{◌≡◌, ◌*◌, ◌<◌, ◌≤◌, ℕ, bits_of, is_on}
use Rattle.vdb_mask.proofs.runs.put.Given as goal

abbrev pub invariant-words : goal.invariant-words
invariant-words l =
    record {
      run : (i : ℕ) → l.from ≤ i → i < l.to → i < 64 * l.k → is_on (bits_of l.words) i ≡ l.on;
      before : (i : ℕ) → i < l.from → is_on (bits_of l.words) i ≡ is_on (bits_of l.initial.words) i;
      after : (i : ℕ) → l.to ≤ i → is_on (bits_of l.words) i ≡ is_on (bits_of l.initial.words) i;
    }
