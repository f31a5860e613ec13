use Rattle.vdb_mask.proofs.Common.{◌≡◌, ◌*◌, bits_of, on_count}
use Rattle.vdb_mask.proofs.words.count_ones.Given as goal

abbrev pub invariant-counted : goal.invariant-counted
invariant-counted l = l.count ≡ on_count (bits_of l.words) (64 * l.k)
