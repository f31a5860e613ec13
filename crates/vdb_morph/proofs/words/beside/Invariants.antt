use Rattle.vdb_morph.proofs.Common.{◌≡◌, ◌*◌, ◌<◌, ℕ, is_on, bit_beside}
use Rattle.vdb_morph.proofs.words.beside.Given as goal

abbrev pub invariant-loop-k : goal.invariant-loop-k
invariant-loop-k l = (i : ℕ) → i < 64 * l.k → is_on l.result i ≡ bit_beside l.face (is_on l.own) (is_on l.other) i
