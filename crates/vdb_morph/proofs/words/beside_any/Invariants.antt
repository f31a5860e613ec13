use Rattle.vdb_morph.proofs.Common.{◌≡◌, ◌*◌, ◌<◌, ℕ, is_on, is_on_beside}
use Rattle.vdb_morph.proofs.words.beside_any.Given as goal

abbrev pub invariant-loop-k : goal.invariant-loop-k
invariant-loop-k l = (i : ℕ) → i < 64 * l.k → is_on l.result i ≡ is_on_beside l.own i
