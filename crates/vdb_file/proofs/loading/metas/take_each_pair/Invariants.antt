use Rattle.vdb_file.proofs.Common.{◌≡◌, length, ℕ, Some, None, flat_map, IsPair, name_of, pair_bytes, EndsWith, GaveWithin, Took, ahead, byte_total}
use Rattle.vdb_file.proofs.Items.{IsChain, last_of}
use Rattle.vdb_file.proofs.loading.metas.take_each_pair.Given as goal

-- the pairs so far were read, and the next must follow the last of them
abbrev pub invariant-loop : goal.invariant-loop
invariant-loop g l = record {
  took : Took (ahead l.fn.input (g.S.Source.state l.fn.reader)) (ahead l.input (g.S.Source.state l.reader)) (flat_map pair_bytes l.metas);
  ends : EndsWith l.input (g.S.Source.state l.reader);
  total : (n : ℕ) → byte_total l.fn.input (g.S.Source.state l.fn.reader).remaining ≡ Some n → byte_total l.input (g.S.Source.state l.reader).remaining ≡ Some n;
  given : (n m : ℕ) → GaveWithin n m l.fn.input (g.S.Source.state l.fn.reader).given (g.S.Source.state l.fn.reader).empty → GaveWithin n m l.input (g.S.Source.state l.reader).given (g.S.Source.state l.reader).empty;
  count : length l.metas ≡ l.counter;
  chain : IsChain IsPair name_of None l.metas;
  before : l.before ≡ last_of IsPair name_of None l.metas;
  failed : (g.S.Source.state l.reader).failed ≡ (g.S.Source.state l.fn.reader).failed;
}
