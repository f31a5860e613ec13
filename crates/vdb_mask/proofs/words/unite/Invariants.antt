use Rattle.std.specs.Prelude.{bit_or}
use Rattle.vdb_mask.proofs.Loops.{CombinesBelow}
use Rattle.vdb_mask.proofs.words.unite.Given as goal

abbrev pub invariant-words : goal.invariant-words
invariant-words l = CombinesBelow bit_or l.fn.words l.other l.words l.k
