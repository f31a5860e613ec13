use Rattle.std.specs.Prelude.{bit_and}
use Rattle.vdb_mask.proofs.Loops.{CombinesBelow}
use Rattle.vdb_mask.proofs.words.intersect.Given as goal

abbrev pub invariant-words : goal.invariant-words
invariant-words l = CombinesBelow bit_and l.fn.words l.other l.words l.k
