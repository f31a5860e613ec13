use Rattle.vdb_mask.proofs.Common.{w64, bit_and, bit_not}
use Rattle.vdb_mask.proofs.Loops.{CombinesBelow}
use Rattle.vdb_mask.proofs.words.subtract.Given as goal

abbrev pub invariant-words : goal.invariant-words
invariant-words l = CombinesBelow (λ a b. bit_and a (bit_not w64 b)) l.fn.words l.other l.words l.k
