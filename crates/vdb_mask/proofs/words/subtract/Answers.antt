use Rattle.vdb_mask.proofs.Common.{refl, w64, ◌&&◌, bit_and, not, bit_not}
use Rattle.vdb_mask.proofs.Loops.{is_on-combined}
use Rattle.vdb_mask.proofs.WordBits.{has_bit-and_not}
use Rattle.vdb_mask.proofs.words.subtract.Goals as goal

pub returns : goal.returns
returns c =
    is_on-combined (λ a b. bit_and a (bit_not w64 b)) (λ a b. a && not b) _ _ _ c.words.k c.words.invariant c.words-test.false
    c.requires refl has_bit-and_not (λ j. (c.type_inv.other j).fits)
