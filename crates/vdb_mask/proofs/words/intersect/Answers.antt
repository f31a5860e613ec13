use Rattle.vdb_mask.proofs.Common.{refl, ◌&&◌, bit_and}
use Rattle.vdb_mask.proofs.Loops.{is_on-combined}
use Rattle.vdb_mask.proofs.WordBits.{has_bit-and}
use Rattle.vdb_mask.proofs.words.intersect.Goals as goal

pub returns : goal.returns
returns c =
    is_on-combined bit_and (λ a b. a && b) _ _ _ c.words.k c.words.invariant c.words-test.false c.requires refl
    (λ a b j _ _. has_bit-and a b j) (λ j. (c.type_inv.other j).fits)
