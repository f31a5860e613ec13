use Rattle.vdb_mask.proofs.Common.{refl, ◌||◌, bit_or}
use Rattle.vdb_mask.proofs.Loops.{is_on-combined}
use Rattle.vdb_mask.proofs.WordBits.{has_bit-or}
use Rattle.vdb_mask.proofs.words.unite.Goals as goal

pub returns : goal.returns
returns c =
    is_on-combined bit_or (λ a b. a || b) _ _ _ c.words.k c.words.invariant c.words-test.false c.requires refl
    (λ a b j _ _. has_bit-or a b j) (λ j. (c.type_inv.other j).fits)
