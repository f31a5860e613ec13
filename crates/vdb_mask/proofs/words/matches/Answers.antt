use Rattle.vdb_mask.proofs.Common.{◌≡◌, arith, refl, sym, w64, bit_at, bit_at_not, bit_at-lt}
use Rattle.vdb_mask.proofs.words.matches.Goals as goal

pub returns-else-value-clause-ones : goal.returns-else-value-clause-ones
returns-else-value-clause-ones c = λ j h one.
    let zero : bit_at c.args.word j ≡ 0 =
    omega (arith, one, bit_at_not w64 c.args.word j c.ranges.word.fits h, bit_at-lt c.args.word j) in
    rw zero (sym c.if-value.false)

pub returns-else-value-clause-zeros : goal.returns-else-value-clause-zeros
returns-else-value-clause-zeros c = λ j h zero.
    let one : bit_at c.args.word j ≡ 1 =
    omega (arith, zero, bit_at_not w64 c.args.word j c.ranges.word.fits h, bit_at-lt c.args.word j) in
    rw (one, c.if-value.false) refl
