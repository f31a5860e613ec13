use Rattle.vdb_node.proofs.Common.{◌≡◌, ◌+◌, ◌-◌, ◌*◌, ◌/◌, ◌%◌, ◌^◌, ◌<◌, ℕ, refl, ◌∙◌, arith, ◌||◌, not, bit_and, bit_or, has_bit, has_bit-and, has_bit-or, or-false}
use Rattle.std.proofs.Common.{pow_pos, w64, ◌&&◌}
use Rattle.std.proofs.Math.Bool.{and-false, and-true}
use Rattle.std.proofs.lemmas.Nat.{and_le_l}
use Rattle.std.specs.Int.{bit_not}
use Rattle.vdb_mask.proofs.RunBits.{run_word, run_word-in, run_word-before, run_word-after}
use Rattle.vdb_mask.proofs.WordBits.{has_bit-and_not}
use Rattle.vdb_node.proofs.ShiftedWords.{has_bit-shl_high}
use Rattle.vdb_node.proofs.uniform.with_bits.Goals as goal

-- a bit of the one word outside the run, and of the other inside
mixed : (a b : ℕ) (low high j : ℕ) → j < 64
    → has_bit (bit_or (bit_and a (bit_not w64 (run_word low high))) (bit_and b (run_word low high))) j
    ≡ (has_bit a j && not (has_bit (run_word low high) j) || has_bit b j && has_bit (run_word low high) j)
mixed a b low high j h =
    let fits : run_word low high < 2 ^ 64 = omega (arith, and_le_l ((2 ^ 64 - 1) * 2 ^ low % 2 ^ 64) ((2 ^ 64 - 1) / 2 ^ (64 - high))) in
    has_bit-or (bit_and a (bit_not w64 (run_word low high))) (bit_and b (run_word low high)) j
    ∙ rw (has_bit-and_not a (run_word low high) j fits h, has_bit-and b (run_word low high) j) refl

pub returns-clause-run : goal.returns-clause-run
returns-clause-run c = λ j h.
    let at : ℕ = c.args.low + j in
    let high : ℕ = c.args.low + c.args.count in
    let begins : c.args.low < 64 = omega (arith, c.requires.some, c.requires.ends) in
    let inside : at < 64 = omega (arith, h, c.requires.ends) in
    let back : at - c.args.low ≡ j = omega arith in
    mixed c.args.word (c.args.bits * 2 ^ c.args.low % 2 ^ 64) c.args.low high at inside
    ∙ rw (
      run_word-in c.args.low high begins c.requires.ends at (omega arith) (omega (arith, h)),
      has_bit-shl_high c.args.bits c.args.low at (pow_pos c.args.low) inside (omega arith),
      back,
      and-false (has_bit c.args.word at),
      and-true (has_bit c.args.bits j),
    ) refl

pub returns-clause-before : goal.returns-clause-before
returns-clause-before c = λ j h.
    let high : ℕ = c.args.low + c.args.count in
    let begins : c.args.low < 64 = omega (arith, c.requires.some, c.requires.ends) in
    mixed c.args.word (c.args.bits * 2 ^ c.args.low % 2 ^ 64) c.args.low high j (omega (arith, h, begins))
    ∙ rw (
      run_word-before c.args.low high begins c.requires.ends j h,
      and-true (has_bit c.args.word j),
      and-false (has_bit (c.args.bits * 2 ^ c.args.low % 2 ^ 64) j),
    ) (or-false (has_bit c.args.word j))

pub returns-clause-after : goal.returns-clause-after
returns-clause-after c = λ j h below.
    let high : ℕ = c.args.low + c.args.count in
    let begins : c.args.low < 64 = omega (arith, c.requires.some, c.requires.ends) in
    mixed c.args.word (c.args.bits * 2 ^ c.args.low % 2 ^ 64) c.args.low high j below
    ∙ rw (
      run_word-after c.args.low high begins c.requires.ends j h below,
      and-true (has_bit c.args.word j),
      and-false (has_bit (c.args.bits * 2 ^ c.args.low % 2 ^ 64) j),
    ) (or-false (has_bit c.args.word j))
