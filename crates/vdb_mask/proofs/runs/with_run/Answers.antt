use Rattle.vdb_mask.proofs.Common.{◌≡◌, ◌-◌, ◌*◌, ◌/◌, ◌%◌, ◌^◌, ◌<◌, ℕ, Bool, true, false, refl, sym, ◌∙◌, arith, ◌||◌, ◌&&◌, not, and_le_l, has_bit}
use Rattle.vdb_mask.proofs.RunBits.{run_word, run_word-in, run_word-before, run_word-after}
use Rattle.vdb_mask.proofs.WordBits.{has_bit-and_not, has_bit-or}
use Rattle.vdb_mask.proofs.runs.with_run.Goals as goal

or_true : (a : Bool) → (a || true) ≡ true
or_true true = refl
or_true false = refl

or_false : (a : Bool) → (a || false) ≡ a
or_false true = refl
or_false false = refl

and_not_true : (a : Bool) → (a && not true) ≡ false
and_not_true true = refl
and_not_true false = refl

and_not_false : (a : Bool) → (a && not false) ≡ a
and_not_false true = refl
and_not_false false = refl

run_fits : (low high : ℕ) → run_word low high < 2 ^ 64
run_fits low high = omega (arith, and_le_l ((2 ^ 64 - 1) * 2 ^ low % 2 ^ 64) ((2 ^ 64 - 1) / 2 ^ (64 - high)))

pub returns-then-on-clause-run : goal.returns-then-on-clause-run
returns-then-on-clause-run c = λ j h below.
    has_bit-or c.args.word (run_word c.args.low c.args.high) j
    ∙ (rw (run_word-in c.args.low c.args.high c.requires.begins c.requires.ends j h below) (or_true (has_bit c.args.word j)))
    ∙ sym c.if-on.true

pub returns-then-on-clause-before : goal.returns-then-on-clause-before
returns-then-on-clause-before c = λ j h.
    has_bit-or c.args.word (run_word c.args.low c.args.high) j
    ∙ (rw (run_word-before c.args.low c.args.high c.requires.begins c.requires.ends j h) (or_false (has_bit c.args.word j)))

pub returns-then-on-clause-after : goal.returns-then-on-clause-after
returns-then-on-clause-after c = λ j h below.
    has_bit-or c.args.word (run_word c.args.low c.args.high) j
    ∙ (rw (run_word-after c.args.low c.args.high c.requires.begins c.requires.ends j h below) (or_false (has_bit c.args.word j)))

pub returns-else-on-clause-run : goal.returns-else-on-clause-run
returns-else-on-clause-run c = λ j h below.
    has_bit-and_not c.args.word (run_word c.args.low c.args.high) j (run_fits c.args.low c.args.high) (omega (arith, below, c.requires.ends))
    ∙ (rw (run_word-in c.args.low c.args.high c.requires.begins c.requires.ends j h below) (and_not_true (has_bit c.args.word j)))
    ∙ sym c.if-on.false

pub returns-else-on-clause-before : goal.returns-else-on-clause-before
returns-else-on-clause-before c = λ j h.
    has_bit-and_not c.args.word (run_word c.args.low c.args.high) j (run_fits c.args.low c.args.high) (omega (arith, h, c.requires.begins))
    ∙ (rw (run_word-before c.args.low c.args.high c.requires.begins c.requires.ends j h) (and_not_false (has_bit c.args.word j)))

pub returns-else-on-clause-after : goal.returns-else-on-clause-after
returns-else-on-clause-after c = λ j h below.
    has_bit-and_not c.args.word (run_word c.args.low c.args.high) j (run_fits c.args.low c.args.high) below
    ∙ (rw (run_word-after c.args.low c.args.high c.requires.begins c.requires.ends j h below) (and_not_false (has_bit c.args.word j)))
