use Rattle.vdb_node.proofs.Common.{◌≡◌, ◌≢◌, ◌+◌, ◌*◌, ◌/◌, ◌%◌, ◌<◌, ℕ, Bool, List, sym, ◌∙◌, inl, inr, arith, has_bit, is_on}
use Rattle.std.proofs.lemmas.Bool.Decides.{eqb_tells}
use Rattle.vdb_node.proofs.uniform.put_bits.Goals as goal

-- a value stays if the bit of its word does, where its word is written
kept : (old new : List Bool) (k word written i : ℕ) → ((j : ℕ) → j < 64 → is_on old (64 * k + j) ≡ has_bit word j)
    → ((j : ℕ) → j < 64 → is_on new (64 * k + j) ≡ has_bit written j) → ((j : ℕ) → j / 64 ≢ k → is_on new j ≡ is_on old j)
    → (i / 64 ≡ k → has_bit written (i % 64) ≡ has_bit word (i % 64)) → is_on new i ≡ is_on old i
kept old new k word written i was here others same =
    elim (eqb_tells (i / 64) k) [
      | inl e ↦
          let at : 64 * k + i % 64 ≡ i = omega (arith, e.1) in
          let below : i % 64 < 64 = omega arith in
          rw at at (here (i % 64) below ∙ same e.1 ∙ sym (was (i % 64) below))
      | inr e ↦ others i e.1
    ]

pub returns-then-count-gt0-clause-run : goal.returns-then-count-gt0-clause-run
returns-then-count-gt0-clause-run g c = λ i h.
    let first : 0 + i ≡ i = omega arith in
    let at : 64 * (c.args.from / 64) + (c.args.from % 64 + i) ≡ c.args.from + i = omega arith in
    rw at at (c.set_word.ensures.here (c.args.from % 64 + i) (omega (arith, h, c.requires.one_word)))
    ∙ c.with_bits-word.ensures.run i h
    ∙ sym (rw first at (c.word-then-count-gt0.ensures i (omega (arith, h, c.requires.one_word))))

pub returns-then-count-gt0-clause-before : goal.returns-then-count-gt0-clause-before
returns-then-count-gt0-clause-before g c = λ i h.
    kept c.args.mask.now c.set_word.new.self (c.args.from / 64) c.word.result c.with_bits-word.result i c.word.ensures c.set_word.ensures.here
    c.set_word.ensures.others (λ e. c.with_bits-word.ensures.before (i % 64) (omega (arith, e, h)))

pub returns-then-count-gt0-clause-after : goal.returns-then-count-gt0-clause-after
returns-then-count-gt0-clause-after g c = λ i h.
    kept c.args.mask.now c.set_word.new.self (c.args.from / 64) c.word.result c.with_bits-word.result i c.word.ensures c.set_word.ensures.here
    c.set_word.ensures.others (λ e. c.with_bits-word.ensures.after (i % 64) (omega (arith, e, h)) (omega arith))
