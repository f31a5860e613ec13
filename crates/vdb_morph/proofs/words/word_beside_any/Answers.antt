use Rattle.vdb_morph.proofs.Common.{◌≡◌, ◌+◌, ◌*◌, ◌<◌, ℕ, [], sym, ◌∙◌, arith, has_bit, is_on, bit_after, bit_before}
use Rattle.vdb_morph.proofs.LeafWords.{after_y_in_word, after_z_in_word, before_y_in_word, before_z_in_word, no_word, six_words, word_after, word_before}
use Rattle.vdb_morph.proofs.words.word_beside_any.Goals.{then-k-eq0, else-k-eq0, then-k-eq7, else-k-eq7}
use Rattle.vdb_morph.proofs.words.word_beside_any.Goals as goal

pub returns : goal.returns
returns c = λ j h.
    six_words j c.if-k-eq0.minus_x c.if-k-eq7.plus_x c.before_y-minus_y.result c.after_y-plus_y.result c.before_z-minus_z.result c.after_z-plus_z.result
    (minus_x j h) (plus_x j h)
    (before_y_in_word c.args.own.now [] c.args.k c.word-word.result 0 c.word-word.ensures (no_word c.args.k) j h ∙ sym (c.before_y-minus_y.ensures j h))
    (after_y_in_word c.args.own.now [] c.args.k c.word-word.result 0 c.word-word.ensures (no_word c.args.k) j h ∙ sym (c.after_y-plus_y.ensures j h))
    (before_z_in_word c.args.own.now [] c.args.k c.word-word.result 0 c.word-word.ensures (no_word c.args.k) j h ∙ sym (c.before_z-minus_z.ensures j h))
    (after_z_in_word c.args.own.now [] c.args.k c.word-word.result 0 c.word-word.ensures (no_word c.args.k) j h ∙ sym (c.after_z-plus_z.ensures j h))
  where
    minus_x : (j : ℕ) → j < 64 → bit_before 64 (is_on c.args.own.now) (is_on []) (64 * c.args.k + j) ≡ has_bit c.if-k-eq0.minus_x j
    minus_x j h =
        elim c.if-k-eq0.branch [
          | then-k-eq0 w ↦
              rw w.minus_x-is (word_before c.args.own.now [] c.args.k 0 c.requires j h (λ _. no_word 7) (λ high. absurd (omega (arith, high, w.if-k-eq0.true))))
          | else-k-eq0 w ↦
              rw w.minus_x-is (word_before c.args.own.now [] c.args.k w.word-minus_x.result c.requires j h (λ e. absurd (w.if-k-eq0.false e)) (λ _. w.word-minus_x.ensures))
        ]

    plus_x : (j : ℕ) → j < 64 → bit_after 64 (is_on c.args.own.now) (is_on []) (64 * c.args.k + j) ≡ has_bit c.if-k-eq7.plus_x j
    plus_x j h =
        elim c.if-k-eq7.branch [
          | then-k-eq7 w ↦
              rw w.plus_x-is (word_after c.args.own.now [] c.args.k 0 c.requires j h (λ _. no_word 0) (λ low. absurd (omega (arith, low, w.if-k-eq7.true))))
          | else-k-eq7 w ↦
              rw w.plus_x-is (word_after c.args.own.now [] c.args.k w.word-plus_x.result c.requires j h (λ e. absurd (w.if-k-eq7.false e)) (λ _. w.word-plus_x.ensures))
        ]
