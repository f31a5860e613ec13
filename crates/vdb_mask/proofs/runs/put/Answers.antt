use Rattle.vdb_mask.proofs.Common.{◌≡◌, ◌+◌, ◌-◌, ◌*◌, ◌/◌, ◌%◌, ◌<◌, ◌≤◌, ℕ, length, max, min, arith, inl, inr, ◌∙◌, cases_lt}
use Rattle.vdb_mask.proofs.RunBits.{kept_after, kept_before, written_run}
use Rattle.vdb_mask.proofs.runs.put.Goals as goal

pub words-preserved : goal.words-preserved
words-preserved c =
    let k : ℕ = c.words.k in
    let low : ℕ = c.max.result - 64 * k in
    let high : ℕ = c.min.result - 64 * k in
    let max_is : c.max.result ≡ max c.args.from (64 * k) = c.max.ensures in
    let min_is : c.min.result ≡ min c.args.to (64 * k + 64) = c.min.ensures in
    let end_is : c.div_ceil-k-end.result ≡ c.args.to / 64 + min 1 (c.args.to % 64) = c.div_ceil-k-end.ensures in
    let below : 64 * k < c.args.to = omega (arith, c.words-test.true, end_is) in
    let begins : low < 64 = omega (arith, max_is, c.words.auto.k) in
    let ends : high ≤ 64 = omega (arith, min_is) in
    let inside : k < length c.words.words = omega (arith, below, c.requires.within, c.words.auto.words) in
    let run = c.with_run.ensures.run in
    let before = c.with_run.ensures.before in
    let after = c.with_run.ensures.after in
    record {
      run = λ i least less high_word.
          elim (cases_lt i (64 * k)) [
            | inl h ↦
                kept_before c.words.words k c.with_run.result low high c.args.on inside ends run before after i (omega (arith, h)) begins
                ∙ c.words.invariant.run i least less h
            | inr h ↦
                written_run c.words.words k c.with_run.result low high c.args.on inside ends run before after i (omega (arith, h, least, max_is))
                (omega (arith, less, high_word, min_is, h))
          ];
      before = λ i less.
          kept_before c.words.words k c.with_run.result low high c.args.on inside ends run before after i (omega (arith, less, max_is)) begins
          ∙ c.words.invariant.before i less;
      after = λ i past.
          kept_after c.words.words k c.with_run.result low high c.args.on inside ends run before after i (omega (arith, past, min_is, below))
          ∙ c.words.invariant.after i past;
    }
