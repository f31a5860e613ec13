use Rattle.vdb_c.proofs.Common.{◌≡◌, ◌<◌, ◌+◌, ◌*◌, ◌^◌, ◌∙◌, ap, arith, false, refl, rules, sym, Cell}
use Rattle.vdb_c.proofs.EqualCells.{refuted, runs_same, words_same}
use Rattle.vdb_c.proofs.grids.equality.are_equal_runs.Goals as goal

pub returns-then-word : goal.returns-then-word
returns-then-word g c = λ d e.
    let a = c.args.a.now in
    let b = c.args.b.now in
    let k = c.args.k in
    let first = rw c.states.ensures.same at c.word.ensures in
    let second = rw c.states-2.ensures.same at c.word-2.ensures in
    let fits_w : c.word.result < 2 ^ 64 = first_of (search rules, omega arith) in
    let fits_v : c.word-2.result < 2 ^ 64 = first_of (search rules, omega arith) in
    refuted false refl (λ run. let same = words_same d e a b k c.word.result c.word-2.result first second fits_w fits_v run in first_of (omega arith, search (rules, same)))

pub returns : goal.returns
returns g c = λ d e.
    let a = c.args.a.now in
    let b = c.args.b.now in
    let k = c.args.k in
    let first = rw c.states.ensures.same at c.word.ensures in
    let second = rw c.states-2.ensures.same at c.word-2.ensures in
    let x = c.entry-value.result.value in
    let words : c.word.result ≡ c.word-2.result = first_of (omega arith, search rules) in (
      λ holds. runs_same d e a b k c.word.result c.word-2.result first second words
          (λ j h. sym (c.copy_values.ensures.values d j x (first_of (omega (arith, h), search (rules, h)))) ∙ c.are_equal_values.ensures.0 holds j h x ∙ c.copy_values-2.ensures.values e j x (first_of (omega (arith, h), search (rules, h)))),
      λ run. c.are_equal_values.ensures.1 (λ j h y.
          c.copy_values.ensures.values d j y (first_of (omega (arith, h), search (rules, h))) ∙ ap (λ (cell : Cell g.row.V.Denot). cell.value) (run (64 * k + j) (omega arith) (omega (arith, h))) ∙ sym (c.copy_values-2.ensures.values e j y (first_of (omega (arith, h), search (rules, h))))),
    )
