use Rattle.std.proofs.Common.{◌*◌, ◌%◌, ◌/◌, ◌+◌, ◌≡◌, ◌∙◌, arith, get_or, sym}
use Rattle.vdb_mask.proofs.RowBits.{is_on-bits_of, same_words}
use Rattle.vdb_mask.proofs.words.are_all.Goals as goal

pub returns : goal.returns
returns c =
    let words = c.args.words.now in
    let whole = c.repeated.result in (
      λ yes i h.
          let same : get_or words (i / 64) 0 ≡ whole = c.each_is.ensures.0 yes (i / 64) (omega (arith, h)) in
          is_on-bits_of words i ∙ rw same (c.repeated.ensures (i % 64) (omega arith)),
      λ all.
          c.each_is.ensures.1
          (λ k inside.
          same_words words whole k (c.type_inv.words k).fits c.repeated.type_inv
          (λ j h. all (64 * k + j) (omega (arith, h, inside)) ∙ sym (c.repeated.ensures j h))),
    )
