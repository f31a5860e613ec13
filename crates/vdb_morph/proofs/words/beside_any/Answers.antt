use Rattle.vdb_morph.proofs.Common.{◌≤◌, ◌∙◌, arith, offset, vdb, Leaf, is_on_beside}
use Rattle.vdb_morph.proofs.BesideStates.{beside_any_is, offset_low}
use Rattle.vdb_morph.proofs.LeafWords.{more_below}
use Rattle.vdb_morph.proofs.words.beside_any.Goals as goal

pub loop-k-preserved : goal.loop-k-preserved
loop-k-preserved c =
    more_below c.loop-k.result (is_on_beside c.args.own.now) c.set_word.new.self c.loop-k.k c.word_beside_any.result
    c.loop-k.invariant c.set_word.ensures.here c.set_word.ensures.others c.word_beside_any.ensures

pub returns : goal.returns
returns c = λ q.
    let end : 8 ≤ c.loop-k.k = omega (arith, c.loop-k-test.false) in
    c.loop-k.invariant (offset vdb Leaf q) (offset_low q c.loop-k.k end) ∙ beside_any_is c.args.own.now q
