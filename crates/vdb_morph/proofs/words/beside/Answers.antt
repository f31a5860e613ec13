use Rattle.vdb_morph.proofs.Common.{◌≤◌, ◌∙◌, arith, offset, vdb, Leaf, is_on, bit_beside}
use Rattle.vdb_morph.proofs.BesideStates.{beside_is, offset_low}
use Rattle.vdb_morph.proofs.LeafWords.{more_below}
use Rattle.vdb_morph.proofs.words.beside.Goals as goal

pub loop-k-preserved : goal.loop-k-preserved
loop-k-preserved c =
    more_below c.loop-k.result (bit_beside c.args.face (is_on c.args.own.now) (is_on c.args.other.now)) c.set_word.new.self c.loop-k.k c.word_beside.result
    c.loop-k.invariant c.set_word.ensures.here c.set_word.ensures.others c.word_beside.ensures

pub returns : goal.returns
returns c = λ q.
    let end : 8 ≤ c.loop-k.k = omega (arith, c.loop-k-test.false) in
    c.loop-k.invariant (offset vdb Leaf q) (offset_low q c.loop-k.k end) ∙ beside_is c.args.own.now c.args.other.now q c.args.face
