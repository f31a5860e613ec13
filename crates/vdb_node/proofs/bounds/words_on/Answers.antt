use Rattle.vdb_node.proofs.Common.{arith, is_on}
use Rattle.vdb_node.proofs.Spans.{planes_more, planes_same}
use Rattle.vdb_node.proofs.bounds.words_on.Goals.{then-word-ne0, else-word-ne0}
use Rattle.vdb_node.proofs.bounds.words_on.Goals as goal

pub loop-k-preserved : goal.loop-k-preserved
loop-k-preserved g c =
    elim c.if-word-ne0.branch [
      | then-word-ne0 w ↦
          rw w.on-is
          (planes_more (is_on c.args.states.now) c.loop-k.k c.word.result c.word.ensures c.loop-k.on (omega (arith, c.loop-k-test.true))
          (omega (arith, w.if-word-ne0.true)) c.word.type_inv c.loop-k.invariant)
      | else-word-ne0 w ↦
          rw w.on-is
          (planes_same (is_on c.args.states.now) c.loop-k.k c.word.result c.word.ensures c.loop-k.on w.if-word-ne0.false c.loop-k.invariant)
    ]
