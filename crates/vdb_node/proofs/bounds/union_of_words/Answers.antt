use Rattle.vdb_mask.specs.Mask.{is_on}
use Rattle.vdb_node.proofs.Spans.{union_more}
use Rattle.vdb_node.proofs.bounds.union_of_words.Goals as goal

pub loop-k-preserved : goal.loop-k-preserved
loop-k-preserved g c =
    union_more (is_on c.args.states.now) c.loop-k.k c.word-union.result c.word-union.ensures c.loop-k.union c.word-union.type_inv c.loop-k.invariant
