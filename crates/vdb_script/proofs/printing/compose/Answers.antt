use Rattle.std.proofs.Common.{◌∙◌}
use Rattle.vdb_script.proofs.Writing.{composed-fits, composed-more}
use Rattle.vdb_script.proofs.printing.compose.Goals as goal

pub add_part-requires : goal.add_part-requires
add_part-requires c = record {
  capacity = composed-fits (λ part. part.now) c.args.parts.now c.loop-i.i _ c.loop-i.composed.items c.loop-i-test.true c.loop-i.invariant _ c.requires.capacity;
}

pub loop-i-preserved : goal.loop-i-preserved
loop-i-preserved c =
    c.add_part.ensures ∙ composed-more (λ part. part.now) c.args.parts.now c.loop-i.i _ c.loop-i.composed.items c.loop-i-test.true c.loop-i.invariant
