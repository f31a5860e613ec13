use Rattle.std.proofs.Common.{rules, arith, length-drop}
use Rattle.vdb_file.proofs.Outputs.{appends_more}
use Rattle.vdb_file.proofs.saving.output.write_bytes.Goals as goal

pub loop-at-preserved : goal.loop-at-preserved
loop-at-preserved g c = record {
  appends = appends_more _ _ _ c.args.bytes.now c.loop-at.at c.in-Ok.taken c.loop-at.invariant.appends c.in-Ok.ensures.bytes;
  within = omega (arith, c.in-Ok.ensures.bound, length-drop c.loop-at.at c.args.bytes.now);
  failed = search rules;
}
