use Rattle.std.proofs.Common.{rules, arith, length-drop}
use Rattle.std.proofs.KnownBytes.{Appends-kept}
use Rattle.vdb_script.proofs.Writing.{Appends-more, Appends-none, Writes-front}
use Rattle.vdb_script.proofs.output.write_bytes.Goals as goal

pub returns-in-Ok-eq0-clause-writes : goal.returns-in-Ok-eq0-clause-writes
returns-in-Ok-eq0-clause-writes g c =
    Writes-front _ _ c.args.bytes.now c.loop-at.at (Appends-none _ _ _ _ _ _ c.in-Ok-eq0.field-0-test c.loop-at.invariant.appends c.in-Ok-eq0.ensures.bytes)

pub returns-in-Err-clause-writes : goal.returns-in-Err-clause-writes
returns-in-Err-clause-writes g c =
    Writes-front _ _ c.args.bytes.now c.loop-at.at (Appends-kept _ _ _ _ c.loop-at.invariant.appends c.in-Err.ensures.bytes)

pub loop-at-preserved : goal.loop-at-preserved
loop-at-preserved g c = record {
  appends = Appends-more _ _ _ c.args.bytes.now c.loop-at.at c.in-Ok.taken c.loop-at.invariant.appends c.in-Ok.ensures.bytes;
  within = omega (arith, c.in-Ok.ensures.bound, length-drop c.loop-at.at c.args.bytes.now);
  failed = search rules;
}
