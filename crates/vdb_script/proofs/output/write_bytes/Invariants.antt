use Rattle.vdb_script.proofs.Common.{◌≡◌, ◌≤◌, ◌-◌, length, take, Appends, has_failed, source}
use Rattle.vdb_script.proofs.output.write_bytes.Given as goal

-- what was taken so far
abbrev pub invariant-loop-at : goal.invariant-loop-at
invariant-loop-at g l = record {
  appends : Appends (g.W.Write.contents (source l.fn.writer)) (g.W.Write.contents (source l.writer)) (take l.at l.bytes);
  within : l.at ≤ length l.bytes;
  failed : has_failed l.writer ≡ has_failed l.fn.writer;
}

-- the bytes that are left
abbrev pub decreases-loop-at : goal.decreases-loop-at
decreases-loop-at g l = length l.bytes - l.at
