use Rattle.vdb_file.proofs.Common.{◌≡◌, ◌≤◌, ◌-◌, length, take, has_failed, source}
use Rattle.std.specs.Io.KnownBytes.{Appends}
use Rattle.vdb_file.proofs.saving.output.write_bytes.Given as goal

-- the bytes that the writer took so far
abbrev pub invariant-loop-at : goal.invariant-loop-at
invariant-loop-at g l = record {
  appends : Appends (g.W.Write.contents (source l.fn.writer)) (g.W.Write.contents (source l.writer)) (take l.at l.bytes);
  within : l.at ≤ length l.bytes;
  failed : has_failed l.writer ≡ has_failed l.fn.writer;
}

-- the bytes that are left decrease
abbrev pub decreases-loop-at : goal.decreases-loop-at
decreases-loop-at g l = length l.bytes - l.at
