use Rattle.vdb_c.proofs.Common.{◌+◌, ◌*◌, ◌<◌, ℕ}
use Rattle.vdb_c.proofs.Copies.{AreCopied}
use Rattle.vdb_c.proofs.boxes.copies.copy_lines.Given as goal

abbrev pub invariant-lines : goal.invariant-lines
invariant-lines g l = AreCopied (λ (k : ℕ). k < l.count) (λ y k. l.at + y * l.step_y + k * l.step) (λ y k. l.to + y * l.stride_y + k * l.stride) l.from l.y l.fn.into l.into
