use Rattle.vdb_c.proofs.Common.{◌+◌, ◌*◌, ◌<◌, ℕ}
use Rattle.vdb_c.proofs.Copies.{AreCopied}
use Rattle.vdb_c.proofs.boxes.copies.copy_planes.Given as goal

abbrev pub invariant-planes : goal.invariant-planes
invariant-planes g l =
    AreCopied (λ (n : ℕ × ℕ). (n.0 < l.lines) × (n.1 < l.count)) (λ x n. l.at + x * l.steps.x + n.0 * l.steps.y + n.1 * l.steps.z) (λ x n. l.to + x * l.strides.x + n.0 * l.strides.y + n.1 * l.strides.z) l.from l.x l.fn.into l.into
