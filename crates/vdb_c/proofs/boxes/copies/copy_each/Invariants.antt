use Rattle.vdb_c.proofs.Common.{◌+◌, ◌*◌, ◌<◌, ℕ}
use Rattle.vdb_c.specs.Elements.{IsCopied}
use Rattle.vdb_c.proofs.boxes.copies.copy_each.Given as goal

abbrev pub invariant-elements : goal.invariant-elements
invariant-elements g l = IsCopied (λ (k : ℕ). k < l.k) (λ k. l.at + k * l.step) (λ k. l.to + k * l.stride) l.from l.fn.into l.into
