use Rattle.vdb_c.proofs.Common.{◌≡◌, ◌+◌, ◌*◌, ◌<◌, ℕ, List, get_or}
use Rattle.vdb_c.specs.Elements.{IsCopied}
use Rattle.vdb_c.proofs.boxes.copies.fill_line.Given as goal

abbrev pub invariant-elements : goal.invariant-elements
invariant-elements g l = (from : List g.row.T.Denot) (i : ℕ) → ((d : g.row.T.Denot) → get_or from i d ≡ l.element) → IsCopied (λ (k : ℕ). k < l.k) (λ k. i) (λ k. l.to + k * l.stride) from l.fn.into l.into
