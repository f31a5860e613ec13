use Rattle.vdb_c.proofs.Common.{◌≡◌, ◌+◌, ◌*◌, ◌<◌, ℕ, arith, subst, sym}
use Rattle.vdb_c.specs.Elements.{IsCopied}
use Rattle.vdb_c.proofs.Copies.{line_next}
use Rattle.vdb_c.proofs.boxes.copies.fill_line.Goals as goal

pub elements-preserved : goal.elements-preserved
elements-preserved g c = λ from i is.
    let k = c.elements.k in
    line_next (λ k. i) (λ k. c.args.to + k * c.args.stride) from k c.args.into.now _ c.args.element (c.elements.invariant from i is) (c.requires.targets k c.elements-test.true) (λ d. sym (is d))

pub returns : goal.returns
returns g c = λ from i is.
    let end : c.elements.k ≡ c.args.count = omega (arith, c.elements-test.false, c.elements.auto.k-end) in
    subst (λ (n : ℕ). IsCopied (λ (k : ℕ). k < n) (λ k. i) (λ k. c.args.to + k * c.args.stride) from c.args.into.now c.elements.into) end (c.elements.invariant from i is)
