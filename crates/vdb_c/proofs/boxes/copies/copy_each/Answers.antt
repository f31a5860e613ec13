use Rattle.vdb_c.proofs.Common.{◌≡◌, ◌+◌, ◌*◌, ◌<◌, ◌∙◌, ℕ, arith, subst, get_or_default}
use Rattle.vdb_c.specs.Elements.{IsCopied}
use Rattle.vdb_c.proofs.Copies.{line_next}
use Rattle.vdb_c.proofs.boxes.copies.copy_each.Goals as goal

pub elements-preserved : goal.elements-preserved
elements-preserved g c =
    let k = c.elements.k in
    let below = c.elements-test.true in
    line_next (λ k. c.args.at + k * c.args.step) (λ k. c.args.to + k * c.args.stride) c.args.from.now k c.args.into.now _ c.index-from-at.result c.elements.invariant (c.requires.targets k below)
    (λ d. c.index-from-at.is ∙ get_or_default c.args.from.now (c.args.at + k * c.args.step) c.index-from-at.result d (c.requires.sources k below))

pub returns : goal.returns
returns g c =
    let end : c.elements.k ≡ c.args.count = omega (arith, c.elements-test.false, c.elements.auto.k-end) in
    subst (λ (n : ℕ). IsCopied (λ (k : ℕ). k < n) (λ k. c.args.at + k * c.args.step) (λ k. c.args.to + k * c.args.stride) c.args.from.now c.args.into.now c.elements.into) end c.elements.invariant
