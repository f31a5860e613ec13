use Rattle.vdb_c.proofs.Common.{◌≡◌, ◌+◌, ◌*◌, ◌<◌, ◌∙◌, ℕ, ap, arith, sym, length, get_or_default}
use Rattle.vdb_c.proofs.Copies.{copied_same}
use Rattle.vdb_c.proofs.boxes.copies.copy_line.Goals as goal

still : (a k s : ℕ) → s ≡ 0 → a ≡ a + k * s
still a k s e = let none : k * s ≡ k * 0 = ap (λ (m : ℕ). k * m) e in omega (arith, none)

first : (a s len : ℕ) → a + 0 * s < len → a < len
first a s len h = omega (arith, h)

pub returns-then-step-eq0 : goal.returns-then-step-eq0
returns-then-step-eq0 g c =
    let at = c.args.at in
    let step = c.args.step in
    let some = first at step (length c.args.from.now) (c.requires.sources 0 c.requires.some) in
    copied_same (λ k. k < c.args.count) (λ k. at) (λ k. at + k * step) (λ k. c.args.to + k * c.args.stride) c.args.from.now c.args.into.now c.fill_line.new.into (λ k. still at k step c.if-step-eq0.true)
    (c.fill_line.ensures c.args.from.now at (λ d. get_or_default c.args.from.now at d c.index-from-at.result some ∙ sym c.index-from-at.is))
