use Rattle.vdb_c.proofs.Common.{◌≡◌, ◌+◌, ◌*◌, ◌<◌, ℕ, arith, subst}
use Rattle.vdb_c.proofs.Copies.{AreCopied, copied_next}
use Rattle.vdb_c.proofs.boxes.copies.copy_lines.Goals as goal

pub lines-preserved : goal.lines-preserved
lines-preserved g c =
    copied_next (λ (k : ℕ). k < c.args.count) (λ y k. c.args.at + y * c.args.step_y + k * c.args.step) (λ y k. c.args.to + y * c.args.stride_y + k * c.args.stride) c.args.from.now c.lines.y c.args.into.now _ _ c.lines.invariant
    c.copy_line.ensures

pub returns : goal.returns
returns g c =
    let end : c.lines.y ≡ c.args.lines = omega (arith, c.lines-test.false, c.lines.auto.y-end) in
    subst
    (λ (n : ℕ). AreCopied (λ (k : ℕ). k < c.args.count) (λ y k. c.args.at + y * c.args.step_y + k * c.args.step) (λ y k. c.args.to + y * c.args.stride_y + k * c.args.stride) c.args.from.now n c.args.into.now c.lines.into) end
    c.lines.invariant
