use Rattle.vdb_c.proofs.Common.{◌≡◌, ◌+◌, ◌*◌, ◌<◌, ℕ, arith, subst}
use Rattle.vdb_c.proofs.Copies.{AreCopied, copied_next}
use Rattle.vdb_c.proofs.boxes.copies.copy_planes.Goals as goal

pub planes-preserved : goal.planes-preserved
planes-preserved g c =
    let t = c.args.steps.now in
    let s = c.args.strides.now in
    copied_next (λ (n : ℕ × ℕ). (n.0 < c.args.lines) × (n.1 < c.args.count)) (λ x n. c.args.at + x * t.x + n.0 * t.y + n.1 * t.z) (λ x n. c.args.to + x * s.x + n.0 * s.y + n.1 * s.z) c.args.from.now c.planes.x c.args.into.now _ _
    c.planes.invariant c.copy_plane.ensures

pub returns : goal.returns
returns g c =
    let t = c.args.steps.now in
    let s = c.args.strides.now in
    let end : c.planes.x ≡ c.args.planes = omega (arith, c.planes-test.false, c.planes.auto.x-end) in
    subst
    (λ (m : ℕ). AreCopied (λ (n : ℕ × ℕ). (n.0 < c.args.lines) × (n.1 < c.args.count)) (λ x n. c.args.at + x * t.x + n.0 * t.y + n.1 * t.z) (λ x n. c.args.to + x * s.x + n.0 * s.y + n.1 * s.z) c.args.from.now m c.args.into.now
    c.planes.into) end c.planes.invariant
