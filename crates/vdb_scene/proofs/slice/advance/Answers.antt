use Rattle.std.proofs.Common.{◌≡◌, ◌∙◌, ap, rules, ℤ, pos, ◌+ℤ◌, ◌<ℤ◌, to_z, of_z, w32, FitsSigned}
use Rattle.std.proofs.Math.Facts.{to_z-of_z}
use Rattle.vdb_scene.proofs.Rows.{number_next}
use Rattle.vdb_scene.proofs.slice.advance.Goals as goal

pub returns-then-number-last : goal.returns-then-number-last
returns-then-number-last c =
    let x = c.in-Some.number in
    let same : to_z w32 (of_z w32 x) ≡ x = search rules in
    let below : x <ℤ c.args.last = search rules in
    let fits : FitsSigned w32 (x +ℤ pos 1) = search rules in
    number_next c.args.next.now x _ _ c.args.last c.in-Some.is same (ap (λ (n : ℤ). to_z w32 (of_z w32 (n +ℤ pos 1))) same ∙ to_z-of_z fits) below
