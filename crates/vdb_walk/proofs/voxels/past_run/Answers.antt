-- A run along z from p ends at the lesser of the boxes' ends.
use Rattle.vdb_walk.proofs.Common.{◌≡◌, SFits, w32, rules, arith, unsigned_abs, ◌-ℤ◌, int_min, to_z-of_z}
use Rattle.vdb_walk.proofs.voxels.past_run.Goals as goal

pub returns-clause-run : goal.returns-clause-run
returns-clause-run c =
    let z : SFits w32 c.args.p.z = search rules in
    let a : SFits w32 c.max.result.z = search rules in
    let b : SFits w32 c.max-2.result.z = search rules in
    let l : SFits w32 c.min-last.result = search rules in
    let least : c.min-last.result ≡ int_min c.args.part.max.z c.args.other.max.z = rw (c.max.ensures.corner, c.max-2.ensures.corner) at (rw (to_z-of_z w32 c.max.result.z a, to_z-of_z w32 c.max-2.result.z b) at c.min-last.ensures.value) in
    let apart : c.abs_diff.result ≡ unsigned_abs (int_min c.args.part.max.z c.args.other.max.z -ℤ c.args.p.z) = rw least at (rw (to_z-of_z w32 c.min-last.result l, to_z-of_z w32 c.args.p.z z) at c.abs_diff.ensures) in
    let first = c.saturating_add.ensures in
    let second = c.saturating_add-2.ensures in
    let most = c.min.ensures in
    omega (arith, apart, first, second, most)
