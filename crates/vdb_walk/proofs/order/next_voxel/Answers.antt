use Rattle.vdb_walk.proofs.Common.{◌≡◌, ◌+ℤ◌, ◌<ℤ◌, ◌≤ℤ◌, SFits, arith, of_z, pos, rules, to_z, true, false, w32, ℤ, ints, to_z-of_z}
use lib.Signed.{lt_z}
use Rattle.vdb_walk.proofs.NextVoxels.{next_x, next_y, next_z, no_next}
use Rattle.vdb_walk.proofs.order.next_voxel.Goals as goal

-- the number after x, if 32 bits hold a greater one
bumped : (x m : ℤ) → SFits w32 x → SFits w32 m → lt_z (to_z w32 (of_z w32 x)) (to_z w32 (of_z w32 m)) ≡ true
    → (to_z w32 (of_z w32 (to_z w32 (of_z w32 x) +ℤ pos 1)) ≡ x +ℤ pos 1) × (x <ℤ m) × SFits w32 (x +ℤ pos 1)
bumped x m fx fm h =
    let less : x <ℤ m = let k = simp to_z-of_z at h in grind (arith, ints) in
    let fits : SFits w32 (x +ℤ pos 1) = grind (arith, ints) in
    (simp to_z-of_z, less, fits)

covered : (x m : ℤ) → SFits w32 x → SFits w32 m → lt_z (to_z w32 (of_z w32 x)) (to_z w32 (of_z w32 m)) ≡ false → m ≤ℤ x
covered x m fx fm h = let k = simp to_z-of_z at h in grind (arith, ints)

pub returns-then-p-most : goal.returns-then-p-most
returns-then-p-most c =
    let px : SFits w32 c.args.p.x = search rules in
    let py : SFits w32 c.args.p.y = search rules in
    let pz : SFits w32 c.args.p.z = search rules in
    let mz : SFits w32 c.max-most.result.z = search rules in
    let max = c.max-most.ensures.corner in
    let z = bumped c.args.p.z c.max-most.result.z pz mz c.if-p-most.true in
    rw (to_z-of_z w32 c.args.p.x px, to_z-of_z w32 c.args.p.y py, z.0)
    (next_z c.args.part c.args.p c.requires (rw max at z.1))

pub returns-then-p-most-2 : goal.returns-then-p-most-2
returns-then-p-most-2 c =
    let px : SFits w32 c.args.p.x = search rules in
    let py : SFits w32 c.args.p.y = search rules in
    let pz : SFits w32 c.args.p.z = search rules in
    let my : SFits w32 c.max-most.result.y = search rules in
    let mz : SFits w32 c.max-most.result.z = search rules in
    let lz : SFits w32 c.min-least.result.z = search rules in
    let max = c.max-most.ensures.corner in
    let z = covered c.args.p.z c.max-most.result.z pz mz c.if-p-most.false in
    let y = bumped c.args.p.y c.max-most.result.y py my c.if-p-most-2.true in
    rw (to_z-of_z w32 c.args.p.x px, y.0, to_z-of_z w32 c.min-least.result.z lz, c.min-least.ensures.corner)
    (next_y c.args.part c.args.p c.requires (rw max at z) (rw max at y.1))

pub returns-then-p-most-3 : goal.returns-then-p-most-3
returns-then-p-most-3 c =
    let px : SFits w32 c.args.p.x = search rules in
    let py : SFits w32 c.args.p.y = search rules in
    let pz : SFits w32 c.args.p.z = search rules in
    let mx : SFits w32 c.max-most.result.x = search rules in
    let my : SFits w32 c.max-most.result.y = search rules in
    let mz : SFits w32 c.max-most.result.z = search rules in
    let ly : SFits w32 c.min-least.result.y = search rules in
    let lz : SFits w32 c.min-least.result.z = search rules in
    let max = c.max-most.ensures.corner in
    let z = covered c.args.p.z c.max-most.result.z pz mz c.if-p-most.false in
    let y = covered c.args.p.y c.max-most.result.y py my c.if-p-most-2.false in
    let x = bumped c.args.p.x c.max-most.result.x px mx c.if-p-most-3.true in
    rw (x.0, to_z-of_z w32 c.min-least.result.y ly, to_z-of_z w32 c.min-least.result.z lz, c.min-least.ensures.corner)
    (next_x c.args.part c.args.p c.requires (rw max at z) (rw max at y) (rw max at x.1))

pub returns : goal.returns
returns c =
    let px : SFits w32 c.args.p.x = search rules in
    let py : SFits w32 c.args.p.y = search rules in
    let pz : SFits w32 c.args.p.z = search rules in
    let mx : SFits w32 c.max-most.result.x = search rules in
    let my : SFits w32 c.max-most.result.y = search rules in
    let mz : SFits w32 c.max-most.result.z = search rules in
    let max = c.max-most.ensures.corner in
    let z = covered c.args.p.z c.max-most.result.z pz mz c.if-p-most.false in
    let y = covered c.args.p.y c.max-most.result.y py my c.if-p-most-2.false in
    let x = covered c.args.p.x c.max-most.result.x px mx c.if-p-most-3.false in
    no_next c.args.part c.args.p c.requires (rw max at z) (rw max at y) (rw max at x)
