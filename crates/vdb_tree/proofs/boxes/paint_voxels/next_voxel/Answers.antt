use Rattle.vdb_tree.proofs.Common.{SFits, refl, rules, w32, to_z-of_z, coord, few_after, nearer_x, nearer_y, nearer_z}
use Rattle.vdb_tree.proofs.PaintedVoxels.{bumped, covered, greatest, behind, next_along_x, next_along_y, next_along_z, none_along}
use Rattle.vdb_tree.proofs.boxes.paint_voxels.next_voxel.Goals as goal

pub returns-then-p-max-clause-next : goal.returns-then-p-max-clause-next
returns-then-p-max-clause-next c =
    let x : SFits w32 c.args.p.x = search rules in
    let y : SFits w32 c.args.p.y = search rules in
    let pz : SFits w32 c.args.p.z = search rules in
    let mz : SFits w32 c.max.result.z = search rules in
    let z = bumped c.args.p.z c.max.result.z pz mz c.if-p-max.true in
    rw (to_z-of_z w32 c.args.p.x x, to_z-of_z w32 c.args.p.y y, z.0)
    (next_along_z c.args.part c.args.p c.requires (rw c.max.ensures.corner at z.1))

pub returns-then-p-max-clause-nearer : goal.returns-then-p-max-clause-nearer
returns-then-p-max-clause-nearer c =
    let x : SFits w32 c.args.p.x = search rules in
    let y : SFits w32 c.args.p.y = search rules in
    let pz : SFits w32 c.args.p.z = search rules in
    let mz : SFits w32 c.max.result.z = search rules in
    let z = bumped c.args.p.z c.max.result.z pz mz c.if-p-max.true in
    rw (to_z-of_z w32 c.args.p.x x, to_z-of_z w32 c.args.p.y y, z.0)
    (nearer_z c.args.p (coord c.args.p.x c.args.p.y _) (greatest _ x) (greatest _ y) (greatest _ z.2) (few_after _ y) (few_after _ z.2) refl refl (behind c.args.p.z))

pub returns-then-p-max-2-clause-next : goal.returns-then-p-max-2-clause-next
returns-then-p-max-2-clause-next c =
    let x : SFits w32 c.args.p.x = search rules in
    let pz : SFits w32 c.args.p.z = search rules in
    let mz : SFits w32 c.max.result.z = search rules in
    let py : SFits w32 c.args.p.y = search rules in
    let my : SFits w32 c.max-2.result.y = search rules in
    let low : SFits w32 c.min.result.z = search rules in
    let z = covered c.args.p.z c.max.result.z pz mz c.if-p-max.false in
    let y = bumped c.args.p.y c.max-2.result.y py my c.if-p-max-2.true in
    rw (to_z-of_z w32 c.args.p.x x, y.0, to_z-of_z w32 c.min.result.z low, c.min.ensures.corner)
    (next_along_y c.args.part c.args.p c.requires (rw c.max.ensures.corner at z) (rw c.max-2.ensures.corner at y.1))

pub returns-then-p-max-2-clause-nearer : goal.returns-then-p-max-2-clause-nearer
returns-then-p-max-2-clause-nearer c =
    let x : SFits w32 c.args.p.x = search rules in
    let py : SFits w32 c.args.p.y = search rules in
    let my : SFits w32 c.max-2.result.y = search rules in
    let low : SFits w32 c.min.result.z = search rules in
    let y = bumped c.args.p.y c.max-2.result.y py my c.if-p-max-2.true in
    rw (to_z-of_z w32 c.args.p.x x, y.0, to_z-of_z w32 c.min.result.z low)
    (nearer_y c.args.p (coord c.args.p.x _ c.min.result.z) (greatest _ x) (greatest _ y.2) (greatest _ low) (few_after _ y.2) (few_after _ low) refl (behind c.args.p.y))

pub returns-then-p-max-3-clause-next : goal.returns-then-p-max-3-clause-next
returns-then-p-max-3-clause-next c =
    let pz : SFits w32 c.args.p.z = search rules in
    let mz : SFits w32 c.max.result.z = search rules in
    let py : SFits w32 c.args.p.y = search rules in
    let my : SFits w32 c.max-2.result.y = search rules in
    let px : SFits w32 c.args.p.x = search rules in
    let mx : SFits w32 c.max-3.result.x = search rules in
    let low_y : SFits w32 c.min-then-p-max-3.result.y = search rules in
    let low_z : SFits w32 c.min-then-p-max-3-2.result.z = search rules in
    let z = covered c.args.p.z c.max.result.z pz mz c.if-p-max.false in
    let y = covered c.args.p.y c.max-2.result.y py my c.if-p-max-2.false in
    let x = bumped c.args.p.x c.max-3.result.x px mx c.if-p-max-3.true in
    rw (x.0, to_z-of_z w32 c.min-then-p-max-3.result.y low_y, to_z-of_z w32 c.min-then-p-max-3-2.result.z low_z, c.min-then-p-max-3.ensures.corner, c.min-then-p-max-3-2.ensures.corner)
    (next_along_x c.args.part c.args.p c.requires (rw c.max.ensures.corner at z) (rw c.max-2.ensures.corner at y) (rw c.max-3.ensures.corner at x.1))

pub returns-then-p-max-3-clause-nearer : goal.returns-then-p-max-3-clause-nearer
returns-then-p-max-3-clause-nearer c =
    let px : SFits w32 c.args.p.x = search rules in
    let mx : SFits w32 c.max-3.result.x = search rules in
    let low_y : SFits w32 c.min-then-p-max-3.result.y = search rules in
    let low_z : SFits w32 c.min-then-p-max-3-2.result.z = search rules in
    let x = bumped c.args.p.x c.max-3.result.x px mx c.if-p-max-3.true in
    rw (x.0, to_z-of_z w32 c.min-then-p-max-3.result.y low_y, to_z-of_z w32 c.min-then-p-max-3-2.result.z low_z)
    (nearer_x c.args.p (coord _ c.min-then-p-max-3.result.y c.min-then-p-max-3-2.result.z) (greatest _ x.2) (greatest _ low_y) (greatest _ low_z) (few_after _ low_y) (few_after _ low_z) (behind c.args.p.x))

pub returns-clause-next : goal.returns-clause-next
returns-clause-next c =
    let pz : SFits w32 c.args.p.z = search rules in
    let mz : SFits w32 c.max.result.z = search rules in
    let py : SFits w32 c.args.p.y = search rules in
    let my : SFits w32 c.max-2.result.y = search rules in
    let px : SFits w32 c.args.p.x = search rules in
    let mx : SFits w32 c.max-3.result.x = search rules in
    let z = covered c.args.p.z c.max.result.z pz mz c.if-p-max.false in
    let y = covered c.args.p.y c.max-2.result.y py my c.if-p-max-2.false in
    let x = covered c.args.p.x c.max-3.result.x px mx c.if-p-max-3.false in
    none_along c.args.part c.args.p c.requires (rw c.max.ensures.corner at z) (rw c.max-2.ensures.corner at y) (rw c.max-3.ensures.corner at x)
