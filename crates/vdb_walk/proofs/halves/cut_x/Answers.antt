use Rattle.vdb_walk.proofs.Common.{SFits, rules, w32, to_z-of_z, both}
use Rattle.vdb_walk.proofs.BoxOrder.{inside_below_x, inside_from_x}
use Rattle.vdb_walk.proofs.Cuts.{boxes_x, cut_x, lowered}
use Rattle.vdb_walk.proofs.halves.cut_x.Goals as goal

pub two-requires-clause-low : goal.two-requires-clause-low
two-requires-clause-low c =
    let x : SFits w32 c.args.x = search rules in
    let m : SFits w32 c.args.part.min.x = search rules in
    let hy : SFits w32 c.max.result.y = search rules in
    let hz : SFits w32 c.max.result.z = search rules in
    let ly : SFits w32 c.min.result.y = search rules in
    let lz : SFits w32 c.min.result.z = search rules in
    rw (lowered c.args.x c.args.part.min.x x m c.requires.0, to_z-of_z w32 c.max.result.y hy, to_z-of_z w32 c.max.result.z hz, c.max.ensures.corner) (boxes_x c.args.part c.args.x c.requires.0 c.requires.1 (both _ _ c.min.ensures.bounds).0).0

pub two-requires-clause-high : goal.two-requires-clause-high
two-requires-clause-high c =
    let x : SFits w32 c.args.x = search rules in
    let m : SFits w32 c.args.part.min.x = search rules in
    let hy : SFits w32 c.max.result.y = search rules in
    let hz : SFits w32 c.max.result.z = search rules in
    let ly : SFits w32 c.min.result.y = search rules in
    let lz : SFits w32 c.min.result.z = search rules in
    rw (to_z-of_z w32 c.args.x x, to_z-of_z w32 c.min.result.y ly, to_z-of_z w32 c.min.result.z lz, c.min.ensures.corner) (boxes_x c.args.part c.args.x c.requires.0 c.requires.1 (both _ _ c.min.ensures.bounds).0).1

pub returns-clause-halved : goal.returns-clause-halved
returns-clause-halved c =
    let x : SFits w32 c.args.x = search rules in
    let m : SFits w32 c.args.part.min.x = search rules in
    let hy : SFits w32 c.max.result.y = search rules in
    let hz : SFits w32 c.max.result.z = search rules in
    let ly : SFits w32 c.min.result.y = search rules in
    let lz : SFits w32 c.min.result.z = search rules in
    rw (c.two.ensures.low, c.two.ensures.high, lowered c.args.x c.args.part.min.x x m c.requires.0, to_z-of_z w32 c.max.result.y hy, to_z-of_z w32 c.max.result.z hz, c.max.ensures.corner, to_z-of_z w32 c.args.x x, to_z-of_z w32 c.min.result.y ly, to_z-of_z w32 c.min.result.z lz, c.min.ensures.corner) (cut_x c.args.part c.args.x c.requires.0 c.requires.1)

pub returns-clause-below : goal.returns-clause-below
returns-clause-below c = λ p h.
    let x : SFits w32 c.args.x = search rules in
    let m : SFits w32 c.args.part.min.x = search rules in
    let hy : SFits w32 c.max.result.y = search rules in
    let hz : SFits w32 c.max.result.z = search rules in
    let ly : SFits w32 c.min.result.y = search rules in
    let lz : SFits w32 c.min.result.z = search rules in
    inside_below_x c.args.part c.args.x p (rw (c.two.ensures.low, lowered c.args.x c.args.part.min.x x m c.requires.0, to_z-of_z w32 c.max.result.y hy, to_z-of_z w32 c.max.result.z hz, c.max.ensures.corner) at h)

pub returns-clause-from_on : goal.returns-clause-from_on
returns-clause-from_on c = λ p h.
    let x : SFits w32 c.args.x = search rules in
    let m : SFits w32 c.args.part.min.x = search rules in
    let hy : SFits w32 c.max.result.y = search rules in
    let hz : SFits w32 c.max.result.z = search rules in
    let ly : SFits w32 c.min.result.y = search rules in
    let lz : SFits w32 c.min.result.z = search rules in
    inside_from_x c.args.part c.args.x p (rw (c.two.ensures.high, to_z-of_z w32 c.args.x x, to_z-of_z w32 c.min.result.y ly, to_z-of_z w32 c.min.result.z lz, c.min.ensures.corner) at h)
