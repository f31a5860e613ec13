use Rattle.vdb_walk.proofs.Common.{refl, sym, SFits, rules, w32, to_z-of_z, both}
use Rattle.vdb_walk.proofs.BoxOrder.{one_block, ordered_x, ordered_y, ordered_z}
use Rattle.vdb_walk.proofs.halves.cut.Goals as goal

pub cut_x-requires : goal.cut_x-requires
cut_x-requires c =
    let at : SFits w32 c.in-Some.x = search rules in
    let low : SFits w32 c.min-min.result.x = search rules in
    let high : SFits w32 c.max-max.result.x = search rules in
    let range = c.in-Some.ensures.some in
    rw (to_z-of_z w32 c.in-Some.x at, sym c.min-min.ensures.corner, sym c.max-max.ensures.corner) (rw (to_z-of_z w32 c.min-min.result.x low, to_z-of_z w32 c.max-max.result.x high) at range)

pub cut_y-requires : goal.cut_y-requires
cut_y-requires c =
    let at : SFits w32 c.in-Some-edge.y = search rules in
    let low : SFits w32 c.min-min.result.y = search rules in
    let high : SFits w32 c.max-max.result.y = search rules in
    let range = c.in-Some-edge.ensures.some in
    rw (to_z-of_z w32 c.in-Some-edge.y at, sym c.min-min.ensures.corner, sym c.max-max.ensures.corner) (rw (to_z-of_z w32 c.min-min.result.y low, to_z-of_z w32 c.max-max.result.y high) at range)

pub cut_z-requires : goal.cut_z-requires
cut_z-requires c =
    let at : SFits w32 c.in-Some-edge-2.z = search rules in
    let low : SFits w32 c.min-min.result.z = search rules in
    let high : SFits w32 c.max-max.result.z = search rules in
    let range = c.in-Some-edge-2.ensures.some in
    rw (to_z-of_z w32 c.in-Some-edge-2.z at, sym c.min-min.ensures.corner, sym c.max-max.ensures.corner) (rw (to_z-of_z w32 c.min-min.result.z low, to_z-of_z w32 c.max-max.result.z high) at range)

pub returns-in-Some-clause-ordered : goal.returns-in-Some-clause-ordered
returns-in-Some-clause-ordered c =
    let fits : SFits w32 c.in-Some.x = search rules in
    ordered_x c.args.least c.args.part c.cut_x.result.0 c.cut_x.result.1 c.cut_x.ensures.halved c.in-Some.x c.in-Some.ensures.first
    (rw (to_z-of_z w32 c.in-Some.x fits) at c.cut_x.ensures.below) (rw (to_z-of_z w32 c.in-Some.x fits) at c.cut_x.ensures.from_on)

pub returns-in-Some-edge-clause-ordered : goal.returns-in-Some-edge-clause-ordered
returns-in-Some-edge-clause-ordered c =
    let fits : SFits w32 c.in-Some-edge.y = search rules in
    let lx : SFits w32 c.min-min.result.x = search rules in
    let hx : SFits w32 c.max-max.result.x = search rules in
    let ly : SFits w32 c.min-min.result.y = search rules in
    let hy : SFits w32 c.max-max.result.y = search rules in
    let lz : SFits w32 c.min-min.result.z = search rules in
    let hz : SFits w32 c.max-max.result.z = search rules in
    let ex = rw (to_z-of_z w32 c.min-min.result.x lx, to_z-of_z w32 c.max-max.result.x hx, c.min-min.ensures.corner, c.max-max.ensures.corner) at c.in_default.ensures.none refl in
    ordered_y c.args.least c.args.part c.cut_y.result.0 c.cut_y.result.1 c.cut_y.ensures.halved c.in-Some-edge.y c.in-Some-edge.ensures.first ex
    (rw (to_z-of_z w32 c.in-Some-edge.y fits) at c.cut_y.ensures.below) (rw (to_z-of_z w32 c.in-Some-edge.y fits) at c.cut_y.ensures.from_on)

pub returns-in-Some-edge-2-clause-ordered : goal.returns-in-Some-edge-2-clause-ordered
returns-in-Some-edge-2-clause-ordered c =
    let fits : SFits w32 c.in-Some-edge-2.z = search rules in
    let lx : SFits w32 c.min-min.result.x = search rules in
    let hx : SFits w32 c.max-max.result.x = search rules in
    let ly : SFits w32 c.min-min.result.y = search rules in
    let hy : SFits w32 c.max-max.result.y = search rules in
    let lz : SFits w32 c.min-min.result.z = search rules in
    let hz : SFits w32 c.max-max.result.z = search rules in
    let ex = rw (to_z-of_z w32 c.min-min.result.x lx, to_z-of_z w32 c.max-max.result.x hx, c.min-min.ensures.corner, c.max-max.ensures.corner) at c.in_default.ensures.none refl in
    let ey = rw (to_z-of_z w32 c.min-min.result.y ly, to_z-of_z w32 c.max-max.result.y hy, c.min-min.ensures.corner, c.max-max.ensures.corner) at c.in_default-edge.ensures.none refl in
    ordered_z c.args.least c.args.part c.cut_z.result.0 c.cut_z.result.1 c.cut_z.ensures.halved c.in-Some-edge-2.z c.in-Some-edge-2.ensures.first ex ey
    (rw (to_z-of_z w32 c.in-Some-edge-2.z fits) at c.cut_z.ensures.below) (rw (to_z-of_z w32 c.in-Some-edge-2.z fits) at c.cut_z.ensures.from_on)

pub returns-in-None-clause-none : goal.returns-in-None-clause-none
returns-in-None-clause-none c = λ _.
    let lx : SFits w32 c.min-min.result.x = search rules in
    let hx : SFits w32 c.max-max.result.x = search rules in
    let ly : SFits w32 c.min-min.result.y = search rules in
    let hy : SFits w32 c.max-max.result.y = search rules in
    let lz : SFits w32 c.min-min.result.z = search rules in
    let hz : SFits w32 c.max-max.result.z = search rules in
    let ex = rw (to_z-of_z w32 c.min-min.result.x lx, to_z-of_z w32 c.max-max.result.x hx, c.min-min.ensures.corner, c.max-max.ensures.corner) at c.in_default.ensures.none refl in
    let ey = rw (to_z-of_z w32 c.min-min.result.y ly, to_z-of_z w32 c.max-max.result.y hy, c.min-min.ensures.corner, c.max-max.ensures.corner) at c.in_default-edge.ensures.none refl in
    let ez = rw (to_z-of_z w32 c.min-min.result.z lz, to_z-of_z w32 c.max-max.result.z hz, c.min-min.ensures.corner, c.max-max.ensures.corner) at c.in-None.ensures.none refl in
    one_block c.args.least c.args.part (both _ _ c.min-min.ensures.bounds).0 ex ey ez
