use Rattle.vdb_c.proofs.Common.{◌∙◌, ◌+◌, ap, arith, rules, sym, SFits, w32, to_z-of_z, both, min_inside, Cell, place}
use Rattle.vdb_c.proofs.Places.{next_along}
use Rattle.vdb_c.proofs.RowsLaid.{further, further_fits, laid_at_first, laid_last, laid_on, moved, same_next}
use Rattle.vdb_c.proofs.boxes.reading.lay_voxels.Goals as goal

pub place-index-requires-clause-inside : goal.place-index-requires-clause-inside
place-index-requires-clause-inside g c = c.requires.within c.min-p.result (rw c.min-p.ensures.corner (min_inside c.args.part (both _ _ c.min-p.ensures.bounds).0))

pub rows-init : goal.rows-init
rows-init g c =
    laid_at_first c.args.bounds c.args.strides.now c.args.part _ c.max-max.result c.min-p.result c.place-index.result c.args.out.now c.max-max.ensures.corner
    (rw c.min-p.ensures.corner (min_inside c.args.part (both _ _ c.min-p.ensures.bounds).0)) c.min-p.ensures.corner c.place-index.ensures

pub overflow_add-p : goal.overflow_add-p
overflow_add-p g c =
    let p = c.row.p in
    let m = c.max-max.result in
    let x : SFits w32 c.row.p.x = search rules in
    let y : SFits w32 c.row.p.y = search rules in
    let z : SFits w32 c.row.p.z = search rules in
    let end : SFits w32 c.max-max.result.z = search rules in
    let h = c.row.invariant.0 in
    rw (to_z-of_z w32 p.z z) (further_fits c.args.part p m h.inside x y z end c.max-max.ensures.corner c.row-test.true)

pub overflow_add-index : goal.overflow_add-index
overflow_add-index g c =
    let p = c.row.p in
    let m = c.max-max.result in
    let x : SFits w32 c.row.p.x = search rules in
    let y : SFits w32 c.row.p.y = search rules in
    let z : SFits w32 c.row.p.z = search rules in
    let end : SFits w32 c.max-max.result.z = search rules in
    let h = c.row.invariant.0 in
    let all = next_along c.args.bounds c.args.strides.now c.args.part c.requires.within p h.inside (further c.args.part p m h.inside x y z end c.max-max.ensures.corner c.row-test.true) c.requires.reach c.row.index h.at in
    omega (arith, all.0)

pub row-smaller : goal.row-smaller
row-smaller g c =
    let p = c.row.p in
    let m = c.max-max.result in
    let x : SFits w32 c.row.p.x = search rules in
    let y : SFits w32 c.row.p.y = search rules in
    let z : SFits w32 c.row.p.z = search rules in
    let end : SFits w32 c.max-max.result.z = search rules in
    let h = c.row.invariant.0 in
    (moved c.args.part p m h.inside x y z end c.max-max.ensures.corner c.row-test.true).1

pub row-preserved : goal.row-preserved
row-preserved g c =
    let p = c.row.p in
    let m = c.max-max.result in
    let x : SFits w32 c.row.p.x = search rules in
    let y : SFits w32 c.row.p.y = search rules in
    let z : SFits w32 c.row.p.z = search rules in
    let end : SFits w32 c.max-max.result.z = search rules in
    let h = c.row.invariant.0 in
    let read = λ (d : Cell g.row.V.Denot). c.of.ensures ∙ ap g.S.Shown.of (sym (c.cell_at.ensures d)) in
    let next = moved c.args.part p m h.inside x y z end c.max-max.ensures.corner c.row-test.true in
    let along = next_along c.args.bounds c.args.strides.now c.args.part c.requires.within p h.inside (further c.args.part p m h.inside x y z end c.max-max.ensures.corner c.row-test.true) c.requires.reach c.row.index h.at in (
      laid_on c.args.bounds c.args.strides.now c.args.part _ c.requires.apart c.requires.within m p c.row.index c.args.out.now c.row.out c.store.new.out h c.of.result read c.store.ensures
          _ (c.row.index + c.args.strides.now.z) next.0 (along.1 ∙ ap (place c.args.bounds c.args.strides.now) (same_next c.args.part p m h.inside x y z end c.max-max.ensures.corner c.row-test.true)),
      omega (arith, next.1, c.row.invariant.1),
    )

pub place-index-requires-in-Some-clause-inside : goal.place-index-requires-in-Some-clause-inside
place-index-requires-in-Some-clause-inside g c = c.requires.within c.in-Some.next c.in-Some.ensures.next.0

pub rows-preserved : goal.rows-preserved
rows-preserved g c =
    let read = λ (d : Cell g.row.V.Denot). c.of-in-rows.ensures ∙ ap g.S.Shown.of (sym (c.cell_at-in-rows.ensures d)) in
    laid_on c.args.bounds c.args.strides.now c.args.part _ c.requires.apart c.requires.within c.max-max.result c.row.p c.row.index c.args.out.now c.row.out c.store-in-rows.new.out c.row.invariant.0 c.of-in-rows.result read c.store-in-rows.ensures
    c.in-Some.next c.place-index-in-Some.result c.in-Some.ensures.next c.place-index-in-Some.ensures

pub returns-in-None : goal.returns-in-None
returns-in-None g c =
    let read = λ (d : Cell g.row.V.Denot). c.of-in-rows.ensures ∙ ap g.S.Shown.of (sym (c.cell_at-in-rows.ensures d)) in
    laid_last c.args.bounds c.args.strides.now c.args.part _ c.requires.apart c.requires.within c.max-max.result c.row.p c.row.index c.args.out.now c.row.out c.store-in-rows.new.out c.row.invariant.0 c.of-in-rows.result read c.store-in-rows.ensures
    c.in-None.ensures.next
