use Rattle.vdb_c.proofs.Common.{◌∙◌, ◌+◌, refl, sym, ap, arith, inl, inr, rules, w32, SFits, to_z-of_z, Coord, both, min_inside, as_field_of, field_of, vdb, along_z, change_of_voxel, rank}
use Rattle.vdb_c.specs.BoxWrites.{WritesBoxUpToIn}
use Rattle.vdb_c.proofs.BoxFields.{writes_all, writes_none}
use Rattle.vdb_c.proofs.Ranks.{rank_last, rank_min, rank_next}
use Rattle.vdb_c.proofs.RowFields.{after_row, code_done, code_failed, count_fits, fewer_after, row_done, row_limit, row_stopped}
use Rattle.vdb_c.proofs.boxes.writes.write_rows.Goals as goal

pub rows-init : goal.rows-init
rows-init g c =
    let b = c.args.bounds in
    let at_min = c.min-p.ensures.corner in
    record {
      inside = rw at_min (min_inside b (both _ _ c.min-p.ensures.bounds).0);
      number = sym (rank_min b c.min-p.result at_min);
      limit = refl;
      field = writes_none b (change_of_voxel g.V.Voxel.KIND b c.args.strides.now c.args.values.now c.args.states.now) g.V.GridValue.as_scalar (field_of vdb c.args.grid.now.tree) 0 refl;
    }

pub overflow_add-count : goal.overflow_add-count
overflow_add-count g c =
    let b = c.args.bounds in
    let inv = c.rows.invariant in
    let n = count_fits b c.rows.p inv.inside (change_of_voxel g.V.Voxel.KIND b c.args.strides.now c.args.values.now c.args.states.now) c.requires.given (as_field_of g.V.GridValue.as_scalar (field_of vdb c.args.grid.now.tree)) c.rows.count inv.number _ _ inv.field _ _ _ _
    c.write_row-code.ensures c.args.strides.now c.requires.apart c.requires.reach in omega (arith, n)

pub returns-then-code-ne-DONE : goal.returns-then-code-ne-DONE
unfolding WritesBoxUpToIn
returns-then-code-ne-DONE g c =
    let b = c.args.bounds in
    let p = c.rows.p in
    let inv = c.rows.invariant in
    let change = change_of_voxel g.V.Voxel.KIND b c.args.strides.now c.args.values.now c.args.states.now in
    let f = as_field_of g.V.GridValue.as_scalar (field_of vdb c.args.grid.now.tree) in
    let h = c.write_row-code.ensures in
    let fits : SFits w32 c.write_row-code.result = search rules in
    let stop = row_stopped b p inv.inside change c.requires.given f c.rows.count inv.number _ _ inv.field _ _ _ _ h (code_failed c.write_row-code.result c.if-code-ne-DONE.true) in
    rw (to_z-of_z w32 c.write_row-code.result fits) (
      row_limit _ (along_z p) _ _ _ _ _ _ _ h ∙ inv.limit,
      inr (stop.0, stop.1, stop.2, after_row b p inv.inside change c.requires.given f c.rows.count inv.number _ _ inv.field _ _ _ _ h, stop.3),
    )

pub rows-smaller : goal.rows-smaller
rows-smaller g c =
    let x : SFits w32 c.row_end.result.x = search rules in
    let y : SFits w32 c.row_end.result.y = search rules in
    let z : SFits w32 c.row_end.result.z = search rules in
    fewer_after c.args.bounds c.rows.p c.rows.invariant.inside c.row_end.result c.in-Some.next c.row_end.ensures.value x y z c.in-Some.ensures.nearer

pub rows-preserved : goal.rows-preserved
rows-preserved g c =
    let b = c.args.bounds in
    let p = c.rows.p in
    let inv = c.rows.invariant in
    let change = change_of_voxel g.V.Voxel.KIND b c.args.strides.now c.args.values.now c.args.states.now in
    let f = as_field_of g.V.GridValue.as_scalar (field_of vdb c.args.grid.now.tree) in
    let h = c.write_row-code.ensures in
    let fits : SFits w32 c.write_row-code.result = search rules in
    record {
      inside = c.in-Some.ensures.next.0;
      number =
          sym (row_done b p inv.inside change c.requires.given f c.rows.count inv.number _ _ inv.field _ _ _ _ h (code_done c.write_row-code.result fits c.if-code-ne-DONE.false))
          ∙ ap (λ (q : Coord). rank b q + 1) (sym c.row_end.ensures.value)
          ∙ sym (rank_next b c.row_end.result c.row_end.ensures.inside c.in-Some.next c.in-Some.ensures.next);
      limit = row_limit _ (along_z p) _ _ _ _ _ _ _ h ∙ inv.limit;
      field = after_row b p inv.inside change c.requires.given f c.rows.count inv.number _ _ inv.field _ _ _ _ h;
    }

pub returns-in-None : goal.returns-in-None
unfolding WritesBoxUpToIn
returns-in-None g c =
    let b = c.args.bounds in
    let p = c.rows.p in
    let inv = c.rows.invariant in
    let change = change_of_voxel g.V.Voxel.KIND b c.args.strides.now c.args.values.now c.args.states.now in
    let f = as_field_of g.V.GridValue.as_scalar (field_of vdb c.args.grid.now.tree) in
    let h = c.write_row-code.ensures in
    let fits : SFits w32 c.write_row-code.result = search rules in
    let size =
    sym (row_done b p inv.inside change c.requires.given f c.rows.count inv.number _ _ inv.field _ _ _ _ h (code_done c.write_row-code.result fits c.if-code-ne-DONE.false))
    ∙ ap (λ (q : Coord). rank b q + 1) (sym c.row_end.ensures.value)
    ∙ rank_last b c.row_end.result c.row_end.ensures.inside c.in-None.ensures.next in (
      row_limit _ (along_z p) _ _ _ _ _ _ _ h ∙ inv.limit,
      inl (
        refl,
        size,
        after_row b p inv.inside change c.requires.given f c.rows.count inv.number _ _ inv.field _ _ _ _ h ∙ writes_all b change f (c.rows.count + c.write_row-code.new.written) size,
      ),
    )
