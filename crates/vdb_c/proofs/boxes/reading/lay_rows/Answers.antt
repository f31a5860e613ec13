use Rattle.vdb_c.proofs.Common.{refl, rules, SFits, w32, both, min_inside, cell_in}
use Rattle.vdb_c.proofs.CopiedRows.{row_copied, row_in_leaf, row_keeps_size, row_room, rows_all, rows_next, rows_none}
use Rattle.vdb_c.proofs.RowFields.{fewer_after}
use Rattle.vdb_c.proofs.boxes.reading.lay_rows.Goals as goal

pub rows-init : goal.rows-init
rows-init g c =
    let at_min = c.min-p.ensures.corner in
    record {
      inside = rw at_min (min_inside c.args.part (both _ _ c.min-p.ensures.bounds).0);
      size = refl;
      laid = λ d. rows_none c.args.bounds c.args.strides.now c.args.part _ c.args.out.now c.min-p.result at_min;
    }

pub overflow_add-behind : goal.overflow_add-behind
overflow_add-behind g c =
    let room = row_room c.args.bounds c.args.strides.now c.requires.apart c.requires.along c.args.part c.requires.within c.requires.block c.rows.p c.rows.invariant.inside c.args.out.now c.rows.out c.requires.places c.rows.invariant.size
    c.place-first.result c.row_size.result c.place-first.ensures c.row_size.ensures.value in search rules

pub offset_bounds-out-first : goal.offset_bounds-out-first
offset_bounds-out-first g c =
    let room = row_room c.args.bounds c.args.strides.now c.requires.apart c.requires.along c.args.part c.requires.within c.requires.block c.rows.p c.rows.invariant.inside c.args.out.now c.rows.out c.requires.places c.rows.invariant.size
    c.place-first.result c.row_size.result c.place-first.ensures c.row_size.ensures.value in search rules

pub slice_bounds-copy_row-end : goal.slice_bounds-copy_row-end
slice_bounds-copy_row-end g c =
    let room = row_room c.args.bounds c.args.strides.now c.requires.apart c.requires.along c.args.part c.requires.within c.requires.block c.rows.p c.rows.invariant.inside c.args.out.now c.rows.out c.requires.places c.rows.invariant.size
    c.place-first.result c.row_size.result c.place-first.ensures c.row_size.ensures.value in search rules

pub copy_row-requires : goal.copy_row-requires
copy_row-requires g c = row_in_leaf c.args.bounds c.args.strides.now c.requires.apart c.requires.along c.args.part c.requires.within c.requires.block c.rows.p c.rows.invariant.inside c.args.out.now c.rows.out c.requires.places c.rows.invariant.size
    c.place-first.result c.row_size.result c.place-first.ensures c.row_size.ensures.value c.offset.result c.offset.ensures.value

pub rows-smaller : goal.rows-smaller
rows-smaller g c =
    let x : SFits w32 c.row_end.result.x = search rules in
    let y : SFits w32 c.row_end.result.y = search rules in
    let z : SFits w32 c.row_end.result.z = search rules in
    fewer_after c.args.part c.rows.p c.rows.invariant.inside c.row_end.result c.in-Some.next c.row_end.ensures.value x y z c.in-Some.ensures.nearer

pub rows-preserved : goal.rows-preserved
rows-preserved g c = record {
  inside = c.in-Some.ensures.next.0;
  size = row_keeps_size c.args.bounds c.args.strides.now c.requires.apart c.requires.along c.args.part c.requires.within c.requires.block c.rows.p c.rows.invariant.inside c.args.out.now c.rows.out c.requires.places c.rows.invariant.size
      c.place-first.result c.row_size.result c.place-first.ensures c.row_size.ensures.value c.offset.result c.offset.ensures.value c.copy_row.new.into c.copy_row.ensures.length;
  laid = λ d. rows_next c.args.bounds c.args.strides.now c.args.part _ c.row_end.result c.row_end.ensures.inside c.args.out.now _
      (row_copied c.args.bounds c.args.strides.now c.requires.apart c.requires.along c.args.part c.requires.within c.requires.block c.rows.p c.rows.invariant.inside c.args.out.now c.rows.out c.requires.places c.rows.invariant.size
      c.place-first.result c.row_size.result c.place-first.ensures c.row_size.ensures.value c.offset.result c.offset.ensures.value c.copy_row.new.into c.copy_row.ensures.length
      (λ i. g.S.Shown.of (cell_in d c.args.leaf.now i)) (c.copy_row.ensures.elements d) c.row_end.result c.row_end.ensures.value (c.rows.invariant.laid d))
      c.in-Some.next c.in-Some.ensures.next;
}

pub returns-in-None : goal.returns-in-None
returns-in-None g c = λ d.
    rows_all c.args.bounds c.args.strides.now c.args.part _ c.row_end.result c.row_end.ensures.inside c.args.out.now _
    (row_copied c.args.bounds c.args.strides.now c.requires.apart c.requires.along c.args.part c.requires.within c.requires.block c.rows.p c.rows.invariant.inside c.args.out.now c.rows.out c.requires.places c.rows.invariant.size
    c.place-first.result c.row_size.result c.place-first.ensures c.row_size.ensures.value c.offset.result c.offset.ensures.value c.copy_row.new.into c.copy_row.ensures.length
    (λ i. g.S.Shown.of (cell_in d c.args.leaf.now i)) (c.copy_row.ensures.elements d) c.row_end.result c.row_end.ensures.value (c.rows.invariant.laid d))
    c.in-None.ensures.next
