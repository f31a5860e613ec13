use Rattle.vdb_c.proofs.Common.{◌≡◌, ◌∙◌, ◌+◌, ◌<◌, refl, sym, ap, subst, ℕ, ℤ, pos, ◌+ℤ◌, arith, inl, inr, rules, w32, to_z, of_z, SFits, int_gap, IsSome, to_z-of_z, coord, along_z, change_of_voxel, place, change_at}
use Rattle.vdb_c.specs.Many.{WritesFirstIn}
use Rattle.vdb_c.proofs.ManyWrites.{one_done, one_refused}
use Rattle.vdb_c.proofs.RowFields.{at_start, next_fits, next_in_row, next_z_fits, one_more_z, row_ends, row_inside, same_coord}
use Rattle.vdb_c.proofs.boxes.writes.write_row.Goals as goal

pub voxels-init : goal.voxels-init
voxels-init g c =
    let z : SFits w32 c.args.p.z = search rules in
    record {
      below = let size = c.row_size-size.ensures.value in omega (arith, size);
      z = to_z-of_z w32 c.args.p.z z ∙ sym (at_start c.args.p.z);
      element = c.place-index.ensures ∙ ap (λ (z : ℤ). place c.args.bounds c.args.strides.now (coord c.args.p.x c.args.p.y z)) (sym (at_start c.args.p.z));
      limit = refl;
      field = refl;
    }

pub overflow_add-count : goal.overflow_add-count
overflow_add-count g c = let l = c.voxels.invariant.below in let small = c.row_size-size.ensures.small in omega (arith, l, small)

pub overflow_add-z : goal.overflow_add-z
overflow_add-z g c =
    let inv = c.voxels.invariant in
    let size = c.row_size-size.ensures.value in
    let l = inv.below in
    let more = c.if-count-size.false in
    let low : SFits w32 c.args.p.z = search rules in
    let high : SFits w32 c.args.bounds.max.z = search rules in
    next_z_fits c.args.bounds c.args.p c.requires.inside c.voxels.count _ inv.z (omega (arith, l, more, size)) low high

pub overflow_add-index : goal.overflow_add-index
overflow_add-index g c =
    let inv = c.voxels.invariant in
    let size = c.row_size-size.ensures.value in
    let l = inv.below in
    let more = c.if-count-size.false in
    let fits = next_fits c.args.bounds c.args.p c.requires.inside c.args.strides.now c.voxels.count c.voxels.index inv.element (omega (arith, l, more, size)) c.requires.reach in
    omega (arith, fits)

pub voxels-preserved : goal.voxels-preserved
voxels-preserved g c =
    let b = c.args.bounds in
    let s = c.args.strides.now in
    let p = c.args.p in
    let n = c.voxels.count in
    let inv = c.voxels.invariant in
    let x : SFits w32 c.args.p.x = search rules in
    let y : SFits w32 c.args.p.y = search rules in
    let row = λ (i : ℕ). change_of_voxel g.V.Voxel.KIND b s c.args.values.now c.args.states.now (along_z p i) in
    let is : change_at g.V.Voxel.KIND c.args.values.now c.args.states.now c.voxels.index ≡ row n = ap (change_at g.V.Voxel.KIND c.args.values.now c.args.states.now) inv.element in
    let below : n < int_gap p.z b.max.z + 1 = let size = c.row_size-size.ensures.value in let l = inv.below in omega (arith, size, l) in
    let given = subst IsSome (sym is) (c.requires.given (along_z p n) (row_inside b p c.requires.inside n (row_ends b p c.requires.inside n below))) in
    let here = same_coord _ _ _ (along_z p n) (to_z-of_z w32 c.args.p.x x) (to_z-of_z w32 c.args.p.y y) inv.z in
    let made = c.write_element-outcome.ensures in
    let l = inv.below in
    let more = c.if-count-size.false in
    let size = c.row_size-size.ensures.value in
    let low : SFits w32 c.args.p.z = search rules in
    let high : SFits w32 c.args.bounds.max.z = search rules in
    let fits = next_z_fits b p c.requires.inside n _ inv.z (omega (arith, l, more, size)) low high in
    record {
      below = omega (arith, l, more);
      z = to_z-of_z w32 _ fits ∙ ap (λ (m : ℤ). m +ℤ pos 1) inv.z ∙ one_more_z p.z n;
      element = next_in_row b p c.requires.inside s n c.voxels.index inv.element;
      limit = made.limit ∙ inv.limit;
      field = one_done (along_z p) row n _ here _ is _ _ _ inv.field c.voxels.grid.tree.limit c.write_element-outcome.result (sym c.is_err.ensures.value ∙ c.if-is_err.false) (made.outcome given);
    }

pub returns-then-count-size : goal.returns-then-count-size
unfolding WritesFirstIn
returns-then-count-size g c =
    let b = c.args.bounds in
    let s = c.args.strides.now in
    let p = c.args.p in
    let n = c.voxels.count in
    let inv = c.voxels.invariant in
    let x : SFits w32 c.args.p.x = search rules in
    let y : SFits w32 c.args.p.y = search rules in
    let row = λ (i : ℕ). change_of_voxel g.V.Voxel.KIND b s c.args.values.now c.args.states.now (along_z p i) in
    let is : change_at g.V.Voxel.KIND c.args.values.now c.args.states.now c.voxels.index ≡ row n = ap (change_at g.V.Voxel.KIND c.args.values.now c.args.states.now) inv.element in
    let below : n < int_gap p.z b.max.z + 1 = let size = c.row_size-size.ensures.value in let l = inv.below in omega (arith, size, l) in
    let given = subst IsSome (sym is) (c.requires.given (along_z p n) (row_inside b p c.requires.inside n (row_ends b p c.requires.inside n below))) in
    let here = same_coord _ _ _ (along_z p n) (to_z-of_z w32 c.args.p.x x) (to_z-of_z w32 c.args.p.y y) inv.z in
    let made = c.write_element-outcome.ensures in
    let done = one_done (along_z p) row n _ here _ is _ _ _ inv.field c.voxels.grid.tree.limit c.write_element-outcome.result (sym c.is_err.ensures.value ∙ c.if-is_err.false) (made.outcome given) in
    (made.limit ∙ inv.limit, done, inl (refl, c.if-count-size.true ∙ c.row_size-size.ensures.value))

pub returns-then-is_err : goal.returns-then-is_err
unfolding WritesFirstIn
returns-then-is_err g c =
    let b = c.args.bounds in
    let s = c.args.strides.now in
    let p = c.args.p in
    let n = c.voxels.count in
    let inv = c.voxels.invariant in
    let x : SFits w32 c.args.p.x = search rules in
    let y : SFits w32 c.args.p.y = search rules in
    let row = λ (i : ℕ). change_of_voxel g.V.Voxel.KIND b s c.args.values.now c.args.states.now (along_z p i) in
    let is : change_at g.V.Voxel.KIND c.args.values.now c.args.states.now c.voxels.index ≡ row n = ap (change_at g.V.Voxel.KIND c.args.values.now c.args.states.now) inv.element in
    let below : n < int_gap p.z b.max.z + 1 = let size = c.row_size-size.ensures.value in let l = inv.below in omega (arith, size, l) in
    let given = subst IsSome (sym is) (c.requires.given (along_z p n) (row_inside b p c.requires.inside n (row_ends b p c.requires.inside n below))) in
    let here = same_coord _ _ _ (along_z p n) (to_z-of_z w32 c.args.p.x x) (to_z-of_z w32 c.args.p.y y) inv.z in
    let made = c.write_element-outcome.ensures in
    let fits : SFits w32 c.tree_code.result = search rules in
    let refused =
    one_refused (along_z p) row n _ here _ is _ _ _ inv.field c.voxels.grid.tree.limit c.write_element-outcome.result (sym c.is_err.ensures.value ∙ c.if-is_err.true)
    (to_z w32 (of_z w32 c.tree_code.result)) (to_z-of_z w32 c.tree_code.result fits ∙ c.tree_code.ensures) (made.outcome given) c.write_element-outcome.new.grid.tree.limit made.limit in
    (made.limit ∙ inv.limit, refused.0, inr (below, refused.1))
