use Rattle.vdb_script.proofs.Common.{◌≡◌, ◌∙◌, ap, arith, rules, List, suc, length, take, err_from_is_err_and, Coord, listed_of, Scalar, voxel_line}
use Rattle.vdb_script.proofs.Yielding.{behind_next, next_of}
use Rattle.vdb_script.proofs.Pages.{so_far_cut, so_far_more}
use Rattle.vdb_script.proofs.lists.add_voxels.Goals as goal

pub returns-in_err-add-clause-adds : goal.returns-in_err-add-clause-adds
returns-in_err-add-clause-adds g c =
    let exit = err_from_is_err_and c.from_residual.result c.from_residual.ensures.1 in
    let next = next_of (listed_of c.loop-voxel.listing) (listed_of c.next.new.self) c.in-Some.voxel c.in-Some.ensures in
    rw exit.1 (so_far_cut voxel_line _ _ _ _ next _ _ _ _ _ _ (c.as_slice.ensures.value ∙ c.voxel_text.ensures) c.loop-voxel.invariant.added c.in_err-add.ensures.adds)

pub loop-voxel-preserved : goal.loop-voxel-preserved
loop-voxel-preserved g c =
    let old = listed_of c.loop-voxel.listing in
    let new = listed_of c.next.new.self in
    let next = next_of old new c.in-Some.voxel c.in-Some.ensures in
    let left : old.left ≡ suc new.left = c.in-Some.ensures.1 in
    let fewer : length (take old.left old.rest) ≡ suc (length (take new.left new.rest)) = ap (λ (l : List (Coord × Scalar)). length l) next in
    record {
      added = so_far_more voxel_line _ _ _ _ next _ _ _ _ _ _ (c.as_slice.ensures.value ∙ c.voxel_text.ensures) c.loop-voxel.invariant.added _ c.in_ok-add.ensures.adds;
      limit = omega (arith, left, c.loop-voxel.invariant.limit);
      many = omega (arith, fewer, c.loop-voxel.invariant.many);
      rest = behind_next old new c.in-Some.voxel c.in-Some.ensures ∙ c.loop-voxel.invariant.rest;
      failed = search rules;
    }
