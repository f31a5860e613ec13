use Rattle.vdb_script.proofs.Common.{◌∙◌, rules, ◌∷◌, err_from_is_err_and, cell_text}
use Rattle.vdb_script.proofs.Pages.{so_far_cut, so_far_more}
use Rattle.vdb_script.proofs.slices.add_cells.Goals as goal

pub loop-cell-preserved : goal.loop-cell-preserved
loop-cell-preserved g c = record {
  added = so_far_more (λ cell. 32 ∷ cell_text cell) _ _ _ _ c.in-Some.ensures.0 _ _ _ _ _ _ (c.as_slice.ensures.value ∙ c.spaced_cell.ensures) c.loop-cell.invariant.added _ c.in_ok-add.ensures.adds;
  failed = search rules;
}

pub returns-in_err-add-clause-adds : goal.returns-in_err-add-clause-adds
returns-in_err-add-clause-adds g c =
    let exit = err_from_is_err_and c.from_residual.result c.from_residual.ensures.1 in
    rw exit.1 (so_far_cut (λ cell. 32 ∷ cell_text cell) _ _ _ _ c.in-Some.ensures.0 _ _ _ _ _ _ (c.as_slice.ensures.value ∙ c.spaced_cell.ensures) c.loop-cell.invariant.added c.in_err-add.ensures.adds)
