use Rattle.vdb_script.proofs.Common.{◌∙◌, err_from_is_err_and}
use Rattle.vdb_script.proofs.RowLines.{adds_row, cut_at_cells, cut_at_head}
use Rattle.vdb_script.proofs.slices.add_row.Goals as goal

pub returns-in_err-add-clause-adds : goal.returns-in_err-add-clause-adds
returns-in_err-add-clause-adds g c =
    let exit = err_from_is_err_and c.from_residual.result c.from_residual.ensures.1 in
    rw exit.1 (cut_at_head _ _ _ _ _ (c.as_slice.ensures.value ∙ c.row_head.ensures) c.in_err-add.ensures.adds)

pub returns-in_err-add_cells-clause-adds : goal.returns-in_err-add_cells-clause-adds
returns-in_err-add_cells-clause-adds g c =
    let exit = err_from_is_err_and c.from_residual-in_err-add_cells.result c.from_residual-in_err-add_cells.ensures.1 in
    rw exit.1 (cut_at_cells _ _ _ _ _ (c.as_slice.ensures.value ∙ c.row_head.ensures) _ _ c.in_ok-add.ensures.adds c.in_err-add_cells.ensures.adds)

pub returns-clause-adds : goal.returns-clause-adds
returns-clause-adds g c =
    adds_row _ _ _ _ _ (c.as_slice.ensures.value ∙ c.row_head.ensures) _ _ c.in_ok-add.ensures.adds _ _ c.in_ok-add_cells.ensures.adds _ _ c.add-2.ensures.adds
