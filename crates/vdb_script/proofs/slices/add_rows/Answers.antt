use Rattle.vdb_script.proofs.Common.{refl, rules, err_from_is_err_and, row_line}
use Rattle.vdb_script.proofs.Pages.{so_far_cut, so_far_more}
use Rattle.vdb_script.proofs.slices.add_rows.Goals as goal

pub loop-row-preserved : goal.loop-row-preserved
loop-row-preserved g c = record {
  added = so_far_more row_line _ _ _ _ c.in-Some.ensures _ _ _ _ _ _ refl c.loop-row.invariant.added _ c.in_ok-add_row.ensures.adds;
  failed = search rules;
}

pub returns-in_err-add_row-clause-adds : goal.returns-in_err-add_row-clause-adds
returns-in_err-add_row-clause-adds g c =
    let exit = err_from_is_err_and c.from_residual.result c.from_residual.ensures.1 in
    rw exit.1 (so_far_cut row_line _ _ _ _ c.in-Some.ensures _ _ _ _ _ _ refl c.loop-row.invariant.added c.in_err-add_row.ensures.adds)
