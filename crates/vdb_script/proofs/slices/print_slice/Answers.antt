use Rattle.vdb_script.proofs.Common.{◌∙◌, ap, codes, ℕ, err_from_is_err_and, last_line}
use Rattle.vdb_script.proofs.Pages.{cut_at_items, cut_at_last, writes_all}
use Rattle.vdb_script.proofs.slices.print_slice.Goals as goal

pub returns-in_err-add_rows-clause-writes : goal.returns-in_err-add_rows-clause-writes
returns-in_err-add_rows-clause-writes g c =
    let exit = err_from_is_err_and c.from_residual.result c.from_residual.ensures.1 in
    rw exit.1 (cut_at_items _ _ _ _ _ c.new-page.ensures c.in_err-add_rows.ensures.adds)

pub returns-in_err-add-clause-writes : goal.returns-in_err-add-clause-writes
returns-in_err-add-clause-writes g c =
    let exit = err_from_is_err_and c.from_residual-in_err-add.result c.from_residual-in_err-add.ensures.1 in
    let line = c.as_slice.ensures.value ∙ c.end_line.ensures ∙ ap (λ (n : ℕ). last_line (codes "end") n) c.len-count.ensures in
    rw exit.1 (cut_at_last _ _ _ _ _ c.new-page.ensures _ _ _ line c.in_ok-add_rows.ensures.adds c.in_err-add.ensures.adds)

pub returns-clause-writes : goal.returns-clause-writes
returns-clause-writes g c =
    let line = c.as_slice.ensures.value ∙ c.end_line.ensures ∙ ap (λ (n : ℕ). last_line (codes "end") n) c.len-count.ensures in
    writes_all _ _ _ _ _ c.new-page.ensures _ _ _ line c.in_ok-add_rows.ensures.adds _ _ _ c.in_ok-add.ensures.adds c.as_slice-2.ensures.value _ c.write_bytes.ensures.writes
