use Rattle.vdb_script.proofs.Common.{ap, sym, ℕ, List, ◌++◌, err_from_is_err_and}
use Rattle.vdb_script.proofs.Pages.{cut_before}
use Rattle.vdb_script.proofs.output.add.Goals as goal

pub returns-in_err-write_bytes-clause-adds : goal.returns-in_err-write_bytes-clause-adds
returns-in_err-write_bytes-clause-adds g c =
    let exit = err_from_is_err_and c.from_residual.result c.from_residual.ensures.1 in
    rw exit.1 (cut_before _ _ _ _ _ c.in_err-write_bytes.ensures.writes (ap (λ (l : List ℕ). l ++ c.args.part.now) (sym c.as_slice.ensures.value)))
