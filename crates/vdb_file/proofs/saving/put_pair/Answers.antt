use Rattle.vdb_file.proofs.Common.{◌∙◌, ◌++◌, sym, ap, on_ok_weaker, counted}
use Rattle.vdb_file.proofs.Outputs.{puts_same}
use Rattle.vdb_file.proofs.Passing.{same_some}
use Rattle.vdb_file.proofs.saving.put_pair.Goals as goal

pub returns-clause-puts : goal.returns-clause-puts
returns-clause-puts g c pair h =
    let e = same_some _ _ (sym c.pair.ensures.pair ∙ h) in
    on_ok_weaker c.put_text.result (λ k. puts_same _ _ _ _ (ap (λ p. counted p.0 ++ counted p.1) e) k) c.put_text.ensures.puts
