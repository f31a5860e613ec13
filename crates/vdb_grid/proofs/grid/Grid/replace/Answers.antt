use Rattle.std.proofs.lemmas.Result.{err_from_is_err_and}
use Rattle.vdb_grid.proofs.grid.Grid.replace.Goals as goal

pub invariant_of-self : goal.invariant_of-self
invariant_of-self g c = rw c.in_err-replace.ensures.kept c.self.invariant

pub returns-in_err-replace-clause-outcome : goal.returns-in_err-replace-clause-outcome
returns-in_err-replace-clause-outcome g c =
    let exit = err_from_is_err_and c.from_residual.result c.from_residual.ensures.1 in
    rw (← c.self.view_is, exit.1, exit.2) c.in_err-replace.ensures.outcome

pub returns-clause-outcome : goal.returns-clause-outcome
returns-clause-outcome g c = rw (← c.self.view_is) c.in_ok-replace.ensures.outcome
