use Rattle.vdb_script.proofs.OneRun.{one_run}
use Rattle.vdb_script.proofs.ValidRuns.{run_is}
use Rattle.vdb_script.proofs.laws.run_laws.Goals as goal

pub returns-clause-one_run : goal.returns-clause-one_run
returns-clause-one_run c = one_run

pub returns-clause-valid : goal.returns-clause-valid
returns-clause-valid c = run_is
