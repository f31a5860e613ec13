use Rattle.vdb_scene.proofs.ValidSteps.{empty_is, inserted_is, step_is}
use Rattle.vdb_scene.proofs.laws.scene_laws.Goals as goal

pub returns-clause-empty : goal.returns-clause-empty
returns-clause-empty c = empty_is

pub returns-clause-step : goal.returns-clause-step
returns-clause-step c = step_is

pub returns-clause-inserted : goal.returns-clause-inserted
returns-clause-inserted c = inserted_is
