use Rattle.vdb_shell.proofs.OneSession.{same_answers, same_saved, same_scene, same_status}
use Rattle.vdb_shell.proofs.ValidSessions.{session_is}
use Rattle.vdb_shell.proofs.laws.session_laws.Goals as goal

pub returns-clause-answers : goal.returns-clause-answers
returns-clause-answers c = same_answers

pub returns-clause-scene : goal.returns-clause-scene
returns-clause-scene c = same_scene

pub returns-clause-saved : goal.returns-clause-saved
returns-clause-saved c = same_saved

pub returns-clause-unsaved : goal.returns-clause-unsaved
returns-clause-unsaved c = same_status

pub returns-clause-valid : goal.returns-clause-valid
returns-clause-valid c = session_is
