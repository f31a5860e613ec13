use Rattle.vdb_shell.proofs.Common.{ap, ◌∙◌, status}
use Rattle.vdb_shell.proofs.Parts.{completed}
use Rattle.vdb_shell.proofs.sessions.ended.Goals as goal

pub returns-clause-completed : goal.returns-clause-completed
returns-clause-completed c = λ none. completed c.args.refused c.args.fault _ (c.status.ensures ∙ ap (status c.args.refused) c.as_ref.ensures.value) none
