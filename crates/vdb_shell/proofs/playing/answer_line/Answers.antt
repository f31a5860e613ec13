use Rattle.vdb_shell.proofs.Common.{◌∙◌, sym, ap, Ok, scene_of}
use Rattle.vdb_shell.proofs.LineSteps.{turn_applied, turn_refused}
use Rattle.vdb_shell.proofs.playing.answer_line.Goals as goal

pub returns-in-Ok-Some-clause-turn : goal.returns-in-Ok-Some-clause-turn
returns-in-Ok-Some-clause-turn g c =
    turn_applied (scene_of c.args.scene.now) c.args.line.now _ _ _ c.apply.result c.tell.ensures.refused c.tell.ensures.writes
    c.in-Ok-Some.command (scene_of c.apply.follows.lender-at-none) c.requires (sym c.parse.ensures ∙ c.in-Ok-Some.is ∙ ap Ok c.in-Ok-Some.field-0-is) c.apply.follows.holds-at-none.0

pub returns-in-Err-clause-turn : goal.returns-in-Err-clause-turn
returns-in-Err-clause-turn g c =
    turn_refused (scene_of c.args.scene.now) c.args.line.now _ _ _ c.in-Err.refusal c.requires (sym c.parse.ensures ∙ c.in-Err.is) c.tell-in-Err.ensures.refused c.tell-in-Err.ensures.writes
