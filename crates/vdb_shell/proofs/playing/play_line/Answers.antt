use Rattle.vdb_shell.proofs.Common.{refl, scene_of}
use Rattle.vdb_shell.proofs.LineSteps.{turn_too_long}
use Rattle.vdb_shell.proofs.playing.play_line.Goals as goal

pub returns-in-Ok-TooLong-clause-line : goal.returns-in-Ok-TooLong-clause-line
returns-in-Ok-TooLong-clause-line g c =
    let found = rw c.in-Ok-TooLong.field-0-is at c.in-Ok-TooLong.ensures.too_long in
    let h = found c.requires.unended refl in
    (h.0, h.1, turn_too_long (scene_of c.args.scene.now) h.0 _ _ _ h.2 c.tell.ensures.refused c.tell.ensures.writes)
