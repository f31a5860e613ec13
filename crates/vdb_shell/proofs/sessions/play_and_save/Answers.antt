use Rattle.std.proofs.Common.{◌∙◌, refl, sym}
use Rattle.vdb_shell.proofs.Parts.{not_some, plays_unsaved}
use Rattle.vdb_shell.proofs.sessions.play_and_save.Goals as goal

pub returns-in-Err-clause-plays : goal.returns-in-Err-clause-plays
returns-in-Err-clause-plays g c = λ bytes is.
    let h = c.play-played.ensures.plays bytes is in (
      h.0,
      h.1,
      h.2,
      h.3,
      plays_unsaved _ bytes c.ended-in-Err.result.fault c.play-played.result.fault c.in-Err.fault c.ended-in-Err.result.status c.play-played.result.refused h.0 h.1 _
          c.ended-in-Err.ensures.fault (not_some _ (sym c.is_some.ensures ∙ c.if-is_some.false)) c.ended-in-Err.ensures.status h.4,
    )

pub returns-in-Err-clause-nowhere : goal.returns-in-Err-clause-nowhere
returns-in-Err-clause-nowhere g c = λ fault is. c.in-Err.ensures.nowhere refl
