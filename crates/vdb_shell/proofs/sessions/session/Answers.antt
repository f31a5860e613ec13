use Rattle.vdb_shell.proofs.Common.{refl, sym, subst, [], Some, Consumes, Appends-nil, scene_of, IsUnloaded}
use Rattle.vdb_shell.proofs.Parts.{loaded_session, saves_nothing, unloaded}
use Rattle.vdb_shell.proofs.sessions.session.Goals as goal

pub returns-in-Err-clause-session : goal.returns-in-Err-clause-session
returns-in-Err-clause-session g c = λ file given bytes is. (
  [],
  [],
  [],
  subst (λ known. Consumes (Some bytes) known []) (sym is) refl,
  Appends-nil _,
  unloaded file bytes c.ended.result.fault c.in-Err.fault c.ended.result.status [] c.ended.ensures.fault (c.in-Err.ensures.refuses file given) c.ended.ensures.status,
  saves_nothing _ c.ended.result.fault c.in-Err.fault [] _ c.ended.ensures.fault,
)

pub returns-in-Ok-clause-session : goal.returns-in-Ok-clause-session
returns-in-Ok-clause-session g c = λ file given bytes is.
    let played = c.play_and_save.ensures.plays bytes is in
    let last = scene_of c.play_and_save.new.scene in (
      played.0,
      played.1,
      last,
      played.2,
      played.3,
      loaded_session file bytes c.play_and_save.result.fault c.play_and_save.result.status played.0 played.1 last c.play_and_save.ensures.loaded (scene_of c.in-Ok.scene) (c.in-Ok.ensures.begins file given) played.4,
      c.play_and_save.ensures.saves,
    )

pub returns-in-Err-clause-load_ended : goal.returns-in-Err-clause-load_ended
returns-in-Err-clause-load_ended g c = λ loaded. absurd (loaded (subst IsUnloaded (sym c.ended.ensures.fault) tt))
