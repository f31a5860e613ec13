use Rattle.std.proofs.Common.{◌∙◌, sym, ap, refl, rules, Err, Some}
use Rattle.std.proofs.KnownBytes.{prepend_known-nil}
use Rattle.vdb_scene.specs.Watched.{has_failed, source}
use Rattle.vdb_script.specs.Reading.{Position, ahead, budget}
use Rattle.vdb_shell.proofs.Turns.{ended_at, never_failed, told_cut, told_fault, told_more, told_none}
use Rattle.vdb_shell.proofs.playing.play.Goals as goal

pub lines-init : goal.lines-init
lines-init g c = record {
  told = λ bytes is.
      told_none _ bytes _ _ _ (ap (λ (p : Position). ahead p.source (g.R.Read.remaining (source c.args.script.now))) c.new-lines.ensures ∙ prepend_known-nil _ ∙ is)
      (ap (λ (p : Position). budget p.source) c.new-lines.ensures);
  unended = search rules;
  ends = search rules;
  script = c.requires.script_fresh;
  answers = c.requires.answers_fresh;
  few = search rules;
  once = search rules;
}

pub returns-in-Err-Some-clause-plays : goal.returns-in-Err-Some-clause-plays
returns-in-Err-Some-clause-plays g c = λ bytes is.
    rw (c.in-Err-Some.fault-is, c.in-Err-Some.ensures.silent) (ended_at _ bytes _ _ _ _ _ _ _ c.in-Err-Some.ensures.same
    (told_fault _ bytes _ _ _ _ _ _ (c.lines.invariant.told bytes is) _ _
    (λ e. c.in-Err-Some.ensures.overflow (ap Err (c.in-Err-Some.field-0-is ∙ ap Some e)))
    (λ e. c.in-Err-Some.ensures.read (ap Err (c.in-Err-Some.field-0-is ∙ ap Some e)))
    (λ e ended. never_failed (has_failed c.lines.script) (has_failed c.play_line.new.script) c.in-Err-Some.field-0 c.lines.invariant.script
    (ap has_failed (c.in-Err-Some.ensures.quiet ended)) c.in-Err-Some.ensures.failed (c.in-Err-Some.field-0-is ∙ ap Some e))))

pub returns-then-is_err-clause-plays : goal.returns-then-is_err-clause-plays
returns-then-is_err-clause-plays g c = λ bytes is.
    let h = c.in-Ok.ensures.line in
    told_cut _ bytes _ _ _ _ _ _ (c.lines.invariant.told bytes is) _ _ _ h.0 c.in-Ok.turn _ h.1 h.2 _ refl (sym c.is_err.ensures.value ∙ c.if-is_err.true)

pub lines-preserved : goal.lines-preserved
lines-preserved g c =
    let h = c.in-Ok.ensures.line in
    record {
      told = λ bytes is. told_more _ bytes _ _ _ _ _ _ (c.lines.invariant.told bytes is) _ _ _ h.0 c.in-Ok.turn _ h.1 h.2 (sym c.is_err.ensures.value ∙ c.if-is_err.false);
      unended = search rules;
      ends = search rules;
      script = search rules;
      answers = search rules;
      few = search rules;
      once = search rules;
    }
