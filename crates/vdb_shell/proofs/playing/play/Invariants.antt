use Rattle.vdb_shell.proofs.Common.{◌≡◌, ℕ, ◌+◌, ◌^◌, ◌≤◌, List, Some, None, false, Appends, scene_of, has_failed, source, ahead, budget, answers_text}
use Rattle.vdb_scene.specs.Watched.{bytes_given, empty_reads}
use Rattle.vdb_script.specs.Reading.{EndsWith, end_count}
use Rattle.vdb_shell.proofs.Told.{Handed}
use Rattle.vdb_shell.proofs.playing.play.Given as goal

-- the yielded part of the script so far, and the answers to it
abbrev pub invariant-lines : goal.invariant-lines
invariant-lines g l = record {
  told : (bytes : List ℕ) → g.R.Read.remaining (source l.fn.script) ≡ Some bytes →
      (h : Handed (scene_of l.fn.scene) bytes (ahead l.lines.source (g.R.Read.remaining (source l.script))) l.lines.source (scene_of l.scene) l.refused)
      × Appends (g.W.Write.contents (source l.fn.answers)) (g.W.Write.contents (source l.answers)) (answers_text h.replies);
  unended : l.lines.ending ≡ None;
  ends : EndsWith l.lines.source (g.R.Read.remaining (source l.script));
  script : has_failed l.script ≡ false;
  answers : has_failed l.answers ≡ false;
  few : bytes_given l.script + l.lines.source.left ≤ bytes_given l.fn.script + 2 ^ 24;
  once : empty_reads l.script ≤ empty_reads l.fn.script + end_count l.lines.source;
}

abbrev pub decreases-lines : goal.decreases-lines
decreases-lines g l = budget l.lines.source
