-- The names that most proofs of this crate cite, passed on from one place. It declares nothing.
pub use Rattle.std.proofs.Common.{Bool, Err, List, None, Ok, Option, Result, Some, [], ap, append-nil, append_assoc, arith, codes, cond, false, inl, inr, length, length-append, refl, subst, sym, take, true, ℕ, ◌++◌, ◌+◌, ◌<◌, ◌^◌, ◌||◌, ◌∙◌, ◌∷◌, ◌≡◌, ◌≤◌}
pub use Rattle.std.proofs.KnownBytes.{Appends-nil}
pub use Rattle.std.proofs.Math.Seq.{take-append_seam}
pub use Rattle.std.specs.Io.KnownBytes.{Appends, Consumes, Keeps, prepend_known}
pub use Rattle.std.specs.List.{list_any}
pub use Rattle.clap.specs.Words.{Text, fault_of}
pub use Rattle.vdb_file.specs.Spelling.{IsFileOf}
pub use Rattle.vdb_file.specs.declared.fault.LoadFault.{LoadFault}
pub use Rattle.vdb_file.specs.declared.fault.SaveFault.{SaveFault}
pub use Rattle.vdb_scene.specs.Grids.{scene_of}
pub use Rattle.vdb_scene.specs.Replies.{Refused, Reply}
pub use Rattle.vdb_scene.specs.Scene.{Scene}
pub use Rattle.vdb_scene.specs.ValidScenes.{IsScene}
pub use Rattle.vdb_scene.specs.Watched.{has_failed, source}
pub use Rattle.vdb_script.specs.Lines.{lines, script_lines, whole_lines}
pub use Rattle.vdb_script.specs.Reading.{Stock, YieldsLine, YieldsPart, YieldsTooMuch, ahead, budget, line_end}
pub use Rattle.vdb_script.specs.Run.{NoMemoryError, Run, TakesLine, read}
pub use Rattle.vdb_script.specs.Text.{answers_text, text}
pub use Rattle.vdb_script.specs.declared.output.WriteFault.{WriteFault}
pub use Rattle.vdb_shell.specs.CommandLine.{given, program}
pub use Rattle.vdb_shell.specs.Determined.{IsUndisturbed}
pub use Rattle.vdb_shell.specs.Files.{Begins}
pub use Rattle.vdb_shell.specs.Session.{IsSession, IsUnloaded, Plays, PlaysFrom, PlaysOn, Saves, is_refused, of_script, status}
pub use Rattle.vdb_shell.specs.declared.fault.Fault.{Fault}
pub use Rattle.vdb_shell.specs.declared.fault.Fault.TheVariants.{Answers, Load, Save, Script}
pub use Rattle.vdb_shell.specs.declared.playing.Turn.{Turn}
pub use Rattle.vdb_shell.specs.internal.Answering.{GoesOut, TakesTurn}
