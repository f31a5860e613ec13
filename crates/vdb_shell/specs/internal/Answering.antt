-- The answers of a line that is carried out.
use Rattle.std.specs.Prelude.{◌≡◌, ℕ, Bool, true, false, List, [], ◌∷◌, Option, Some, None, Result, Ok, Err}
use Rattle.std.specs.List.{list_any}
use Rattle.std.specs.Io.KnownBytes.{Appends}
use Rattle.vdb_scene.specs.Scene.{Scene}
use Rattle.vdb_scene.specs.Replies.{Reply}
use Rattle.vdb_script.specs.Run.{TakesLine, read}
use Rattle.vdb_script.specs.Text.{answers_text, text}
use Rattle.vdb_script.specs.Writing.{HasCut}
use Rattle.vdb_script.specs.declared.source.ScriptFault.{ScriptFault}
use Rattle.vdb_script.specs.declared.source.ScriptFault.TheVariants.{Read, TooLong}
use Rattle.vdb_shell.specs.Session.{is_refused}
use Rattle.vdb_shell.specs.declared.playing.Turn.{Turn}

-- the answers of a line were written, or at a fault a prefix of the only one
abbrev pub GoesOut : {A E : Type 0} → Option (List ℕ) → Option (List ℕ) → Result A E → List Reply → Type 0
GoesOut old new (Ok a) replies = Appends old new (answers_text replies)
GoesOut old new (Err e) replies = (reply : Reply) × (replies ≡ reply ∷ []) × HasCut old new (text reply)

-- a line is carried out, from one scene and one text of answers to the next
pub record TakesTurn (s : Scene) (line : List ℕ) (turn : Turn) (old new : Option (List ℕ)) (next : Scene) : Type 0 where
  pub replies : List Reply
  pub takes : TakesLine s (read line) replies next
  pub out : GoesOut old new turn.written replies
  pub refused : turn.refused ≡ list_any is_refused replies

-- whether a script ended because its reader failed
abbrev pub is_read_ending : {A : Type 0} → Result A (Option ScriptFault) → Bool
is_read_ending (Ok a) = false
is_read_ending (Err None) = false
is_read_ending (Err (Some Read)) = true
is_read_ending (Err (Some TooLong)) = false

-- how many bytes past the script's limit the reader gave: 1 if the script is too long, otherwise 0
abbrev pub excess_at_end : {A : Type 0} → Result A (Option ScriptFault) → ℕ
excess_at_end (Ok a) = 0
excess_at_end (Err None) = 0
excess_at_end (Err (Some Read)) = 0
excess_at_end (Err (Some TooLong)) = 1
