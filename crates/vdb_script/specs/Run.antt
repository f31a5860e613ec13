-- Runs over the lines of a script.
use Rattle.std.specs.Prelude.{◌≡◌, ◌≢◌, ℕ, if◌then◌else◌, nat_lt, List, [], ◌∷◌, ◌++◌, length, Option, Some, None, Result, Ok, Err}
use Rattle.std.specs.List.{AllByRecursion}
use Rattle.vdb_scene.specs.Scene.{Scene}
use Rattle.vdb_scene.specs.Replies.{Reply, Refused}
use Rattle.vdb_scene.specs.Step.{Step}
use Rattle.vdb_scene.specs.declared.command.Command.{Command}
use Rattle.vdb_scene.specs.declared.answer.Refusal.{Refusal}
use Rattle.vdb_scene.specs.declared.answer.Refusal.TheVariants as refusals
use Rattle.vdb_script.specs.Grammar.{parse}

-- a line's command, if it has one, or the error that it has on its own
abbrev pub read : List ℕ → Result (Option Command) Refusal
read line = if nat_lt 256 (length line) then Err refusals.LineTooLong else parse line

-- the step of such a line: nothing, the step of its command, or an error
abbrev pub TakesLine : Scene → Result (Option Command) Refusal → List Reply → Scene → Type 0
TakesLine s (Ok None) replies next = (replies ≡ []) × (next ≡ s)
TakesLine s (Ok (Some c)) replies next = (reply : Reply) × (replies ≡ reply ∷ []) × Step s c reply next
TakesLine s (Err r) replies next = (replies ≡ Refused r ∷ []) × (next ≡ s)

-- the steps of the lines, one after another
abbrev pub Run : Scene → List (List ℕ) → List Reply → Scene → Type 0
Run s [] replies last = (replies ≡ []) × (last ≡ s)
Run s (line ∷ lines) replies last =
    (first : List Reply) × (rest : List Reply) × (next : Scene) × (replies ≡ first ++ rest) × TakesLine s (read line) first next × Run next lines rest last

-- no answer is `error memory`
abbrev pub NoMemoryError : List Reply → Type 0
NoMemoryError replies = AllByRecursion (λ reply. reply ≢ Refused refusals.Memory) replies
