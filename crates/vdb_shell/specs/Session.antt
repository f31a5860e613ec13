-- The scene that a session loads, its run, its answers and the scene that it saves.
use Rattle.std.specs.Prelude.{◌≡◌, ℕ, ◌^◌, ◌<◌, ◌≤◌, ◌+◌, Bool, true, false, if◌then◌else◌, List, [], ◌∷◌, ◌++◌, length, take, Option, Some, None}
use Rattle.std.specs.List.{list_any}
use Rattle.vdb_scene.specs.Scene.{Scene}
use Rattle.vdb_scene.specs.Replies.{Reply, Done, Refused, Value, Listing, Slice, Count, Bounds, Census, Pairs}
use Rattle.std.specs.Io.KnownBytes.{Appends, Keeps}
use Rattle.vdb_file.specs.Spelling.{Spells, file_limit, spelling}
use Rattle.vdb_file.specs.declared.fault.SaveFault.TheVariants as faults
use Rattle.vdb_script.specs.Lines.{lines, script_lines, whole_lines}
use Rattle.vdb_script.specs.Run.{Run}
use Rattle.vdb_script.specs.Text.{answers_text, text}
use Rattle.vdb_script.specs.declared.source.ScriptFault.TheVariants as script_faults
use Rattle.vdb_shell.specs.declared.fault.Fault.{Fault}
use Rattle.vdb_shell.specs.declared.fault.Fault.TheVariants.{Load, Script, Answers, Save}
use Rattle.vdb_shell.specs.Files.{Begins, Refuses}

-- whether an answer is an error
abbrev pub is_refused : Reply → Bool
is_refused Done = false
is_refused (Refused r) = true
is_refused (Value cell) = false
is_refused (Listing voxels more) = false
is_refused (Slice rows) = false
is_refused (Count active) = false
is_refused (Bounds box) = false
is_refused (Census counts) = false
is_refused (Pairs pairs) = false

-- the exit status: 3 if nothing was loaded, 4 after another fault, otherwise 1 if a line failed, otherwise 0
abbrev pub status : Bool → Option Fault → ℕ
status refused (Some (Load fault)) = 3
status refused (Some (Script fault)) = 4
status refused (Some Answers) = 4
status refused (Some (Save fault)) = 4
status refused None = if refused then 1 else 0

-- the prefix is the first bytes of the whole
abbrev pub IsPrefixOf : List ℕ → List ℕ → Type 0
IsPrefixOf prefix whole = (rest : List ℕ) × (whole ≡ prefix ++ rest)

-- The run and the written answers of a script, by the fault that ends it: from the scene s, with the bytes that the
-- reader gave and those that were written, these answers and this last scene.
abbrev pub Plays : Scene → List ℕ → Option Fault → List ℕ → List ℕ → List Reply → Scene → Type 0
-- no fault: all lines of a script within the limit
Plays s script None given written replies last =
    (length script ≤ 2 ^ 24) × Run s (lines script) replies last × (written ≡ answers_text replies)
-- a script past the limit: its whole lines within it
Plays s script (Some (Script script_faults.TooLong)) given written replies last =
    (2 ^ 24 < length script) × Run s (whole_lines (take (2 ^ 24) script)) replies last × (written ≡ answers_text replies)
-- a failed reader: the whole lines of the bytes that it gave
Plays s script (Some (Script script_faults.Read)) given written replies last =
    (length given ≤ 2 ^ 24) × Run s (whole_lines given) replies last × (written ≡ answers_text replies)
-- a failed writer: a prefix of the lines that the reader gave; each answer but the last is written whole, and of the last a part
Plays s script (Some Answers) given written replies last =
    (n : ℕ) × (before : List Reply) × (final : Reply) × (part : List ℕ)
    × (n ≤ length (lines given)) × Run s (take n (script_lines script)) replies last
    × (replies ≡ before ++ final ∷ []) × (written ≡ answers_text before ++ part) × IsPrefixOf part (text final)
-- no other fault ends a script
Plays s script (Some (Load fault)) given written replies last = ⊥
Plays s script (Some (Save fault)) given written replies last = ⊥

-- From the scene s on: the answers and the last scene of a run over the script, up to the fault; the reader gives at most
-- one byte past the limit; and whether a line failed.
pub record PlaysFrom (s : Scene) (script : List ℕ) (fault : Option Fault) (any_refused : Bool) (given written : List ℕ) (last : Scene) : Type 0 where
  pub replies : List Reply
  pub plays : Plays s script fault given written replies last
  pub few : length given ≤ 2 ^ 24 + 1
  pub refused : any_refused ≡ list_any is_refused replies

-- a fault of a script or of its answers
abbrev pub IsOfScript : Fault → Type 0
IsOfScript (Load fault) = ⊥
IsOfScript (Script fault) = Unit {0}
IsOfScript Answers = Unit {0}
IsOfScript (Save fault) = ⊥

-- the fault that ended the script: none if saving the scene failed, since the script was played to its end
abbrev pub of_script : Option Fault → Option Fault
of_script (Some (Save fault)) = None
of_script fault = fault

-- whether the script was not reached, since loading failed
abbrev pub IsUnloaded : Option Fault → Type 0
IsUnloaded (Some (Load fault)) = Unit {0}
IsUnloaded _ = ⊥

-- From the scene s on: the script is played, and the status says how the session ended.
pub record PlaysOn (s : Scene) (script : List ℕ) (fault : Option Fault) (code : ℕ) (given written : List ℕ) (last : Scene) : Type 0 where
  pub refused : Bool
  pub plays : PlaysFrom s script (of_script fault) refused given written last
  pub status : code ≡ status refused fault

-- The whole session: if loading failed, nothing is read of the script.
abbrev pub IsSession : Option (List ℕ) → List ℕ → Option Fault → ℕ → List ℕ → List ℕ → Scene → Type 0
IsSession file script (Some (Load fault)) code given written last = Refuses fault file × (code ≡ 3) × (given ≡ []) × (written ≡ [])
IsSession file script fault code given written last = (first : Scene) × Begins file first × PlaysOn first script fault code given written last

-- The saved bytes of the last scene, by the session's fault: the whole encoding; nothing if that is too long or
-- something failed before; and if the writer failed, only that the encoding is within the limit.
abbrev pub Saves : Option Fault → Scene → Option (List ℕ) → Option (List ℕ) → Type 0
Saves None last old new = (bytes : List ℕ) × Spells bytes last × Appends old new bytes
Saves (Some (Save faults.TooLong)) last old new = (file_limit < length (spelling last)) × Keeps old new
Saves (Some (Save faults.Write)) last old new = length (spelling last) ≤ file_limit
Saves (Some fault) last old new = Keeps old new

-- no byte of a file is written
abbrev pub WritesNoFile : Option Fault → Type 0
WritesNoFile None = ⊥
WritesNoFile (Some (Save faults.Write)) = ⊥
WritesNoFile (Some fault) = Unit {0}
