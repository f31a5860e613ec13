-- Sessions whose outcome depends on nothing but the bytes of their files.
use Rattle.std.specs.Prelude.{ℕ, List, [], Option, Some, None, ⊤}
use Rattle.vdb_scene.specs.Replies.{Reply}
use Rattle.vdb_scene.specs.Scene.{Scene}
use Rattle.vdb_file.specs.Faults.{Claims}
use Rattle.vdb_file.specs.declared.fault.SaveFault.TheVariants as save_faults
use Rattle.vdb_script.specs.Run.{NoMemoryError}
use Rattle.vdb_script.specs.declared.source.ScriptFault.TheVariants as script_faults
use Rattle.vdb_shell.specs.Session.{IsSession}
use Rattle.vdb_shell.specs.declared.fault.Fault.{Fault}
use Rattle.vdb_shell.specs.declared.fault.Fault.TheVariants.{Load, Script, Answers, Save}

-- The end of a session: the fault that ended it early, its status, the bytes that the script's reader gave, the written
-- answers, and the last scene.
pub record End : Type 0 where
  pub fault : Option Fault
  pub code : ℕ
  pub given : List ℕ
  pub written : List ℕ
  pub last : Scene

-- no allocation, reader or writer failed
abbrev pub IsOfBytes : Option Fault → Type 0
IsOfBytes None = ⊤
IsOfBytes (Some (Load fault)) = Claims fault
IsOfBytes (Some (Script script_faults.TooLong)) = ⊤
IsOfBytes (Some (Script script_faults.Read)) = ⊥
IsOfBytes (Some Answers) = ⊥
IsOfBytes (Some (Save save_faults.TooLong)) = ⊤
IsOfBytes (Some (Save save_faults.Write)) = ⊥

-- the answers of a session's run: none if nothing was loaded
abbrev pub replies_of : (file : Option (List ℕ)) (script : List ℕ) (fault : Option Fault) (code : ℕ) (given written : List ℕ) (last : Scene)
    → IsSession file script fault code given written last → List Reply
replies_of file script None code given written last session = session.2.plays.replies
replies_of file script (Some (Load fault)) code given written last session = []
replies_of file script (Some (Script fault)) code given written last session = session.2.plays.replies
replies_of file script (Some Answers) code given written last session = session.2.plays.replies
replies_of file script (Some (Save fault)) code given written last session = session.2.plays.replies

-- A session in which no allocation, reader or writer failed.
pub record IsUndisturbed (file : Option (List ℕ)) (script : List ℕ) (e : End) : Type 0 where
  pub session : IsSession file script e.fault e.code e.given e.written e.last
  pub fault : IsOfBytes e.fault
  pub memory : NoMemoryError (replies_of file script e.fault e.code e.given e.written e.last session)
