-- A session that loads its scene ends with a scene that files encode.
use Rattle.vdb_shell.proofs.Common.{sym, subst, ℕ, ◌^◌, List, take, Option, Some, None, Reply, Scene, IsScene, lines, script_lines, whole_lines, Begins, IsSession, IsUnloaded, Plays, PlaysOn, of_script, Fault, Load, Script, Answers, Save}
use Rattle.vdb_scene.proofs.ValidSteps.{empty_is}
use Rattle.vdb_script.specs.declared.source.ScriptFault.TheVariants as script_faults
use Rattle.vdb_script.proofs.ValidRuns.{run_is}

begun_is : (file : Option (List ℕ)) (s : Scene) → Begins file s → IsScene s
begun_is None s h = subst IsScene (sym h) empty_is
begun_is (Some bytes) s h = h.0

played_is : (s : Scene) (script : List ℕ) (fault : Option Fault) (given written : List ℕ) (replies : List Reply) (last : Scene) → IsScene s → Plays s script fault given written replies last → IsScene last
played_is s script None given written replies last is h = run_is s (lines script) replies last is h.1
played_is s script (Some (Script script_faults.TooLong)) given written replies last is h = run_is s (whole_lines (take (2 ^ 24) script)) replies last is h.1
played_is s script (Some (Script script_faults.Read)) given written replies last is h = run_is s (whole_lines given) replies last is h.1
played_is s script (Some Answers) given written replies last is h = run_is s (take h.0 (script_lines script)) replies last is h.5
played_is s script (Some (Load fault)) given written replies last is h = absurd h
played_is s script (Some (Save fault)) given written replies last is h = absurd h

module _ (file : Option (List ℕ)) (script : List ℕ) where
  ended_is : (fault : Option Fault) (code : ℕ) (given written : List ℕ) (last : Scene) → (first : Scene) × Begins file first × PlaysOn first script fault code given written last → IsScene last
  ended_is fault code given written last h =
      let played = h.2.plays in played_is h.0 script (of_script fault) given written played.replies last (begun_is file h.0 h.1) played.plays

  -- the last scene, unless loading failed
  pub session_is : (fault : Option Fault) (code : ℕ) (given written : List ℕ) (last : Scene) → IsSession file script fault code given written last → (IsUnloaded fault → ⊥) → IsScene last
  session_is None code given written last h loaded = ended_is None code given written last h
  session_is (Some (Load fault)) code given written last h loaded = absurd (loaded tt)
  session_is (Some (Script fault)) code given written last h loaded = ended_is (Some (Script fault)) code given written last h
  session_is (Some Answers) code given written last h loaded = ended_is (Some Answers) code given written last h
  session_is (Some (Save fault)) code given written last h loaded = ended_is (Some (Save fault)) code given written last h
