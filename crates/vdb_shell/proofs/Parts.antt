-- The parts of a session: loading before its script, and saving after it.
use Rattle.vdb_shell.proofs.Common.{◌≡◌, ◌∙◌, refl, sym, ap, subst, arith, ℕ, ◌≤◌, Bool, true, false, List, [], Option, Some, None, Result, Ok, Err, Keeps, scene_of, Scene, IsScene, IsFileOf, LoadFault, SaveFault, Begins, IsSession, IsUnloaded, PlaysFrom, PlaysOn, Saves, of_script, status, Fault, Answers, Load, Save, Script}
use Rattle.std.proofs.Common.{is_some, option_map, IfSome, IfOk, IfErr}
use Rattle.std.proofs.lemmas.Option.{same_Some}
use Rattle.vdb_scene.specs.declared.scene.Scene as loaded
use Rattle.vdb_file.specs.Faults.{Claims}
use Rattle.vdb_file.proofs.Scenes.{one_scene}
use Rattle.vdb_shell.specs.Files.{Refuses}

-- ---- before the script

-- a scene with its file is the only one that the file encodes
begins_one : (remaining file : Option (List ℕ)) (s : Scene) → option_map Some remaining ≡ Some file → IsScene s → IfSome remaining (λ bytes. IsFileOf bytes s) → Begins file s
begins_one None file s given scene spelled = absurd (no given)
  where
    no : None ≡ Some file → ⊥
    no h = cc
begins_one (Some bytes) file s given scene spelled =
    subst (λ f. Begins f s) (same_Some (Some bytes) file given) (scene, spelled, λ t is_t file_t. one_scene bytes t s is_t scene file_t spelled)

pub begins : (r : Result loaded.Scene LoadFault) (remaining file : Option (List ℕ)) → option_map Some remaining ≡ Some file → IfOk r (λ s. IsScene (scene_of s))
    → IfOk r (λ s. IfSome remaining (λ bytes. IsFileOf bytes (scene_of s))) → IfOk r (λ s. Begins file (scene_of s))
begins (Ok s) remaining file given scene spelled = begins_one remaining file (scene_of s) given scene spelled
begins (Err f) remaining file given scene spelled = tt

-- no scene has the rejected encoding
refuses_one : (remaining file : Option (List ℕ)) (fault : LoadFault) → option_map Some remaining ≡ Some file
    → (Claims fault → IfSome remaining (λ bytes. (s : Scene) → IsScene s → IsFileOf bytes s → ⊥)) → Refuses fault file
refuses_one None file fault given none = absurd (no given)
  where
    no : None ≡ Some file → ⊥
    no h = cc
refuses_one (Some bytes) file fault given none = subst (Refuses fault) (same_Some (Some bytes) file given) none

pub refuses : (r : Result loaded.Scene LoadFault) (remaining file : Option (List ℕ)) → option_map Some remaining ≡ Some file
    → IfErr r (λ fault. Claims fault → IfSome remaining (λ bytes. (s : Scene) → IsScene s → IsFileOf bytes s → ⊥)) → IfErr r (λ fault. Refuses fault file)
refuses (Ok s) remaining file given none = tt
refuses (Err f) remaining file given none = refuses_one remaining file f given none

-- a session that loads nothing
pub unloaded : (file : Option (List ℕ)) (script : List ℕ) (fault : Option Fault) (f : LoadFault) (code : ℕ) (last : Scene) → fault ≡ Some (Load f) → Refuses f file → code ≡ 3 → IsSession file script fault code [] [] last
unloaded file script fault f code last is none three = subst (λ h. IsSession file script h code [] [] last) (sym is) (none, three, refl, refl)

-- one that loads a scene
pub loaded_session : (file : Option (List ℕ)) (script : List ℕ) (fault : Option Fault) (code : ℕ) (given written : List ℕ) (last : Scene) → (IsUnloaded fault → ⊥)
    → (first : Scene) → Begins file first → PlaysOn first script fault code given written last → IsSession file script fault code given written last
loaded_session file script None code given written last reached first begun played = (first, begun, played)
loaded_session file script (Some (Load f)) code given written last reached first begun played = absurd (reached tt)
loaded_session file script (Some (Script f)) code given written last reached first begun played = (first, begun, played)
loaded_session file script (Some Answers) code given written last reached first begun played = (first, begun, played)
loaded_session file script (Some (Save f)) code given written last reached first begun played = (first, begun, played)

-- and a session that loads nothing saves nothing
pub saves_nothing : {D : Type 0} (given : Option D) (fault : Option Fault) (f : LoadFault) (last : Scene) (known : Option (List ℕ)) → fault ≡ Some (Load f) → IfSome given (λ d. Saves fault last known known)
saves_nothing None fault f last known is = tt
saves_nothing (Some d) fault f last known is = subst (λ h. Saves h last known known) (sym is) (same known)
  where
    same : (known : Option (List ℕ)) → Keeps known known
    same None = tt
    same (Some bytes) = refl

-- ---- after the script

pub not_some : {A : Type 0} (o : Option A) → is_some o ≡ false → o ≡ None
not_some None h = refl
not_some (Some a) h = absurd (no h)
  where
    no : is_some (Some a) ≡ false → ⊥
    no h = cc

-- a script that was played to its end, if the scene can't be saved
pub plays_unsaved : (s : Scene) (script : List ℕ) (fault played : Option Fault) (f : SaveFault) (code : ℕ) (refused : Bool) (given written : List ℕ) (last : Scene)
    → fault ≡ Some (Save f) → played ≡ None → code ≡ status refused (Some (Save f)) → PlaysFrom s script played refused given written last → PlaysOn s script fault code given written last
plays_unsaved s script fault played f code refused given written last is none told plays = record {
  refused = refused;
  plays = subst (λ h. PlaysFrom s script h refused given written last) (none ∙ sym (ap of_script is)) plays;
  status = told ∙ ap (status refused) (sym is);
}

-- the status without a fault is 0 or 1
pub completed : (refused : Bool) (fault : Option Fault) (code : ℕ) → code ≡ status refused fault → fault ≡ None → code ≤ 1
completed true None code is none = let one : code ≡ 1 = is in omega (arith, one)
completed false None code is none = let zero : code ≡ 0 = is in omega (arith, zero)
completed refused (Some f) code is none = absurd (no none)
  where
    no : Some f ≡ None → ⊥
    no h = cc
