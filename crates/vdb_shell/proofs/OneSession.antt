-- Sessions of the same bytes have the same outcome, if no allocation, reader or writer fails.
use Rattle.vdb_shell.proofs.Common.{◌≡◌, refl, sym, ap, ◌∙◌, subst, ℕ, ◌^◌, Bool, List, [], ◌++◌, length, take, Option, Some, None, inl, inr, arith, list_any, Appends, Keeps, Scene, Reply, IsScene, IsFileOf, LoadFault, SaveFault, lines, whole_lines, NoMemoryError, Run, answers_text, IsUndisturbed, Begins, IsSession, IsUnloaded, Plays, PlaysOn, Saves, is_refused, of_script, status, Fault, Load, Script, Answers, Save}
use Rattle.std.proofs.Common.{◌⊎◌}
use Rattle.vdb_file.specs.declared.fault.SaveFault.TheVariants as save_faults
use Rattle.vdb_script.specs.declared.source.ScriptFault.TheVariants as script_faults
use Rattle.vdb_script.proofs.OneRun.{one_run}
use Rattle.vdb_shell.specs.Determined.{End, IsOfBytes, replies_of}

-- ---- loading

-- no scene has this encoding
abbrev NoFile : Option (List ℕ) → Type 0
NoFile None = ⊥
NoFile (Some bytes) = (s : Scene) → IsScene s → IsFileOf bytes s → ⊥

no_file : (file : Option (List ℕ)) (s : Scene) → NoFile file → Begins file s → ⊥
no_file None s h k = h
no_file (Some bytes) s h k = h s k.0 k.1

one_first : (file : Option (List ℕ)) (s t : Scene) → Begins file s → Begins file t → s ≡ t
one_first None s t h k = h ∙ sym k
one_first (Some bytes) s t h k = k.2 s h.0 h.1

-- ---- playing

module _ (s : Scene) (script : List ℕ) (given other written answers : List ℕ) (a b : List Reply) (x y : Scene) (clear : NoMemoryError a) (clear₂ : NoMemoryError b) where
  one_text : (ls : List (List ℕ)) → Run s ls a x × (written ≡ answers_text a) → Run s ls b y × (answers ≡ answers_text b) → (a ≡ b) × (x ≡ y) × (written ≡ answers)
  one_text ls h k =
      let run = one_run s ls a b x y h.0 k.0 clear clear₂ in
      (run.0, run.1, h.1 ∙ ap answers_text run.0 ∙ sym k.1)

  one_play : (f g : Option Fault) → IsOfBytes f → IsOfBytes g → Plays s script f given written a x → Plays s script g other answers b y → ((a ≡ b) × (x ≡ y) × (written ≡ answers)) × (f ≡ g)
  one_play None None of of₂ h k = (one_text (lines script) (h.1, h.2) (k.1, k.2), refl)
  one_play None (Some (Script script_faults.TooLong)) of of₂ h k = absurd (omega (arith, h.0, k.0))
  one_play None (Some (Script script_faults.Read)) of of₂ h k = absurd of₂
  one_play None (Some (Load l)) of of₂ h k = absurd k
  one_play None (Some Answers) of of₂ h k = absurd of₂
  one_play None (Some (Save v)) of of₂ h k = absurd k
  one_play (Some (Script script_faults.TooLong)) None of of₂ h k = absurd (omega (arith, h.0, k.0))
  one_play (Some (Script script_faults.TooLong)) (Some (Script script_faults.TooLong)) of of₂ h k = (one_text (whole_lines (take (2 ^ 24) script)) (h.1, h.2) (k.1, k.2), refl)
  one_play (Some (Script script_faults.TooLong)) (Some (Script script_faults.Read)) of of₂ h k = absurd of₂
  one_play (Some (Script script_faults.TooLong)) (Some (Load l)) of of₂ h k = absurd k
  one_play (Some (Script script_faults.TooLong)) (Some Answers) of of₂ h k = absurd of₂
  one_play (Some (Script script_faults.TooLong)) (Some (Save v)) of of₂ h k = absurd k
  one_play (Some (Script script_faults.Read)) g of of₂ h k = absurd of
  one_play (Some (Load l)) g of of₂ h k = absurd h
  one_play (Some Answers) g of of₂ h k = absurd of
  one_play (Some (Save v)) g of of₂ h k = absurd h

of_bytes : (f : Option Fault) → IsOfBytes f → IsOfBytes (of_script f)
of_bytes None of = tt
of_bytes (Some (Load l)) of = of
of_bytes (Some (Script c)) of = of
of_bytes (Some Answers) of = of
of_bytes (Some (Save v)) of = tt

-- ---- two sessions

-- Two sessions of the same bytes that play the script.
record BothPlay (a b : End) : Type 0 where
  last : a.last ≡ b.last
  written : a.written ≡ b.written
  script : of_script a.fault ≡ of_script b.fault
  refused : Bool
  code : a.code ≡ status refused a.fault
  other : b.code ≡ status refused b.fault

-- Two that load nothing.
record BothUnload (a b : End) : Type 0 where
  fault : LoadFault
  fault₂ : LoadFault
  is : a.fault ≡ Some (Load fault)
  is₂ : b.fault ≡ Some (Load fault₂)
  written : a.written ≡ b.written
  code : a.code ≡ b.code

-- the script is played from this scene, and no answer is `error memory`
abbrev PlaysClear : Scene → List ℕ → Option Fault → ℕ → List ℕ → List ℕ → Scene → Type 0
PlaysClear first script fault code given written last = (on : PlaysOn first script fault code given written last) × NoMemoryError on.plays.replies

abbrev Loads : Option (List ℕ) → List ℕ → End → Type 0
Loads file script e = (first : Scene) × Begins file first × PlaysClear first script e.fault e.code e.given e.written e.last

either : (file : Option (List ℕ)) (script : List ℕ) (fault : Option Fault) (code : ℕ) (given written : List ℕ) (last : Scene) → IsOfBytes fault
    → (h : IsSession file script fault code given written last) → NoMemoryError (replies_of file script fault code given written last h)
    → ((l : LoadFault) × (fault ≡ Some (Load l)) × NoFile file × (code ≡ 3) × (written ≡ [])) ⊎ ((first : Scene) × Begins file first × PlaysClear first script fault code given written last)
either file script None code given written last of h clear = inr (h.0, h.1, (h.2, clear))
either None script (Some (Load l)) code given written last of h clear = absurd h.0
either (Some bytes) script (Some (Load l)) code given written last of h clear = inl (l, refl, h.0 of, h.1, h.3)
either file script (Some (Script c)) code given written last of h clear = inr (h.0, h.1, (h.2, clear))
either file script (Some Answers) code given written last of h clear = inr (h.0, h.1, (h.2, clear))
either file script (Some (Save v)) code given written last of h clear = inr (h.0, h.1, (h.2, clear))

module _ (file : Option (List ℕ)) (script : List ℕ) (a b : End) (h : IsUndisturbed file script a) (k : IsUndisturbed file script b) where
  both_play : Loads file script a → Loads file script b → BothPlay a b
  both_play p q =
      let begun : p.0 ≡ q.0 = one_first file p.0 q.0 p.1 q.1 in
      let played : PlaysClear q.0 script a.fault a.code a.given a.written a.last = subst (λ s. PlaysClear s script a.fault a.code a.given a.written a.last) begun p.2 in
      let on : PlaysOn q.0 script a.fault a.code a.given a.written a.last = played.0 in
      let other : PlaysOn q.0 script b.fault b.code b.given b.written b.last = q.2.0 in
      let one = one_play q.0 script a.given b.given a.written b.written on.plays.replies other.plays.replies a.last b.last played.1 q.2.1
      (of_script a.fault) (of_script b.fault) (of_bytes a.fault h.fault) (of_bytes b.fault k.fault) on.plays.plays other.plays.plays in
      record {
        last = one.0.1;
        written = one.0.2;
        script = one.1;
        refused = on.refused;
        code = on.status;
        other = other.status ∙ ap (λ r. status r b.fault) (other.plays.refused ∙ ap (list_any is_refused) (sym one.0.0) ∙ sym on.plays.refused);
      }

  pair : BothUnload a b ⊎ BothPlay a b
  pair = elim (either file script a.fault a.code a.given a.written a.last h.fault h.session h.memory) [
    | inl u ↦ elim (either file script b.fault b.code b.given b.written b.last k.fault k.session k.memory) [
      | inl v ↦ inl (record { fault = u.0; fault₂ = v.0; is = u.1; is₂ = v.1; written = u.4 ∙ sym v.4; code = u.3 ∙ sym v.3 })
      | inr q ↦ absurd (no_file file q.0 u.2 q.1)
    ]
    | inr p ↦ elim (either file script b.fault b.code b.given b.written b.last k.fault k.session k.memory) [
      | inl v ↦ absurd (no_file file p.0 v.2 p.1)
      | inr q ↦ inr (both_play p q)
    ]
  ]

  pub same_answers : a.written ≡ b.written
  same_answers = elim pair [ inl u ↦ u.written | inr p ↦ p.written ]

  pub same_scene : (IsUnloaded a.fault → ⊥) → a.last ≡ b.last
  same_scene loaded = elim pair [ inl u ↦ absurd (loaded (subst IsUnloaded (sym u.is) tt)) | inr p ↦ p.last ]

-- ---- saving

keeps_is : (old : List ℕ) (new : Option (List ℕ)) → Keeps (Some old) new → new ≡ Some old
keeps_is old None h = absurd h
keeps_is old (Some ys) h = ap Some h

appends_is : (old : List ℕ) (new : Option (List ℕ)) (bytes : List ℕ) → Appends (Some old) new bytes → new ≡ Some (old ++ bytes)
appends_is old None bytes h = absurd h
appends_is old (Some ys) bytes h = ap Some h

-- the saved bytes follow from the fault and the scene
one_file : (fault : Option Fault) (s : Scene) (old : List ℕ) (new other : Option (List ℕ)) → IsOfBytes fault → Saves fault s (Some old) new → Saves fault s (Some old) other → new ≡ other
one_file None s old new other of h k = appends_is old new h.0 h.2 ∙ ap (λ bytes. Some (old ++ bytes)) (h.1.0 ∙ sym k.1.0) ∙ sym (appends_is old other k.0 k.2)
one_file (Some (Load l)) s old new other of h k = keeps_is old new h ∙ sym (keeps_is old other k)
one_file (Some (Script c)) s old new other of h k = keeps_is old new h ∙ sym (keeps_is old other k)
one_file (Some Answers) s old new other of h k = absurd of
one_file (Some (Save save_faults.TooLong)) s old new other of h k = keeps_is old new h.1 ∙ sym (keeps_is old other k.1)
one_file (Some (Save save_faults.Write)) s old new other of h k = absurd of

-- a scene is not too long and saved
long_and_saved : (s : Scene) (old : List ℕ) (new other : Option (List ℕ)) → Saves (Some (Save save_faults.TooLong)) s (Some old) new → Saves None s (Some old) other → ⊥
long_and_saved s old new other h k = omega (arith, h.0, ap length k.1.0, k.1.1)

-- a fault is one of saving, or one of the script or none
either_fault : (fault : Option Fault) → IsOfBytes fault → (fault ≡ Some (Save save_faults.TooLong)) ⊎ (of_script fault ≡ fault)
either_fault None of = inr refl
either_fault (Some (Load l)) of = inr refl
either_fault (Some (Script c)) of = inr refl
either_fault (Some Answers) of = inr refl
either_fault (Some (Save save_faults.TooLong)) of = inl refl
either_fault (Some (Save save_faults.Write)) of = absurd of

one_fault : (f g : Option Fault) (s : Scene) (old : List ℕ) (new other : Option (List ℕ)) → IsOfBytes f → IsOfBytes g → of_script f ≡ of_script g → Saves f s (Some old) new → Saves g s (Some old) other → f ≡ g
one_fault f g s old new other of of₂ e h k = elim (either_fault f of) [
  | inl u ↦ elim (either_fault g of₂) [
    | inl v ↦ u ∙ sym v
    | inr v ↦ absurd (long_and_saved s old new other (subst (λ q. Saves q s (Some old) new) u h) (subst (λ q. Saves q s (Some old) other) (sym v ∙ sym e ∙ ap of_script u) k))
  ]
  | inr u ↦ elim (either_fault g of₂) [
    | inl v ↦ absurd (long_and_saved s old other new (subst (λ q. Saves q s (Some old) other) v k) (subst (λ q. Saves q s (Some old) new) (sym u ∙ e ∙ ap of_script v) h))
    | inr v ↦ sym u ∙ e ∙ v
  ]
]

-- a fault that is none of saving
of_script_same : (fault : Option Fault) → ((v : SaveFault) → fault ≡ Some (Save v) → ⊥) → of_script fault ≡ fault
of_script_same None not = refl
of_script_same (Some (Load l)) not = refl
of_script_same (Some (Script c)) not = refl
of_script_same (Some Answers) not = refl
of_script_same (Some (Save v)) not = absurd (not v refl)

module _ (file : Option (List ℕ)) (script : List ℕ) (a b : End) (h : IsUndisturbed file script a) (k : IsUndisturbed file script b) where
  pub same_saved : (old : List ℕ) (new other : Option (List ℕ)) → Saves a.fault a.last (Some old) new → Saves b.fault b.last (Some old) other → (new ≡ other) × (a.code ≡ b.code)
  same_saved old new other saved saved₂ = elim (pair file script a b h k) [
    | inl u ↦ (
      keeps_is old new (subst (λ q. Saves q a.last (Some old) new) u.is saved) ∙ sym (keeps_is old other (subst (λ q. Saves q b.last (Some old) other) u.is₂ saved₂)),
      u.code,
    )
    | inr p ↦
        let there : Saves b.fault a.last (Some old) other = subst (λ s. Saves b.fault s (Some old) other) (sym p.last) saved₂ in
        let fault : a.fault ≡ b.fault = one_fault a.fault b.fault a.last old new other h.fault k.fault p.script saved there in (
          one_file b.fault a.last old new other k.fault (subst (λ q. Saves q a.last (Some old) new) fault saved) there,
          p.code ∙ ap (status p.refused) fault ∙ sym p.other,
        )
  ]

  pub same_status : ((v : SaveFault) → a.fault ≡ Some (Save v) → ⊥) → ((v : SaveFault) → b.fault ≡ Some (Save v) → ⊥) → a.code ≡ b.code
  same_status not not₂ = elim (pair file script a b h k) [
    | inl u ↦ u.code
    | inr p ↦ p.code ∙ ap (status p.refused) (sym (of_script_same a.fault not) ∙ p.script ∙ of_script_same b.fault not₂) ∙ sym p.other
  ]
