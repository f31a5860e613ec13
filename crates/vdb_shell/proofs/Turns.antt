-- One step of playing a script: a line whose answer was written, and a line whose answer was not.
use Rattle.vdb_shell.proofs.Common.{◌≡◌, refl, sym, ap, ◌∙◌, subst, ℕ, Bool, true, false, ◌||◌, List, [], ◌∷◌, ◌++◌, ◌^◌, ◌+◌, Option, Some, Result, Ok, Err, Appends, Consumes, prepend_known, Appends-nil, Scene, Reply, YieldsLine, YieldsPart, YieldsTooMuch, Stock, budget, answers_text, text, WriteFault, GoesOut, TakesTurn, PlaysFrom, Fault, Turn, Answers, Script}
use Rattle.std.proofs.Common.{is_err}
use Rattle.std.proofs.KnownBytes.{Appends-trans}
use Rattle.std.proofs.lemmas.Grind.{flat_map-append}
use Rattle.vdb_script.specs.Writing.{HasCut}
use Rattle.vdb_script.specs.declared.source.ScriptFault.{ScriptFault}
use Rattle.vdb_script.specs.declared.source.ScriptFault.TheVariants.{Read, TooLong}
use Rattle.vdb_shell.specs.internal.Answering.{is_read_ending}
use Rattle.vdb_shell.proofs.Told.{Handed, handed_line, handed_none, played_cut, played_part, played_too_long}

-- without a fault the whole answer is written
went_out : (a b : Option (List ℕ)) (replies : List Reply) (written : Result (Unit {0}) WriteFault) → is_err written ≡ false → GoesOut a b written replies → Appends a b (answers_text replies)
went_out a b replies (Ok x) ok h = h
went_out a b replies (Err e) ok h = absurd (true_false ok)
  where
    true_false : true ≡ false → ⊥
    true_false h = cc

-- and at a fault a prefix of one answer
was_cut : (a b : Option (List ℕ)) (replies : List Reply) (written : Result (Unit {0}) WriteFault) → is_err written ≡ true → GoesOut a b written replies
    → (reply : Reply) × (replies ≡ reply ∷ []) × HasCut a b (text reply)
was_cut a b replies (Ok x) failed h = absurd (false_true failed)
  where
    false_true : false ≡ true → ⊥
    false_true h = cc
was_cut a b replies (Err e) failed h = h

-- the state of a script and of a writer after some lines
abbrev pub Told : Scene → List ℕ → Option (List ℕ) → Stock → Scene → Bool → Option (List ℕ) → Option (List ℕ) → Type 0
Told s bytes known stock now any_refused w₀ w = (h : Handed s bytes known stock now any_refused) × Appends w₀ w (answers_text h.replies)

-- their state at the end
abbrev pub Ended : Scene → List ℕ → Option (List ℕ) → Scene → Bool → Option (List ℕ) → Option (List ℕ) → Option Fault → Type 0
Ended s bytes left now any_refused w₀ w fault =
    (given written : List ℕ) × Consumes (Some bytes) left given × Appends w₀ w written × PlaysFrom s bytes fault any_refused given written now

-- nothing yet
pub told_none : (s : Scene) (bytes : List ℕ) (known : Option (List ℕ)) (stock : Stock) (w : Option (List ℕ)) → known ≡ Some bytes → budget stock ≡ 2 ^ 24 → Told s bytes known stock s false w w
told_none s bytes known stock w is limit =
    let h = handed_none s bytes known stock is limit in (h.0, subst (λ l. Appends w w (answers_text l)) (sym h.1) (Appends-nil w))

module _ (s : Scene) (bytes : List ℕ) (known : Option (List ℕ)) (stock : Stock) (now : Scene) (any_refused : Bool) (w₀ w : Option (List ℕ)) (t : Told s bytes known stock now any_refused w₀ w) where
  module _ (new : Option (List ℕ)) (after : Stock) (later : Scene) (line : List ℕ) (turn : Turn) (w₂ : Option (List ℕ)) (hands : YieldsLine known new stock after line) (taken : TakesTurn now line turn w w₂ later) where
    line_handed : (h : Handed s bytes new after later (any_refused || turn.refused)) × (h.replies ≡ t.0.replies ++ taken.replies)
    line_handed = handed_line s bytes known stock now any_refused t.0 new after later line taken.replies (any_refused || turn.refused) hands taken.takes (ap (λ b. any_refused || b) taken.refused)

    -- a line whose answer was written, if it has one
    pub told_more : is_err turn.written ≡ false → Told s bytes new after later (any_refused || turn.refused) w₀ w₂
    told_more ok = (
      line_handed.0,
      subst (Appends w₀ w₂) (sym (ap answers_text line_handed.1 ∙ flat_map-append text t.0.replies taken.replies))
          (Appends-trans w₀ w w₂ (answers_text t.0.replies) (answers_text taken.replies) t.1 (went_out w w₂ taken.replies turn.written ok taken.out)),
    )

    -- a line whose answer was not written whole
    pub told_cut : (left : Option (List ℕ)) → new ≡ prepend_known after.unread left → is_err turn.written ≡ true → Ended s bytes left later (any_refused || turn.refused) w₀ w₂ (Some Answers)
    told_cut left is_left failed =
        let cut = was_cut w w₂ taken.replies turn.written failed taken.out in
        let last : line_handed.0.replies ≡ t.0.replies ++ cut.0 ∷ [] = line_handed.1 ∙ ap (λ l. t.0.replies ++ l) cut.1 in
        let played = played_cut s bytes new after later (any_refused || turn.refused) line_handed.0 left t.0.replies cut.0 cut.2.0 is_left last (cut.2.1, cut.2.2) in
        (played.0, answers_text t.0.replies ++ cut.2.0, played.1, Appends-trans w₀ w w₂ (answers_text t.0.replies) cut.2.0 t.1 cut.2.3, played.2)

  -- a script that can't be read on
  pub told_fault : (fault : ScriptFault) (left : Option (List ℕ)) → (fault ≡ TooLong → YieldsTooMuch known left stock) → (fault ≡ Read → YieldsPart known left stock) → (fault ≡ Read → stock.ended ≡ true → ⊥)
      → Ended s bytes left now any_refused w₀ w (Some (Script fault))
  told_fault TooLong left much part unended =
      let played = played_too_long s bytes known stock now any_refused t.0 left (much refl) in (played.0, answers_text t.0.replies, played.1, t.1, played.2)
  told_fault Read left much part unended =
      let played = played_part s bytes known stock now any_refused t.0 left (part refl) (unended refl) in (played.0, answers_text t.0.replies, played.1, t.1, played.2)

-- the scene at the end, under another name
pub ended_at : (s : Scene) (bytes : List ℕ) (left : Option (List ℕ)) (now later : Scene) (any_refused : Bool) (w₀ w : Option (List ℕ)) (fault : Option Fault)
    → later ≡ now → Ended s bytes left now any_refused w₀ w fault → Ended s bytes left later any_refused w₀ w fault
ended_at s bytes left now later any_refused w₀ w fault same h = subst (λ n. Ended s bytes left n any_refused w₀ w fault) (sym same) h

-- a reader that was not called again did not fail
pub never_failed : (old new : Bool) (ending : Option ScriptFault) → old ≡ false → new ≡ old → new ≡ (old || is_read_ending {A = Turn} (Err ending)) → ending ≡ Some Read → ⊥
never_failed old new ending fresh same failed is = false_true (sym (same ∙ fresh) ∙ failed ∙ ap (λ e. old || is_read_ending {A = Turn} (Err e)) is ∙ ap (λ b. b || true) fresh)
  where
    false_true : false ≡ true → ⊥
    false_true h = cc
