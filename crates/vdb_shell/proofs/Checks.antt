-- A script as a whole run with its text, and a write fault in the second answer after the first was written.
use Rattle.vdb_shell.proofs.Common.{◌≡◌, refl, ℕ, false, List, [], ◌∷◌, Some, codes, inl, inr, arith, None, Scene, Reply, Refused, lines, NoMemoryError, Run, answers_text, IsUndisturbed, Plays, Answers}
use Rattle.std.proofs.Common.{pos}
use Rattle.std.specs.Fmt.{digits}
use Rattle.vdb_value.specs.declared.Kind.TheVariants as kinds
use Rattle.vdb_scene.specs.Replies.{Done, Pairs, Value}
use Rattle.vdb_scene.specs.Step.{after}
use Rattle.vdb_scene.specs.declared.scalar.Scalar.TheVariants.{I32}
use Rattle.vdb_scene.specs.declared.answer.Refusal.TheVariants as refusals
use Rattle.vdb_scene.specs.declared.command.Command.TheVariants as commands
use Rattle.vdb_scene.specs.declared.command.Literal.TheVariants.{Number}
use Rattle.vdb_scene.specs.declared.command.Num.TheVariants.{Near}

abbrev script : List ℕ
script = codes "grid a i32 0\nget a - 5 5 5\n"

abbrev with_a : Scene
with_a = after [] (commands.Grid (codes "a") kinds.I32 (Number (Near (pos 0))) None)

abbrev shown : Reply
shown = Value (record { value = I32 (pos 0); on = false })

runs : Run [] (lines script) (Done ∷ shown ∷ []) with_a
runs = (Done ∷ [], shown ∷ [], with_a, refl, (Done, refl, inr (inl (refl, refl, refl))), (shown ∷ [], [], with_a, refl, (shown, refl, inr (inl (refl, refl, refl))), (refl, refl)))

printed : answers_text (Done ∷ shown ∷ []) ≡ codes "ok\nvalue 0 off\n"
unfolding digits
printed = refl

cut : Plays [] script (Some Answers) script (codes "ok\nval") (Done ∷ shown ∷ []) with_a
unfolding digits
cut = (2, Done ∷ [], shown, codes "val", omega arith, runs, refl, refl, (codes "ue 0 off\n", refl))

-- a session without a failure
undisturbed : IsUndisturbed None script (record { fault = None; code = 0; given = script; written = codes "ok\nvalue 0 off\n"; last = with_a })
unfolding digits
undisturbed = record {
  session = (
    [],
    refl,
    record {
      refused = false;
      plays = record { replies = Done ∷ shown ∷ []; plays = (omega arith, runs, refl); few = omega arith; refused = refl };
      status = refl;
    },
  );
  fault = tt;
  memory = (no_failure, (no_value, tt));
}
  where
    no_failure : Done ≡ Refused refusals.Memory → ⊥
    no_failure h = cc

    no_value : shown ≡ Refused refusals.Memory → ⊥
    no_value h = cc

-- the error, and a metadata pair that prints the same line without a failure
disturbed : NoMemoryError (Done ∷ Refused refusals.Memory ∷ []) → ⊥
disturbed h = h.1.0 refl

abbrev pair : List Reply
pair = Pairs ((codes "error", codes "memory") ∷ []) ∷ []

same_line : answers_text pair ≡ codes "error memory\nend 1\n"
unfolding digits
same_line = refl

no_error : NoMemoryError pair
no_error = (other, tt)
  where
    other : Pairs ((codes "error", codes "memory") ∷ []) ≡ Refused refusals.Memory → ⊥
    other h = cc
