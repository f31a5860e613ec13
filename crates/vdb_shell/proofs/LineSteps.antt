-- The step of a line that was read.
use Rattle.vdb_shell.proofs.Common.{◌≡◌, refl, sym, ap, ◌∙◌, subst, ℕ, ◌<◌, Bool, true, false, ◌||◌, List, [], ◌∷◌, length, cond, Option, Some, Result, Ok, Err, arith, append-nil, Appends, Scene, Reply, Refused, TakesLine, read, text, WriteFault, GoesOut, TakesTurn, is_refused, Turn}
use Rattle.std.specs.Prelude.{nat_lt}
use Rattle.std.proofs.lemmas.Bool.Decides.{nat_tests}
use Rattle.vdb_scene.specs.Doing.{ShowsStep}
use Rattle.vdb_scene.specs.Shown.{Shows}
use Rattle.vdb_scene.specs.declared.answer.Answer.{Answer}
use Rattle.vdb_scene.specs.declared.answer.Answer.TheVariants as answers
use Rattle.vdb_scene.specs.declared.answer.Refusal.{Refusal}
use Rattle.vdb_scene.specs.declared.answer.Refusal.TheVariants as refusals
use Rattle.vdb_scene.specs.declared.command.Command.{Command}
use Rattle.vdb_script.specs.Grammar.{parse}
use Rattle.vdb_script.specs.Writing.{Writes}

-- a line that isn't too long is read by the grammar
read_short : (line : List ℕ) → length line < 257 → read line ≡ parse line
read_short line few = let fits : nat_lt 256 (length line) ≡ false = grind (arith, nat_tests) in ap (λ b. cond b (Err refusals.LineTooLong) (parse line)) fits

read_long : (line : List ℕ) → 256 < length line → read line ≡ Err refusals.LineTooLong
read_long line many = let over : nat_lt 256 (length line) ≡ true = grind (arith, nat_tests) in ap (λ b. cond b (Err refusals.LineTooLong) (parse line)) over

or_false : (b : Bool) → b ≡ (b || false)
or_false true = refl
or_false false = refl

-- one written answer, or a prefix of it
goes_out : (old new : Option (List ℕ)) (written : Result (Unit {0}) WriteFault) (reply : Reply) → Writes old new written (text reply) → GoesOut old new written (reply ∷ [])
goes_out old new (Ok a) reply h = subst (Appends old new) (sym (append-nil (text reply))) h
goes_out old new (Err e) reply h = (reply, refl, h)

module _ (s : Scene) (line : List ℕ) (turn : Turn) (old new : Option (List ℕ)) where
  module _ (answer : Answer) (refused : (reply : Reply) → Shows answer reply → turn.refused ≡ is_refused reply)
      (out : (reply : Reply) → Shows answer reply → Writes old new turn.written (text reply)) where
    -- a command
    pub turn_applied : (c : Command) (next : Scene) → length line < 257 → parse line ≡ Ok (Some c) → ShowsStep s c answer next → TakesTurn s line turn old new next
    turn_applied c next few is h = record {
      replies = h.0 ∷ [];
      takes = subst (λ r. TakesLine s r (h.0 ∷ []) next) (sym (read_short line few ∙ is)) (h.0, refl, h.2);
      out = goes_out old new turn.written h.0 (out h.0 h.1);
      refused = refused h.0 h.1 ∙ or_false (is_refused h.0);
    }

  module _ (r : Refusal) (is : read line ≡ Err r) (refused : (reply : Reply) → Shows (answers.Refused r) reply → turn.refused ≡ is_refused reply)
      (out : (reply : Reply) → Shows (answers.Refused r) reply → Writes old new turn.written (text reply)) where
    -- a line with an error of its own
    turn_of_refusal : TakesTurn s line turn old new s
    turn_of_refusal = record {
      replies = Refused r ∷ [];
      takes = subst (λ o. TakesLine s o (Refused r ∷ []) s) (sym is) (refl, refl);
      out = goes_out old new turn.written (Refused r) (out (Refused r) refl);
      refused = refused (Refused r) refl;
    }

  -- a line that is not a command
  pub turn_refused : (r : Refusal) → length line < 257 → parse line ≡ Err r → ((reply : Reply) → Shows (answers.Refused r) reply → turn.refused ≡ is_refused reply)
      → ((reply : Reply) → Shows (answers.Refused r) reply → Writes old new turn.written (text reply)) → TakesTurn s line turn old new s
  turn_refused r few is refused out = turn_of_refusal r (read_short line few ∙ is) refused out

  -- a line that is too long
  pub turn_too_long : 256 < length line → ((reply : Reply) → Shows (answers.Refused refusals.LineTooLong) reply → turn.refused ≡ is_refused reply)
      → ((reply : Reply) → Shows (answers.Refused refusals.LineTooLong) reply → Writes old new turn.written (text reply)) → TakesTurn s line turn old new s
  turn_too_long many refused out = turn_of_refusal refusals.LineTooLong (read_long line many) refused out
