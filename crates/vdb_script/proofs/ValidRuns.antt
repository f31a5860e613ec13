-- A run that begins with a scene that files encode ends with one.
use Rattle.vdb_script.proofs.Common.{◌≡◌, refl, sym, ap, subst, ℕ, Bool, true, false, nat_lt, List, [], ◌∷◌, length, Option, Some, None, Result, Ok, Err, if◌then◌else◌, none-some, Reply, Scene, HasValidTexts, Command, Refusal, parse, Run, TakesLine, read}
use Rattle.vdb_scene.specs.ValidScenes.{IsScene}
use Rattle.vdb_scene.specs.declared.answer.Refusal.TheVariants as refusals
use Rattle.vdb_scene.proofs.ValidSteps.{step_is}
use Rattle.vdb_script.proofs.ValidCommands.{command_in, parsed_valid}

within : (long : Bool) (line : List ℕ) (c : Command) → (if long then Err refusals.LineTooLong else parse line) ≡ Ok (Some c) → HasValidTexts c
within true line c e = absurd (none-some c (ap command_in e))
within false line c e = parsed_valid line c e

read_valid : (line : List ℕ) (c : Command) → read line ≡ Ok (Some c) → HasValidTexts c
read_valid line c e = within (nat_lt 256 (length line)) line c e

-- a line
line_is : (s : Scene) (line : Result (Option Command) Refusal) (replies : List Reply) (next : Scene) → IsScene s → ((c : Command) → line ≡ Ok (Some c) → HasValidTexts c) → TakesLine s line replies next → IsScene next
line_is s (Ok None) replies next is valid h = subst IsScene (sym h.1) is
line_is s (Ok (Some c)) replies next is valid h = step_is s c h.0 next is (valid c refl) h.2
line_is s (Err r) replies next is valid h = subst IsScene (sym h.1) is

-- all lines
pub run_is : (s : Scene) (lines : List (List ℕ)) (replies : List Reply) (last : Scene) → IsScene s → Run s lines replies last → IsScene last
run_is s [] replies last is h = subst IsScene (sym h.1) is
run_is s (line ∷ lines) replies last is h = run_is h.2 lines h.1 last (line_is s (read line) h.0 h.2 is (read_valid line) h.4) h.5
