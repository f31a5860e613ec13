use Rattle.std.proofs.Common.{refl, ap, codes, true, map, List, ◌≡◌, ◌∙◌, sym}
use Rattle.clap.specs.Words.{App, Text, HasMatchesOf, first_of, first_value, found_of, matches_of, is_simple, is_simple_and_free, fault_of}
use Rattle.clap.specs.declared.parser.matches.ArgMatches.{ArgMatches}
use Rattle.clap.proofs.OnLiterals.{clap_on_literals}
use Rattle.clap.proofs.WalkLemmas.{first_value-rows}
use Rattle.vdb_shell.specs.CommandLine.{program, given}
use Rattle.vdb_shell.proofs.command_line.words.Goals as goal

simple : is_simple program ≡ true
unfolding clap_on_literals
simple = refl

free : is_simple_and_free program ≡ true
unfolding clap_on_literals
free = refl

-- the text that a parse gives an argument
matched : (a : App) (m : ArgMatches) (ws : List Text) (id : Text) → a ≡ program → HasMatchesOf a ws m → first_value (found_of m) id ≡ given id ws
matched a m ws id e h = first_value-rows (found_of m) id ∙ ap (first_of id) ((h (ap is_simple e ∙ simple)).0 ∙ ap (λ x. matches_of x ws) e)

pub returns-clause-load : goal.returns-clause-load
returns-clause-load c = c.get_str.ensures ∙ matched _ c.in_ok-matches.matches _ (codes "load") c.in_ok-command.ensures c.in_ok-matches.ensures.matches

pub returns-clause-save : goal.returns-clause-save
returns-clause-save c = c.get_str-2.ensures ∙ matched _ c.in_ok-matches.matches _ (codes "save") c.in_ok-command.ensures c.in_ok-matches.ensures.matches

pub returns-clause-script : goal.returns-clause-script
returns-clause-script c = c.get_str-3.ensures ∙ matched _ c.in_ok-matches.matches _ (codes "script") c.in_ok-command.ensures c.in_ok-matches.ensures.matches

pub returns-clause-fault : goal.returns-clause-fault
returns-clause-fault c =
    ap (λ a. fault_of a (map (λ w. w.now) c.args.words.now)) (sym c.in_ok-command.ensures)
    ∙ c.in_ok-matches.ensures.kinds (ap is_simple_and_free c.in_ok-command.ensures ∙ free)
