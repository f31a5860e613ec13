-- The command line of the program.
use Rattle.std.specs.Prelude.{List, [], ◌∷◌, Option, Some, true, codes}
use Rattle.clap.specs.Words.{App, Rule, Text, first_of, matches_of, new_app, new_rule}
use Rattle.clap.specs.declared.builder.action.ArgAction.TheVariants.{Set}

-- an option of this name that takes a file
abbrev pub file_rule : Text → Rule
file_rule name = record (new_rule name) { long = Some name; action = Some Set; value_names = 1 }

-- a word without an option before it, which is the script
abbrev pub script_rule : Rule
script_rule = record (new_rule (codes "script")) { action = Some Set; value_names = 1 }

-- the program: two options that take a file and one word beside them, each at most once, and the requests for help and the version
abbrev pub program : App
program =
    let plain = new_app (codes "vdb") in
    record plain {
      top = record plain.top { rules = file_rule (codes "load") ∷ file_rule (codes "save") ∷ script_rule ∷ []; has_version = true };
    }

-- the word that a command line gives an option, or the script
abbrev pub given : Text → List Text → Option Text
given name words = first_of name (matches_of program words)
