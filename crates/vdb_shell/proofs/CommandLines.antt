-- The meaning of a command line of given words: the files that they name, or the one fault that they have.
use Rattle.vdb_shell.proofs.Common.{◌≡◌, refl, List, [], ◌∷◌, Option, Some, None, codes, Text, fault_of, given, program}
use Rattle.clap.specs.Words.{Kinds}
use Rattle.clap.specs.declared.error.kind.ErrorKind.TheVariants as kinds
use Rattle.clap.proofs.OnLiterals.{clap_on_literals}

-- the words name this scene file to load, this one to save and this script, and have no fault
abbrev Names : List Text → Option Text → Option Text → Option Text → Type 0
Names words load save script =
    (given (codes "load") words ≡ load) × (given (codes "save") words ≡ save)
    × (given (codes "script") words ≡ script) × (fault_of program words ≡ [])

nothing : Names (codes "vdb" ∷ []) None None None
unfolding clap_on_literals
nothing = (refl, refl, refl, refl)

load_and_script : Names (codes "vdb" ∷ codes "--load" ∷ codes "f" ∷ codes "g" ∷ []) (Some (codes "f")) None (Some (codes "g"))
unfolding clap_on_literals
load_and_script = (refl, refl, refl, refl)

all_three : Names (codes "vdb" ∷ codes "g" ∷ codes "--save=h" ∷ codes "--load=f" ∷ []) (Some (codes "f")) (Some (codes "h")) (Some (codes "g"))
unfolding clap_on_literals
all_three = (refl, refl, refl, refl)

after_two_hyphens : Names (codes "vdb" ∷ codes "--" ∷ codes "--load" ∷ []) None None (Some (codes "--load"))
unfolding clap_on_literals
after_two_hyphens = (refl, refl, refl, refl)

-- the words have this fault and no other
abbrev Faulty : List Text → Kinds → Type 0
Faulty words kinds = fault_of program words ≡ kinds

no_file : Faulty (codes "vdb" ∷ codes "--load" ∷ []) (kinds.InvalidValue ∷ [])
unfolding clap_on_literals
no_file = refl

an_option_for_a_file : Faulty (codes "vdb" ∷ codes "--load" ∷ codes "--save" ∷ codes "f" ∷ []) (kinds.InvalidValue ∷ [])
unfolding clap_on_literals
an_option_for_a_file = refl

twice : Faulty (codes "vdb" ∷ codes "--load" ∷ codes "f" ∷ codes "--load=g" ∷ []) (kinds.ArgumentConflict ∷ [])
unfolding clap_on_literals
twice = refl

unknown : Faulty (codes "vdb" ∷ codes "--lod" ∷ codes "f" ∷ []) (kinds.UnknownArgument ∷ [])
unfolding clap_on_literals
unknown = refl

unknown_letter : Faulty (codes "vdb" ∷ codes "-l" ∷ codes "f" ∷ []) (kinds.UnknownArgument ∷ [])
unfolding clap_on_literals
unknown_letter = refl

two_scripts : Faulty (codes "vdb" ∷ codes "f" ∷ codes "g" ∷ []) (kinds.UnknownArgument ∷ [])
unfolding clap_on_literals
two_scripts = refl

help : Faulty (codes "vdb" ∷ codes "--help" ∷ []) (kinds.DisplayHelp ∷ [])
unfolding clap_on_literals
help = refl

version : Faulty (codes "vdb" ∷ codes "--version" ∷ []) (kinds.DisplayVersion ∷ [])
unfolding clap_on_literals
version = refl
