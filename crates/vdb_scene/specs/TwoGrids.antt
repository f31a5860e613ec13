-- Operations on two grids, and their errors.
use Rattle.std.specs.Prelude.{◌≡◌, ℕ, List, [], ◌∷◌, Option, None, Some, Result, Ok, Err}
use Rattle.vdb_tree.specs.Field.{Field, combine, replace, sum}
use Rattle.vdb_tree.specs.Field.{ruled}
use Rattle.vdb_scene.specs.Refusals.{beyond_limit, first_of_all, no_sum, other_kind, sum_range}
use Rattle.vdb_scene.specs.Scalars.{scalar_greater, scalar_lesser, scalar_sum}
use Rattle.vdb_scene.specs.declared.answer.Refusal.{Refusal}
use Rattle.vdb_scene.specs.declared.answer.Refusal.TheVariants as refusals
use Rattle.vdb_scene.specs.declared.command.Command.{Command}
use Rattle.vdb_scene.specs.declared.command.Command.TheVariants as commands
use Rattle.vdb_scene.specs.declared.scalar.Scalar.{Scalar}
use Rattle.vdb_composite.specs.declared.sums.SumRefusal.{SumRefusal}
use Rattle.vdb_composite.specs.declared.sums.SumRefusal.TheVariants as sums
use Rattle.vdb_tree.specs.declared.pairs.StateRule.TheVariants.{Unite, Subtract, Intersect}
use Rattle.vdb_scene.specs.declared.two_grids.Composite.TheVariants.{Maximum, Minimum, Sum, Replace}
use Rattle.vdb_scene.specs.declared.two_grids.Operation.{Operation}
use Rattle.vdb_scene.specs.declared.two_grids.Operation.TheVariants.{States, Values}

-- the command that asks for an operation
abbrev pub command_of : Operation → List ℕ → List ℕ → Command
command_of (States Unite) name other = commands.Union name other
command_of (States Subtract) name other = commands.Difference name other
command_of (States Intersect) name other = commands.Intersect name other
command_of (Values Maximum) name other = commands.Max name other
command_of (Values Minimum) name other = commands.Min name other
command_of (Values Sum) name other = commands.Sum name other
command_of (Values Replace) name other = commands.Replace name other

-- the field of an operation on two fields
abbrev pub made_of : Operation → Field Scalar → Field Scalar → Field Scalar
made_of (States rule) f g = ruled rule f g
made_of (Values Maximum) f g = combine scalar_greater f g
made_of (Values Minimum) f g = combine scalar_lesser f g
made_of (Values Sum) f g = sum scalar_sum f g
made_of (Values Replace) f g = replace f g

-- The errors of an operation once both grids exist, with this limit for the first one. If only states change, the grids
-- may have different types, and only a union can exceed a limit that held before.
abbrev pub tried_of : Operation → ℕ → Field Scalar → Field Scalar → List (Option Refusal)
tried_of (States rule) limit f g = beyond_limit limit (ruled rule f g) ∷ []
tried_of (Values Sum) limit f g = other_kind f g ∷ no_sum f ∷ sum_range f g ∷ beyond_limit limit (sum scalar_sum f g) ∷ []
tried_of o limit f g = other_kind f g ∷ beyond_limit limit (made_of o f g) ∷ []

-- the error of a sum
abbrev pub of_sum : SumRefusal → Refusal
of_sum sums.SumRange = refusals.SumRange
of_sum sums.RootLimit = refusals.RootLimit
of_sum sums.Memory = refusals.Memory

-- A field becomes the changed one; or it stays, with the first error of a list that applies, or `Memory` if none does.
abbrev pub Gives : List (Option Refusal) → Field Scalar → Field Scalar → Field Scalar → Result (Unit {0}) Refusal → Type 0
Gives tried old changed new (Ok _) = (first_of_all tried ≡ None) × (new ≡ changed)
Gives tried old changed new (Err refusals.Memory) = (first_of_all tried ≡ None) × (new ≡ old)
Gives tried old changed new (Err r) = (first_of_all tried ≡ Some r) × (new ≡ old)

-- an error other than `RootLimit` and `Memory` leaves everything unchanged, not only the cells
abbrev pub StaysBut : {A : Type 0} → Refusal → A → A → Type 0
StaysBut refusals.RootLimit old new = Unit {0}
StaysBut refusals.Memory old new = Unit {0}
StaysBut r old new = new ≡ old

-- the outcome of an operation on two fields, with this limit for the first
abbrev pub IsMade : Operation → ℕ → Field Scalar → Field Scalar → Field Scalar → Result (Unit {0}) Refusal → Type 0
IsMade o limit f g = Gives (tried_of o limit f g) f (made_of o f g)
