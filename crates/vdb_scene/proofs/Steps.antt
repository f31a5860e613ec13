-- Steps of the abstract scene, from facts about a command.
use Rattle.vdb_scene.proofs.Common.{◌≡◌, refl, ap, ◌∙◌, ℕ, Bool, true, false, cond, ◌&&◌, not, List, [], ◌∷◌, Option, Some, None, unwrap_or, Err, inl, inr, CarriesOut, Field, kind_of, Grid, Scene, field_at, grid_at, kind_at, new_grid, the_grid, Scalar, is_accessor, is_coord, first_of_all, Refused, refusal, Refusal, Command, Num, Point}
use Rattle.vdb_scene.specs.Doing.{ShowsStep}
use Rattle.vdb_scene.specs.declared.scalar.Scalar.TheVariants.{Bool as truth}
use Rattle.vdb_scene.specs.declared.answer.Answer.TheVariants as answers
use Rattle.vdb_scene.specs.declared.answer.Refusal.TheVariants as refusals
use Rattle.vdb_scene.specs.declared.command.Command.TheVariants as commands

-- if a conditional value exists, its test holds
pub test_passes : {A : Type 0} (b : Bool) (x y : A) → cond b (Some x) None ≡ Some y → (b ≡ true) × (x ≡ y)
test_passes true x y h = (refl, cc)
test_passes false x y h = absurd (none_some y h)
  where
    none_some : {A : Type 0} (y : A) → None ≡ Some y → ⊥
    none_some y h = cc

module _ (s : Scene) (name : List ℕ) (g : Grid) (found : grid_at s name ≡ Some g) where
  -- a grid that was found
  pub grid_found : the_grid s name ≡ g
  grid_found = ap (λ (o : Option Grid). unwrap_or o (new_grid (truth false) 0)) found

  pub field_found : field_at s name ≡ g.field
  field_found = ap (λ (h : Grid). h.field) grid_found

  pub kind_found : kind_at s name ≡ kind_of g.field.background
  kind_found = ap (λ (f : Field Scalar). kind_of f.background) field_found

  -- a look-up without an error
  pub get_accepted : (k : Option Num) (p : Point) → is_coord p ≡ true → is_accessor k ≡ true → refusal s (commands.Get name k p) ≡ None
  get_accepted k p there accessor = rw (found, there, accessor) refl

-- an error other than `Memory`
pub refused : (s : Scene) (c : Command) (r : Refusal) (next : Scene) → refusal s c ≡ Some r → (r ≡ refusals.Memory → ⊥) → next ≡ s → CarriesOut s c (Err r) next
refused s c refusals.Memory next is other same = absurd (other refl)
refused s c r next is other same = (is, same)

some_exact : (x y : Refusal) → Some x ≡ Some y → x ≡ y
some_exact x y h = cc

none_some : (x : Refusal) → None ≡ Some x → ⊥
none_some x h = cc

kind_memory : refusals.Kind ≡ refusals.Memory → ⊥
kind_memory h = cc

range_memory : refusals.ValueRange ≡ refusals.Memory → ⊥
range_memory h = cc

-- an error of a value alone is an error of the value beside a point
pub value_first : (form value point : Bool) (rest : List (Option Refusal)) (r : Refusal)
    → first_of_all (cond (not form) (Some refusals.Kind) None ∷ cond (not value) (Some refusals.ValueRange) None ∷ []) ≡ Some r
    → (first_of_all (cond (not form) (Some refusals.Kind) None ∷ cond (not (point && value)) (Some refusals.ValueRange) None ∷ rest) ≡ Some r) × (r ≡ refusals.Memory → ⊥)
value_first false value point rest r h = (h, λ e. kind_memory (some_exact _ _ h ∙ e))
value_first true false true rest r h = (h, λ e. range_memory (some_exact _ _ h ∙ e))
value_first true false false rest r h = (h, λ e. range_memory (some_exact _ _ h ∙ e))
value_first true true point rest r h = absurd (none_some r h)

box_memory : refusals.Box ≡ refusals.Memory → ⊥
box_memory h = cc

-- an error of a box alone comes before any error behind it
pub corners_first : (placed ordered : Bool) (rest : List (Option Refusal)) (r : Refusal)
    → first_of_all (cond (not placed) (Some refusals.ValueRange) None ∷ cond (not ordered) (Some refusals.Box) None ∷ []) ≡ Some r
    → (first_of_all (cond (not placed) (Some refusals.ValueRange) None ∷ cond (not ordered) (Some refusals.Box) None ∷ rest) ≡ Some r) × (r ≡ refusals.Memory → ⊥)
corners_first false ordered rest r h = (h, λ e. range_memory (some_exact _ _ h ∙ e))
corners_first true false rest r h = (h, λ e. box_memory (some_exact _ _ h ∙ e))
corners_first true true rest r h = absurd (none_some r h)

-- and after a value without an error
pub corners_next : (placed value ordered : Bool) (rest : List (Option Refusal)) (r : Refusal) → value ≡ true
    → first_of_all (cond (not placed) (Some refusals.ValueRange) None ∷ cond (not ordered) (Some refusals.Box) None ∷ []) ≡ Some r
    → (first_of_all (cond (not (placed && value)) (Some refusals.ValueRange) None ∷ cond (not ordered) (Some refusals.Box) None ∷ rest) ≡ Some r) × (r ≡ refusals.Memory → ⊥)
corners_next false value ordered rest r v h = corners_first false ordered rest r h
corners_next true value ordered rest r v h = rw v (corners_first true ordered rest r h)

-- if no conditional value exists, its test fails
pub test_fails : {A : Type 0} (b : Bool) (x : A) → cond b (Some x) None ≡ None → b ≡ false
test_fails true x h = absurd (some_none x h)
  where
    some_none : {A : Type 0} (x : A) → Some x ≡ None → ⊥
    some_none x h = cc
test_fails false x h = refl

-- and so is one that failed
pub step_refused : (s : Scene) (c : Command) (r : Refusal) (next : Scene) → CarriesOut s c (Err r) next → ShowsStep s c (answers.Refused r) next
step_refused s c refusals.Memory next h = (Refused refusals.Memory, refl, inr (inr (h.0, h.1, refl, h.2)))
step_refused s c r next h = (Refused r, refl, inl (r, h.0, refl, h.1))
