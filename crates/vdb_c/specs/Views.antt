-- Views: grids that several handles share.
use Rattle.std.specs.Prelude.{◌≡◌, ◌⊎◌, ℤ, Box, Option, Some, None}
use Rattle.std.specs.Option.{option_and_then, option_map}
use Rattle.std.specs.Arc.{arc_value}
use Rattle.vdb_scene.specs.declared.any_grid.AnyGrid.{AnyGrid}
use Rattle.vdb_c.specs.Codes.{done, empty, memory, out_of_range}
use Rattle.vdb_c.specs.declared.handles.view.View.{View}

abbrev boxed : {A : Type 0} → Box AnyGrid A → AnyGrid
boxed b = b.value

-- the grid that a view shows, if it has one
abbrev pub shown : Option View → Option AnyGrid
shown = option_and_then (λ (v : View). option_map (λ a. boxed (arc_value a)) v.grid)

-- the grid of a handle became a view's, or memory ran out, or the handle is empty
abbrev pub IsShown : Option AnyGrid → Option AnyGrid → Option View → Option View → ℤ → Type 0
IsShown None kept old new code = (code ≡ empty) × (kept ≡ None) × (new ≡ old)
IsShown (Some g) kept old new code = ((code ≡ done) × (kept ≡ None) × (shown new ≡ Some g)) ⊎ ((code ≡ memory) × (kept ≡ Some g) × (new ≡ old))

-- a second view of the same grid, or memory ran out, or there is no grid
abbrev pub IsShared : Option AnyGrid → Option View → Option View → ℤ → Type 0
IsShared None old new code = (code ≡ empty) × (new ≡ old)
IsShared (Some g) old new code = ((code ≡ done) × (shown new ≡ Some g)) ⊎ ((code ≡ memory) × (new ≡ old))

-- the grid of a view became a handle's, or it has other views, or there is no grid
abbrev pub IsTaken : Option AnyGrid → Option View → Option View → Option AnyGrid → Option AnyGrid → ℤ → Type 0
IsTaken None old kept held new code = (code ≡ empty) × (kept ≡ old) × (new ≡ held)
IsTaken (Some g) old kept held new code = ((code ≡ done) × (kept ≡ None) × (new ≡ Some g)) ⊎ ((code ≡ out_of_range) × (kept ≡ old) × (new ≡ held))

-- a call that reads the grid of a view: an empty view changes nothing
abbrev pub OnView : Option AnyGrid → ℤ → Type 0 → (AnyGrid → Type 0) → Type 0
OnView None code kept call = (code ≡ empty) × kept
OnView (Some g) code kept call = call g

-- a call that reads the grid of a view, with an argument that is tested: an empty view, or a wrong argument, changes nothing
abbrev pub OnShownIf : {B : Type 0} → Option AnyGrid → Option B → ℤ → Type 0 → (AnyGrid → B → Type 0) → Type 0
OnShownIf None b code kept answer = (code ≡ empty) × kept
OnShownIf (Some g) None code kept answer = (code ≡ out_of_range) × kept
OnShownIf (Some g) (Some b) code kept answer = (code ≡ done) × answer g b

-- such a call without an argument that could be wrong
abbrev pub OnShown : Option AnyGrid → ℤ → Type 0 → (AnyGrid → Type 0) → Type 0
OnShown g code kept answer = OnShownIf g (Some g) code kept (λ h _. answer h)
