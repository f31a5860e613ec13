-- The box of a call that goes over it by arrays.
use Rattle.std.specs.Prelude.{◌≡◌, ◌≢◌, ◌⊎◌, ◌&&◌, ℕ, ℤ, List, Option, Some, None, if◌then◌else◌, length}
use Rattle.std.specs.Option.{option_and_then}
use Rattle.vdb_coord.specs.Space.{Box, is_inside}
use Rattle.vdb_coord.specs.declared.Coord.{Coord}
use Rattle.vdb_scene.specs.Grids.{grid_field}
use Rattle.vdb_scene.specs.declared.any_grid.AnyGrid.{AnyGrid}
use Rattle.vdb_scene.specs.declared.scalar.Scalar.{Scalar}
use Rattle.vdb_tree.specs.Field.{Field}
use Rattle.vdb_value.specs.declared.Kind.{Kind}
use Rattle.vdb_c.specs.Calls.{grid_kind}
use Rattle.vdb_c.specs.Codes.{done, other_kind, out_of_range}
use Rattle.vdb_c.specs.Elements.{IsLaid, are_apart, has_places}
use Rattle.vdb_c.specs.Many.{byte_at}
use Rattle.vdb_c.specs.Values.{corners_box}
use Rattle.vdb_c.specs.declared.boxes.elements.Strides.{Strides}
use Rattle.vdb_c.specs.declared.values.Corners.{Corners}

-- the box of two corners, if they are in order and both arrays have an element of its own for each voxel
abbrev pub box_beside : Corners → Strides → ℕ → ℕ → Option Box
box_beside c s values states =
    option_and_then (λ b. if are_apart b s && (has_places b s values && has_places b s states) then Some b else None) (corners_box c)

-- a call reads the value by `value_at` and the state of each voxel of a box of a grid of this type to its elements; otherwise nothing
-- changes
unfoldable pub ReadsBoxOf : {X : Type 0} → Kind → (Field Scalar → Coord → X) → Corners → Strides → AnyGrid → List X → List X → List ℕ → List ℕ → ℤ → Type 0
ReadsBoxOf kind value_at c s g values values' states states' code =
    ((b : Box) × (box_beside c s (length values) (length states) ≡ Some b) × (grid_kind g ≡ kind) × (code ≡ done)
    × IsLaid b s (is_inside b) (value_at (grid_field g)) values values' × IsLaid b s (is_inside b) (byte_at (grid_field g)) states states')
    ⊎ ((box_beside c s (length values) (length states) ≡ None) × (code ≡ out_of_range) × (values' ≡ values) × (states' ≡ states))
    ⊎ ((grid_kind g ≢ kind) × (code ≡ other_kind) × (values' ≡ values) × (states' ≡ states))
