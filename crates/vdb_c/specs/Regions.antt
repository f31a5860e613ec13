-- What the calls on a box do to a grid.
use Rattle.std.specs.Prelude.{◌≡◌, ℤ, ⊤, IfErr, OnOk}
use Rattle.vdb_coord.specs.Blocks.{vdb}
use Rattle.vdb_coord.specs.Space.{Box}
use Rattle.vdb_value.specs.declared.Cell.{Cell}
use Rattle.vdb_tree.specs.Field.{clip, fill}
use Rattle.vdb_tree.specs.Outcome.{IsOutcome}
use Rattle.vdb_tree.specs.declared.refusal.TreeRefusal.TheVariants as trees
use Rattle.vdb_scene.specs.Grids.{IsTiled, grid_field, grid_root_limit}
use Rattle.vdb_scene.specs.Scalars.{scalar_eq}
use Rattle.vdb_scene.specs.declared.any_grid.AnyGrid.{AnyGrid}
use Rattle.vdb_scene.specs.declared.scalar.Scalar.{Scalar}
use Rattle.vdb_c.specs.Calls.{Changes, OnValid, PrunesWithoutMemory, grid_kind}
use Rattle.vdb_c.specs.Values.{is_on, value_of}

-- each voxel of the box becomes this cell, and each block within the box a tile
unfoldable pub Fills : Box → Cell Scalar → AnyGrid → AnyGrid → ℤ → Type 0
Fills box cell old new code = Changes old new code (λ r. IsOutcome scalar_eq vdb (grid_root_limit old) (grid_field old) (fill box cell (grid_field old)) (grid_field new) r
    × OnOk r (IsTiled new box) × PrunesWithoutMemory new r)

-- the same for a number and a state of C, if the type has the number
unfoldable pub FillsWith : Box → ℤ → ℤ → AnyGrid → AnyGrid → ℤ → Type 0
FillsWith box number active old new code = OnValid (value_of (grid_kind old) number) old new code ⊤ (λ v. Fills box (record { value = v; on = is_on active }) old new code)

-- each voxel outside the box becomes the background, inactive, which only an allocation prevents
unfoldable pub Clips : Box → AnyGrid → AnyGrid → ℤ → Type 0
Clips box old new code = Changes old new code (λ r. IsOutcome scalar_eq vdb (grid_root_limit old) (grid_field old) (clip box (grid_field old)) (grid_field new) r
    × IfErr r (λ e. e ≡ trees.Memory) × PrunesWithoutMemory new r)
