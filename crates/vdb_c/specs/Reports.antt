-- What the reports on a grid write for C.
use Rattle.std.specs.Prelude.{◌≡◌, ◌⊎◌, ℕ, ℤ, pos, find, ◌+◌, ◌*◌, ◌^◌, Option, Some, None}
use Rattle.std.specs.Option.{unwrap_or}
use Rattle.vdb_coord.specs.Blocks.{is_past, vdb}
use Rattle.vdb_coord.specs.Space.{Box, everywhere}
use Rattle.vdb_coord.specs.declared.Coord.{Coord}
use Rattle.vdb_tree.specs.ConstantBlocks.{count}
use Rattle.vdb_tree.specs.Field.{Field}
use Rattle.vdb_walk.specs.Reports.{IsActiveBounds, active}
use Rattle.vdb_walk.specs.declared.smallest.Census.{Census}
use Rattle.vdb_scene.specs.declared.scalar.Scalar.{Scalar}
use Rattle.vdb_c.specs.Codes.{done, out_of_range}
use Rattle.vdb_c.specs.Values.{corner_coord, value_number}
use Rattle.vdb_c.specs.declared.values.Corner.{Corner}
use Rattle.vdb_c.specs.declared.values.Corners.{Corners}
use Rattle.vdb_c.specs.declared.values.Count.{Count}
use Rattle.vdb_c.specs.declared.values.Sizes.{Sizes}

-- a number in two parts of 64 bits
unfoldable pub count_number : Count → ℕ
count_number c = c.low + 2 ^ 64 * c.high

-- the number of active voxels of a box, or of all voxels
unfoldable pub CountsActive : Field Scalar → Option Box → Count → Type 0
CountsActive f box c = count_number c ≡ count f (unwrap_or box everywhere)

-- the sizes of a census
abbrev pub sizes_of : Census → Sizes
sizes_of c = record { roots = c.roots; upper = c.upper; lower = c.lower; leaf = c.leaf }

-- the box between two corners, in order or not
abbrev pub between : Corners → Box
between c = record { min = corner_coord c.min; max = corner_coord c.max }

-- the bounding box of the active voxels, or 0 if no voxel is active, and then the corners stay
unfoldable pub IsBounds : Field Scalar → Corners → Corners → ℤ → Type 0
IsBounds f old new found = ((found ≡ pos 1) × IsActiveBounds f (Some (between new))) ⊎ ((found ≡ pos 0) × (new ≡ old) × IsActiveBounds f None)

-- a voxel with its value, or 0 if there is none, and then both stay
unfoldable pub IsFound : Option (Coord × Scalar) → Corner → Corner → ℤ → ℤ → ℤ → Type 0
IsFound None at at' value value' found = (found ≡ pos 0) × (at' ≡ at) × (value' ≡ value)
IsFound (Some item) at at' value value' found = (found ≡ pos 1) × (corner_coord at' ≡ item.0) × (value' ≡ value_number item.1)

-- the first active voxel of a box past another was looked for, if the corners are in order
unfoldable pub LooksPast : Option Coord → Option Box → Field Scalar → Corner → Corner → ℤ → ℤ → ℤ → ℤ → ℤ → Type 0
LooksPast after None f at at' value value' found found' code = (code ≡ out_of_range) × (at' ≡ at) × (value' ≡ value) × (found' ≡ found)
LooksPast after (Some box) f at at' value value' found found' code = (code ≡ done) × IsFound (find (λ item. is_past vdb after item.0) (active vdb f box)) at at' value value' found'
