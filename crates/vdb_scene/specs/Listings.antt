-- The voxels of a listing of a grid.
use Rattle.std.specs.Prelude.{List, map}
use Rattle.std.specs.Int.{int_max, int_min}
use Rattle.vdb_coord.specs.Blocks.{vdb}
use Rattle.vdb_coord.specs.Space.{Box, coord}
use Rattle.vdb_coord.specs.declared.Coord.{Coord}
use Rattle.vdb_walk.specs.Reports.{Listed, active}
use Rattle.vdb_scene.specs.Grids.{grid_field}
use Rattle.vdb_scene.specs.declared.scalar.Scalar.{Scalar}
use Rattle.vdb_scene.specs.declared.scalar.Scalar.TheVariants as scalars
use Rattle.vdb_scene.specs.declared.voxels.AnyListing.{AnyListing}
use Rattle.vdb_scene.specs.declared.voxels.AnyListing.TheVariants.{Bool, I32, I64}
use Rattle.vdb_scene.specs.declared.voxels.Voxels.{Voxels}

-- the box with these two opposite corners
abbrev pub box_across : Coord → Coord → Box
box_across p q = record { min = coord (int_min p.x q.x) (int_min p.y q.y) (int_min p.z q.z); max = coord (int_max p.x q.x) (int_max p.y q.y) (int_max p.z q.z) }

-- the active voxels of a list, in block order
abbrev pub voxels_of : Voxels → List (Coord × Scalar)
voxels_of v = active vdb (grid_field v.grid.now) (box_across v.corner v.opposite)

-- voxels with each value mapped
abbrev pub as_voxels_of : {V U : Type 0} → (V → U) → List (Coord × V) → List (Coord × U)
as_voxels_of make voxels = map (λ item. (item.0, make item.1)) voxels

-- the voxels that a listing has before it, with each value mapped
abbrev pub as_listed_of : {V U : Type 0} → (V → U) → Listed V → Listed U
as_listed_of make l = record { rest = as_voxels_of make l.rest; left = l.left }

-- the voxels that a listing of any type has before it
abbrev pub listed_of : AnyListing → Listed Scalar
listed_of (Bool l) = as_listed_of scalars.Bool l
listed_of (I32 l) = as_listed_of scalars.I32 l
listed_of (I64 l) = as_listed_of scalars.I64 l
