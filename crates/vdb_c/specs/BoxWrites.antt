-- What a call that writes a box of voxels does.
use Rattle.std.specs.Prelude.{◌≡◌, ◌⊎◌, ◌*◌, ◌&&◌, ◌+ℤ◌, ℕ, ℤ, pos, Bool, IsSome, IsTrue, List, Option, Some, None, if◌then◌else◌, nat_eq, nat_lt}
use Rattle.vdb_coord.specs.Space.{Box, coord, extent, is_inside, volume}
use Rattle.vdb_coord.specs.declared.Coord.{Coord}
use Rattle.vdb_value.specs.declared.Cell.{Cell}
use Rattle.vdb_value.specs.declared.Kind.{Kind}
use Rattle.vdb_tree.specs.Field.{Field, field, written}
use Rattle.vdb_tree.specs.declared.Write.{Write}
use Rattle.vdb_scene.specs.Grids.{grid_field, grid_root_limit}
use Rattle.vdb_scene.specs.declared.any_grid.AnyGrid.{AnyGrid}
use Rattle.vdb_scene.specs.declared.scalar.Scalar.{Scalar}
use Rattle.vdb_c.specs.BoxArrays.{box_beside}
use Rattle.vdb_c.specs.Codes.{done, out_of_range}
use Rattle.vdb_c.specs.Elements.{place}
use Rattle.vdb_c.specs.Many.{IsRefusedIn, change_at}
use Rattle.vdb_c.specs.declared.boxes.elements.Strides.{Strides}
use Rattle.vdb_c.specs.declared.values.Corners.{Corners}

-- the box of two corners, if they are in order, an array isn't empty, and both have an element of its own for each voxel or are empty
abbrev pub box_written : Corners → Strides → ℕ → ℕ → Option Box
box_written c s values states = if nat_eq values 0 && nat_eq states 0 then None else box_beside c s values states

-- the write of a voxel of a box: that of its elements
abbrev pub change_of_voxel : Kind → Box → Strides → List ℤ → List ℕ → Coord → Option (Write Scalar)
change_of_voxel kind b s values states p = change_at kind values states (place b s p)

-- the strides of an array without gaps
abbrev pub dense : Box → Strides
dense b = record { x = extent b.min.y b.max.y * extent b.min.z b.max.z; y = extent b.min.z b.max.z; z = 1 }

-- how many voxels of the box come before one by x, then y, then z: its element in an array without gaps
abbrev pub rank : Box → Coord → ℕ
rank b p = place b (dense b) p

-- whether a voxel is one of the first n of the box
abbrev pub is_first : Box → ℕ → Coord → Bool
is_first b n p = is_inside b p && nat_lt (rank b p) n

-- a cell after a write, if one is given
abbrev pub written_any : Option (Write Scalar) → Cell Scalar → Cell Scalar
written_any None c = c
written_any (Some w) c = written w c

-- each of these voxels is written
abbrev pub with_writes : (Coord → Bool) → (Coord → Option (Write Scalar)) → Field Scalar → Field Scalar
with_writes within change f = field f.background (λ p. if within p then written_any (change p) (f.cell p) else f.cell p)

-- the voxels from one on along z
abbrev pub along_z : Coord → ℕ → Coord
along_z p n = coord p.x p.y (p.z +ℤ pos n)

-- each voxel of the box was written in a field with a root limit, which are n; or the first n were, and the write of the one after them
-- fails
unfoldable pub WritesBoxUpToIn : Box → (Coord → Option (Write Scalar)) → ℕ → ℕ → Field Scalar → Field Scalar → ℕ → ℤ → Type 0
WritesBoxUpToIn b change limit limit' old new n code =
    (limit' ≡ limit)
    × (((code ≡ done) × (n ≡ volume b) × (new ≡ with_writes (is_inside b) change old))
    ⊎ ((p : Coord) × IsTrue (is_inside b p) × (n ≡ rank b p) × (new ≡ with_writes (is_first b n) change old) × IsRefusedIn limit' p (change p) new code))

-- the same for a grid
abbrev pub WritesBoxUpTo : Box → (Coord → Option (Write Scalar)) → AnyGrid → AnyGrid → ℕ → ℤ → Type 0
WritesBoxUpTo b change old new n code = WritesBoxUpToIn b change (grid_root_limit old) (grid_root_limit new) (grid_field old) (grid_field new) n code

-- the voxels of the box were written, if each has a write; otherwise nothing changes
unfoldable pub WritesBox : Box → (Coord → Option (Write Scalar)) → AnyGrid → AnyGrid → ℕ → ℕ → ℤ → Type 0
WritesBox b change old new had n code =
    (((p : Coord) → IsTrue (is_inside b p) → IsSome (change p)) × WritesBoxUpTo b change old new n code)
    ⊎ (((p : Coord) × IsTrue (is_inside b p) × (change p ≡ None)) × (code ≡ out_of_range) × (new ≡ old) × (n ≡ had))
