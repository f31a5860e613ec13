-- The voxels of a box, one after another.
use Rattle.std.specs.Prelude.{◌≡◌, ◌⊎◌, Bool, Option, Some, None, IsTrue}
use Rattle.vdb_coord.specs.Space.{Box, is_inside}
use Rattle.vdb_coord.specs.Walk.{IsBefore}
use Rattle.vdb_coord.specs.declared.Coord.{Coord}

-- the first voxel of the box past p by x, then y, then z; none if p is the last one
abbrev pub IsNextVoxel : Box → Coord → Option Coord → Type 0
IsNextVoxel box p None = (q : Coord) → IsTrue (is_inside box q) → IsBefore q p ⊎ (q ≡ p)
IsNextVoxel box p (Some next) = IsTrue (is_inside box next) × IsBefore p next × ((q : Coord) → IsTrue (is_inside box q) → IsBefore q next → IsBefore q p ⊎ (q ≡ p))

-- a set has the voxels of a box that come before p
pub record IsUpTo (b : Box) (p : Coord) (passed : Coord → Bool) : Type 0 where
  pub inside : (q : Coord) → IsTrue (passed q) → IsTrue (is_inside b q)
  pub before : (q : Coord) → IsTrue (passed q) → IsBefore q p
  pub all : (q : Coord) → IsTrue (is_inside b q) → IsBefore q p → IsTrue (passed q)
