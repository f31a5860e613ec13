-- The answers of commands.
use Rattle.std.specs.Prelude.{ℕ, ℤ, Bool, List, length, map, take, nat_lt, Option}
use Rattle.vdb_coord.specs.Space.{Box, coord, range}
use Rattle.vdb_coord.specs.declared.Coord.{Coord}
use Rattle.vdb_value.specs.declared.Cell.{Cell}
use Rattle.vdb_tree.specs.Field.{Field}
use Rattle.vdb_walk.specs.declared.smallest.Census.{Census as Smallest}
use Rattle.vdb_scene.specs.Metas.{Pairs as MetaPairs}
use Rattle.vdb_scene.specs.declared.answer.Refusal.{Refusal}
use Rattle.vdb_scene.specs.declared.scalar.Scalar.{Scalar}

-- A row of a slice: its y, and the cells by rising x.
pub record Row : Type 0 where
  pub y : ℤ
  pub cells : List (Cell Scalar)

-- the row of y and z, from one x to another
abbrev pub row_at : Field Scalar → ℤ → ℤ → ℤ → ℤ → Row
row_at f low high z y = record { y = y; cells = map (λ x. f.cell (coord x y z)) (range low high) }

-- the rows of a box at its least z, by rising y
abbrev pub rows : Field Scalar → Box → List Row
rows f box = map (row_at f box.min.x box.max.x box.min.z) (range box.min.y box.max.y)

-- the answer of a command
pub data Reply : Type 0 where
  Done : Reply
  Refused : (refusal : Refusal) → Reply
  Value : (cell : Cell Scalar) → Reply
  Listing : (voxels : List (Coord × Scalar)) → (more : Bool) → Reply
  Slice : (rows : List Row) → Reply
  Count : (active : ℕ) → Reply
  Bounds : (box : Option Box) → Reply
  Census : (counts : Smallest) → Reply
  Pairs : (pairs : MetaPairs) → Reply

-- the first voxels of a list up to a limit, and whether more follow
abbrev pub listing : ℕ → List (Coord × Scalar) → Reply
listing n voxels = Listing (take n voxels) (nat_lt n (length voxels))
