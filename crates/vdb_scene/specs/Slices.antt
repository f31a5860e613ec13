-- The numbers, cells and rows that a slice still yields.
use Rattle.std.specs.Prelude.{◌≡◌, ℤ, List, [], ◌∷◌, map, Option, Some, None}
use Rattle.vdb_coord.specs.Space.{coord, range}
use Rattle.vdb_value.specs.declared.Cell.{Cell}
use Rattle.vdb_scene.specs.Grids.{grid_field}
use Rattle.vdb_scene.specs.Readers.{field_read}
use Rattle.vdb_scene.specs.Replies.{Row, row_at}
use Rattle.vdb_scene.specs.declared.scalar.Scalar.{Scalar}
use Rattle.vdb_scene.specs.declared.slice.Slice.{Slice}
use Rattle.vdb_scene.specs.declared.slice.SliceRow.{SliceRow}

-- the numbers from the next one on, to the last
abbrev pub numbers_left : Option ℤ → ℤ → List ℤ
numbers_left None last = []
numbers_left (Some next) last = range next last

-- the next of these numbers is yielded, or none if none is left
abbrev pub YieldsNumber : Option ℤ → ℤ → Option ℤ → Option ℤ → Type 0
YieldsNumber old last None new = (numbers_left old last ≡ []) × (numbers_left new last ≡ [])
YieldsNumber old last (Some number) new = numbers_left old last ≡ number ∷ numbers_left new last

-- the cell of a row at an x
abbrev pub row_cell : SliceRow → ℤ → Cell Scalar
row_cell r x = (field_read r.cells).cell (coord x r.y r.z)

-- the cells that a row still yields
abbrev pub cells_left : SliceRow → List (Cell Scalar)
cells_left r = map (row_cell r) (numbers_left r.x r.last)

-- the rows that a slice still yields
abbrev pub rows_left : Slice → List Row
rows_left s = map (row_at (grid_field s.grid.now) s.min.x s.max.x s.min.z) (numbers_left s.y s.max.y)

-- a row yields its next cell, or none if none is left
abbrev pub YieldsCell : SliceRow → Option (Cell Scalar) → SliceRow → Type 0
YieldsCell old None new = (cells_left old ≡ []) × (cells_left new ≡ []) × (new.y ≡ old.y)
YieldsCell old (Some cell) new = (cells_left old ≡ cell ∷ cells_left new) × (new.y ≡ old.y)

-- a slice yields its next row, or none if none is left
abbrev pub YieldsRow : Slice → Option SliceRow → Slice → Type 0
YieldsRow old None new = (rows_left old ≡ []) × (rows_left new ≡ [])
YieldsRow old (Some row) new = rows_left old ≡ record { y = row.y; cells = cells_left row } ∷ rows_left new
