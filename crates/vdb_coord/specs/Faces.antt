-- The six faces of a voxel, and its neighbours behind them.
use Rattle.std.specs.Prelude.{pos, ◌+ℤ◌, ◌-ℤ◌, if◌then◌else◌, List, [], ◌∷◌, Option, Some, None}
use Rattle.std.specs.List.{filter_map}
use Rattle.vdb_coord.specs.Space.{coord, everywhere, is_inside}
use Rattle.vdb_coord.specs.declared.Coord.{Coord}
use Rattle.vdb_coord.specs.declared.face.Face.{Face}
use Rattle.vdb_coord.specs.declared.face.Face.TheVariants.{MinusX, PlusX, MinusY, PlusY, MinusZ, PlusZ}

-- the coordinate behind the face, within the range or not
abbrev pub toward : Face → Coord → Coord
toward MinusX p = coord (p.x -ℤ pos 1) p.y p.z
toward PlusX p = coord (p.x +ℤ pos 1) p.y p.z
toward MinusY p = coord p.x (p.y -ℤ pos 1) p.z
toward PlusY p = coord p.x (p.y +ℤ pos 1) p.z
toward MinusZ p = coord p.x p.y (p.z -ℤ pos 1)
toward PlusZ p = coord p.x p.y (p.z +ℤ pos 1)

-- the neighbour behind the face, if it lies within the range
abbrev pub neighbour : Face → Coord → Option Coord
neighbour face p = if is_inside everywhere (toward face p) then Some (toward face p) else None

-- the six faces
abbrev pub faces : List Face
faces = MinusX ∷ PlusX ∷ MinusY ∷ PlusY ∷ MinusZ ∷ PlusZ ∷ []

-- the face neighbours of a coordinate, which differ from it by 1 in one component
abbrev pub neighbours : Coord → List Coord
neighbours p = filter_map (λ face. neighbour face p) faces
