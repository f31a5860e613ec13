-- What lies behind the faces of boxes, and of voxels in leaf extents.
use Rattle.std.specs.Prelude.{Bool, not, ◌&&◌, if◌then◌else◌, List}
use Rattle.std.specs.List.{list_any}
use Rattle.vdb_coord.specs.Blocks.{offset}
use Rattle.vdb_coord.specs.declared.Bits.{Bits}
use Rattle.vdb_coord.specs.declared.Level.TheVariants.{Leaf}
use Rattle.vdb_mask.specs.Mask.{is_on}
use Rattle.vdb_morph.specs.internal.Iterating.{is_around}
use Rattle.vdb_coord.specs.Faces.{toward}
use Rattle.vdb_coord.specs.Space.{Box, coord, is_inside}
use Rattle.vdb_coord.specs.declared.Coord.{Coord}
use Rattle.vdb_coord.specs.declared.face.Face.{Face}
use Rattle.vdb_coord.specs.declared.face.Face.TheVariants.{MinusX, PlusX, MinusY, PlusY, MinusZ, PlusZ}

-- the face on the other side
abbrev pub opposite : Face → Face
opposite MinusX = PlusX
opposite PlusX = MinusX
opposite MinusY = PlusY
opposite PlusY = MinusY
opposite MinusZ = PlusZ
opposite PlusZ = MinusZ

-- the voxels of the box right at a face of it
abbrev pub layer : Face → Box → Box
layer MinusX b = record b { max = coord b.min.x b.max.y b.max.z }
layer PlusX b = record b { min = coord b.max.x b.min.y b.min.z }
layer MinusY b = record b { max = coord b.max.x b.min.y b.max.z }
layer PlusY b = record b { min = coord b.min.x b.max.y b.min.z }
layer MinusZ b = record b { max = coord b.max.x b.max.y b.min.z }
layer PlusZ b = record b { min = coord b.min.x b.min.y b.max.z }

-- whether q lies behind this face of the box
abbrev pub is_behind : Face → Box → Coord → Bool
is_behind face box q = is_inside box (toward (opposite face) q) && not (is_inside box q)

-- whether q lies behind one of these faces of the box
abbrev pub is_behind_any : List Face → Box → Coord → Bool
is_behind_any faces box q = list_any (λ face. is_behind face box q) faces

-- the state behind a face of q, from the masks of q's leaf extent and of the leaf extent behind its face
abbrev pub state_beside : Bits → (own other : List Bool) → Face → Coord → Bool
state_beside bits own other face q = is_on (if is_around bits q (toward face q) then own else other) (offset bits Leaf (toward face q))
