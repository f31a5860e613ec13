-- What lies beyond the faces of a box: together, all that lies outside it.
use Rattle.std.specs.Prelude.{pos, ◌+ℤ◌, ◌-ℤ◌, Bool, ◌&&◌, if◌then◌else◌, List, int_lt}
use Rattle.std.specs.List.{list_any}
use Rattle.vdb_coord.specs.Space.{Box, coord, everywhere, is_inside}
use Rattle.vdb_coord.specs.declared.Coord.{Coord}
use Rattle.vdb_coord.specs.declared.face.Face.{Face}
use Rattle.vdb_coord.specs.declared.face.Face.TheVariants.{MinusX, PlusX, MinusY, PlusY, MinusZ, PlusZ}
use Rattle.vdb_tree.specs.Field.{Field, field, off}

-- whether q lies past the face, along its axis
abbrev pub is_beyond : Box → Coord → Face → Bool
is_beyond b q MinusX = int_lt q.x b.min.x
is_beyond b q PlusX = int_lt b.max.x q.x
is_beyond b q MinusY = int_lt q.y b.min.y
is_beyond b q PlusY = int_lt b.max.y q.y
is_beyond b q MinusZ = int_lt q.z b.min.z
is_beyond b q PlusZ = int_lt b.max.z q.z

-- all coordinates before the box along the face's axis, or all behind it
abbrev pub half : Box → Face → Box
half b MinusX = record everywhere { max = coord (b.min.x -ℤ pos 1) everywhere.max.y everywhere.max.z }
half b PlusX = record everywhere { min = coord (b.max.x +ℤ pos 1) everywhere.min.y everywhere.min.z }
half b MinusY = record everywhere { max = coord everywhere.max.x (b.min.y -ℤ pos 1) everywhere.max.z }
half b PlusY = record everywhere { min = coord everywhere.min.x (b.max.y +ℤ pos 1) everywhere.min.z }
half b MinusZ = record everywhere { max = coord everywhere.max.x everywhere.max.y (b.min.z -ℤ pos 1) }
half b PlusZ = record everywhere { min = coord everywhere.min.x everywhere.min.y (b.max.z +ℤ pos 1) }

-- the field with nothing but the background in the outer box beyond these faces of the inner one
abbrev pub clear : {V : Type 0} → Box → Box → List Face → Field V → Field V
clear outer inner faces f = field f.background (λ q. if is_inside outer q && list_any (is_beyond inner q) faces then off f.background else f.cell q)
