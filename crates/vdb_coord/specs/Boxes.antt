-- Boxes from corners, and boxes that meet.
use Rattle.std.specs.Prelude.{Bool, ◌&&◌, if◌then◌else◌, int_le, Option, Some, None}
use Rattle.std.specs.Int.{int_max, int_min}
use Rattle.vdb_coord.specs.Space.{Box, coord, everywhere, is_box, is_within}
use Rattle.vdb_coord.specs.declared.Coord.{Coord}

-- whether this is a box of coordinates within their range
abbrev pub is_bounds : Box → Bool
is_bounds b = is_box b && is_within b everywhere

-- the box from the least to the greatest corner, if no component of the least is above the greatest's
abbrev pub box_of : Coord → Coord → Option Box
box_of min max = if is_box (record { min = min; max = max }) then Some (record { min = min; max = max }) else None

-- the box of the coordinates inside both, if there are any
abbrev pub overlap : Box → Box → Option Box
overlap a b = box_of
    (coord (int_max a.min.x b.min.x) (int_max a.min.y b.min.y) (int_max a.min.z b.min.z))
    (coord (int_min a.max.x b.max.x) (int_min a.max.y b.max.y) (int_min a.max.z b.max.z))

-- whether some coordinate is inside both boxes
abbrev pub meets : Box → Box → Bool
meets a b =
    (int_le b.min.x a.max.x && int_le a.min.x b.max.x)
    && (int_le b.min.y a.max.y && int_le a.min.y b.max.y)
    && (int_le b.min.z a.max.z && int_le a.min.z b.max.z)
