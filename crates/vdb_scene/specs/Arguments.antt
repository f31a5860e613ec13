-- The coordinates, accessors, limits and iterations in the numbers of a line.
use Rattle.std.specs.Prelude.{ℕ, ℤ, pos, Bool, true, ◌&&◌, Option, Some, None, unsigned_abs}
use Rattle.vdb_coord.specs.Space.{Box, coord, everywhere, is_between}
use Rattle.vdb_coord.specs.declared.Coord.{Coord}
use Rattle.vdb_scene.specs.Scalars.{is_near, number}
use Rattle.vdb_scene.specs.declared.command.Area.{Area}
use Rattle.vdb_scene.specs.declared.command.Corners.{Corners}
use Rattle.vdb_scene.specs.declared.command.Num.{Num}
use Rattle.vdb_scene.specs.declared.command.Point.{Point}

-- the coordinate that a line names
abbrev pub coord_of : Point → Coord
coord_of p = coord (number p.x) (number p.y) (number p.z)

-- whether a number of a line lies between low and high, both included
abbrev pub is_from : ℤ → ℤ → Num → Bool
is_from low high n = is_near (is_between low high) n

-- whether it has 32 bits
abbrev pub is_component : Num → Bool
is_component n = is_from everywhere.min.x everywhere.max.x n

-- whether a line names a coordinate
abbrev pub is_coord : Point → Bool
is_coord p = is_component p.x && is_component p.y && is_component p.z

-- the box between two corners of a line
abbrev pub box_between : Corners → Box
box_between c = record { min = coord_of c.min; max = coord_of c.max }

-- whether both corners are coordinates
abbrev pub are_coords : Corners → Bool
are_coords c = is_coord c.min && is_coord c.max

-- the corners of a part of a plane of one z
abbrev pub flat : Num → Area → Corners
flat z a = record { min = record { x = a.min_x; y = a.min_y; z = z }; max = record { x = a.max_x; y = a.max_y; z = z } }

-- the box of a line, or the box of all coordinates
abbrev pub region : Option Corners → Box
region None = everywhere
region (Some c) = box_between c

-- the number of a line as a count
abbrev pub count_of : Num → ℕ
count_of n = unsigned_abs (number n)

-- whether a line names an accessor, 0 to 7, or none
abbrev pub is_accessor : Option Num → Bool
is_accessor None = true
is_accessor (Some k) = is_from (pos 0) (pos 7) k

-- the accessor of a line, if it names one
abbrev pub accessor_of : Option Num → Option ℕ
accessor_of None = None
accessor_of (Some k) = Some (count_of k)

-- whether a line names a limit of a list, 1 to 4,096
abbrev pub is_limit : Num → Bool
is_limit n = is_from (pos 1) (pos 4096) n

-- whether a line names a limit of root blocks, 1 to 65,536, or none
abbrev pub is_root_limit : Option Num → Bool
is_root_limit None = true
is_root_limit (Some n) = is_from (pos 1) (pos 65536) n

-- the limit of a line, or 4,096 without one
abbrev pub root_limit_of : Option Num → ℕ
root_limit_of None = 4096
root_limit_of (Some n) = count_of n

-- whether a line names a number of iterations, 1 to 16
abbrev pub is_iteration_count : Num → Bool
is_iteration_count n = is_from (pos 1) (pos 16) n
