-- How types, values, states, accessors and boxes cross to C.
use Rattle.std.specs.Prelude.{ℕ, ℤ, pos, negsuc, Bool, true, false, not, if◌then◌else◌, nat_eq, Option, Some, None, unsigned_abs}
use Rattle.std.specs.Ordering.{int_eq}
use Rattle.vdb_coord.specs.Boxes.{box_of}
use Rattle.vdb_coord.specs.Space.{Box, coord, is_between}
use Rattle.vdb_coord.specs.declared.Coord.{Coord}
use Rattle.vdb_value.specs.Values.{has_number}
use Rattle.vdb_value.specs.declared.Kind.{Kind}
use Rattle.vdb_value.specs.declared.Kind.TheVariants as kinds
use Rattle.vdb_scene.specs.declared.scalar.Scalar.{Scalar}
use Rattle.vdb_scene.specs.declared.scalar.Scalar.TheVariants as scalars
use Rattle.vdb_c.specs.declared.values.Corner.{Corner}
use Rattle.vdb_c.specs.declared.values.Corners.{Corners}

-- the number of a type
abbrev pub kind_number : Kind → ℤ
kind_number kinds.Bool = pos 0
kind_number kinds.I32 = pos 1
kind_number kinds.I64 = pos 2

-- the type of a number, if it has one
abbrev pub kind_of_number : ℤ → Option Kind
kind_of_number n =
    if int_eq n (pos 0) then Some kinds.Bool else if int_eq n (pos 1) then Some kinds.I32 else if int_eq n (pos 2) then Some kinds.I64 else None

-- a state as a number: 1 if active, else 0
abbrev pub state_number : Bool → ℤ
state_number on = if on then pos 1 else pos 0

-- a number as a state: active unless it is 0
abbrev pub is_on : ℤ → Bool
is_on n = not (int_eq n (pos 0))

-- a state as a byte: 1 if active, else 0
abbrev pub state_byte : Bool → ℕ
state_byte on = if on then 1 else 0

-- a byte as a state: active unless it is 0
abbrev pub byte_is_on : ℕ → Bool
byte_is_on n = not (nat_eq n 0)

-- a value as a number
abbrev pub value_number : Scalar → ℤ
value_number (scalars.Bool b) = state_number b
value_number (scalars.I32 n) = n
value_number (scalars.I64 n) = n

-- a boolean as a byte; values of other types have none
abbrev pub bool_byte : Scalar → ℕ
bool_byte (scalars.Bool b) = state_byte b
bool_byte _ = 0

-- the value of a number, if the type has it
abbrev pub value_of : Kind → ℤ → Option Scalar
value_of kinds.Bool n = if int_eq n (pos 0) then Some (scalars.Bool false) else if int_eq n (pos 1) then Some (scalars.Bool true) else None
value_of kinds.I32 n = if has_number kinds.I32 n then Some (scalars.I32 n) else None
value_of kinds.I64 n = Some (scalars.I64 n)

-- the accessor of a number, or none for -1, if it is in range
abbrev pub accessor_of : ℤ → Option (Option ℕ)
accessor_of n = if int_eq n (negsuc 0) then Some None else if is_between (pos 0) (pos 7) n then Some (Some (unsigned_abs n)) else None

-- a coordinate of C
abbrev pub corner_coord : Corner → Coord
corner_coord c = coord c.x c.y c.z

-- the box of two corners, if they are in order
abbrev pub corners_box : Corners → Option Box
corners_box c = box_of (corner_coord c.min) (corner_coord c.max)
