-- Values of the three types, and the meaning of a line's words for them.
use Rattle.std.specs.Prelude.{ℕ, ℤ, pos, Bool, true, false, ◌&&◌, ◌||◌, List, Option, None}
use Rattle.std.specs.Int.{int_max, int_min, w32, w64}
use Rattle.std.specs.Option.{option_map}
use Rattle.std.specs.Ordering.{int_eq}
use Rattle.std.specs.Fmt.{signed_decimal}
use Rattle.std.proofs.Math.Bool.{beq}
use Rattle.vdb_value.specs.Values.{has_number, number_bytes, sum_in, truth_bytes, truth_text}
use Rattle.vdb_value.specs.declared.Kind.{Kind}
use Rattle.vdb_value.specs.declared.Kind.TheVariants as kinds
use Rattle.vdb_scene.specs.declared.command.Literal.{Literal}
use Rattle.vdb_scene.specs.declared.command.Literal.TheVariants.{Number, Truth}
use Rattle.vdb_scene.specs.declared.command.Num.{Num}
use Rattle.vdb_scene.specs.declared.command.Num.TheVariants.{Near, Far}
use Rattle.vdb_scene.specs.declared.scalar.Scalar.{Scalar}
use Rattle.vdb_scene.specs.declared.scalar.Scalar.TheVariants.{Bool as truth, I32, I64}

-- the type of a value
abbrev pub kind_of : Scalar → Kind
kind_of (truth b) = kinds.Bool
kind_of (I32 z) = kinds.I32
kind_of (I64 z) = kinds.I64

-- whether two types are equal
abbrev pub kind_eq : Kind → Kind → Bool
kind_eq kinds.Bool kinds.Bool = true
kind_eq kinds.I32 kinds.I32 = true
kind_eq kinds.I64 kinds.I64 = true
kind_eq _ _ = false

-- whether a value has the type
abbrev pub is_of : Kind → Scalar → Bool
is_of kind v = kind_eq (kind_of v) kind

-- whether two values are equal
abbrev pub scalar_eq : Scalar → Scalar → Bool
scalar_eq (truth a) (truth b) = beq a b
scalar_eq (I32 y) (I32 z) = int_eq y z
scalar_eq (I64 y) (I64 z) = int_eq y z
scalar_eq _ _ = false

-- the text of a value: a decimal number, true or false
abbrev pub scalar_text : Scalar → List ℕ
scalar_text (truth b) = truth_text b
scalar_text (I32 z) = signed_decimal z
scalar_text (I64 z) = signed_decimal z

-- ---- two values of one type

-- the lesser of two values of one type: `and` for booleans; for two types the first, which an error excludes
abbrev pub scalar_lesser : Scalar → Scalar → Scalar
scalar_lesser (truth a) (truth b) = truth (a && b)
scalar_lesser (I32 y) (I32 z) = I32 (int_min y z)
scalar_lesser (I64 y) (I64 z) = I64 (int_min y z)
scalar_lesser x y = x

-- the greater of two values of one type: `or` for booleans
abbrev pub scalar_greater : Scalar → Scalar → Scalar
scalar_greater (truth a) (truth b) = truth (a || b)
scalar_greater (I32 y) (I32 z) = I32 (int_max y z)
scalar_greater (I64 y) (I64 z) = I64 (int_max y z)
scalar_greater x y = x

-- the sum of two numbers of one type, if the type contains it
abbrev pub scalar_sum : Scalar → Scalar → Option Scalar
scalar_sum (I32 y) (I32 z) = option_map I32 (sum_in kinds.I32 y z)
scalar_sum (I64 y) (I64 z) = option_map I64 (sum_in kinds.I64 y z)
scalar_sum x y = None

-- the bytes of a value, most significant first: 1 for a boolean, 4 or 8 for a number
abbrev pub scalar_bytes : Scalar → List ℕ
scalar_bytes (truth b) = truth_bytes b
scalar_bytes (I32 z) = number_bytes w32 z
scalar_bytes (I64 z) = number_bytes w64 z

-- ---- as a line has them

-- the number of a line; 0 for one outside 64 bits, which every range excludes
abbrev pub number : Num → ℤ
number (Near z) = z
number Far = pos 0

-- whether a number of a line passes a test of numbers of 64 bits
abbrev pub is_near : (ℤ → Bool) → Num → Bool
is_near test (Near z) = test z
is_near test Far = false

-- whether a value of a line has the form of the type: a boolean for booleans, a number for the others
abbrev pub has_form : Kind → Literal → Bool
has_form kinds.Bool (Truth b) = true
has_form kinds.Bool (Number n) = false
has_form kinds.I32 (Truth b) = false
has_form kinds.I32 (Number n) = true
has_form kinds.I64 (Truth b) = false
has_form kinds.I64 (Number n) = true

-- whether a value of a line lies in the type's range
abbrev pub has_value : Kind → Literal → Bool
has_value kind (Truth b) = true
has_value kind (Number n) = is_near (has_number kind) n

-- the value of the type in a line; false for one of another form, which an error excludes
abbrev pub scalar : Kind → Literal → Scalar
scalar kinds.I32 (Number n) = I32 (number n)
scalar kinds.I64 (Number n) = I64 (number n)
scalar kinds.Bool (Number n) = truth false
scalar _ (Truth b) = truth b
