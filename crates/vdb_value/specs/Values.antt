-- Ranges, sums, bytes and texts of values.
use Rattle.std.specs.Prelude.{ℕ, ℤ, pos, negsuc, ◌+ℤ◌, Bool, true, false, ◌&&◌, ◌==◌, nat_le, slice_index, length, if◌then◌else◌, int_le, List, [], ◌∷◌, Option, Some, None, codes}
use Rattle.std.specs.Int.{Width, cast_unsigned, to_be_bytes}
use Rattle.vdb_value.specs.declared.Kind.{Kind}
use Rattle.vdb_value.specs.declared.Kind.TheVariants.{Bool as truths, I32, I64}

-- whether the kind has this number
abbrev pub has_number : Kind → ℤ → Bool
has_number truths z = false
has_number I32 z = int_le (negsuc 2147483647) z && int_le z (pos 2147483647)
has_number I64 z = int_le (negsuc 9223372036854775807) z && int_le z (pos 9223372036854775807)

-- the sum, if the kind has it
abbrev pub sum_in : Kind → ℤ → ℤ → Option ℤ
sum_in kind x y = if has_number kind (x +ℤ y) then Some (x +ℤ y) else None

-- the bytes of a number in two's complement, most significant first
abbrev pub number_bytes : Width → ℤ → List ℕ
number_bytes w z = to_be_bytes w (cast_unsigned w z)

-- the byte of a boolean
abbrev pub truth_bytes : Bool → List ℕ
truth_bytes b = (if b then 1 else 0) ∷ []

-- the word of a boolean
abbrev pub truth_text : Bool → List ℕ
truth_text b = if b then codes "true" else codes "false"

-- whether two values of the kind may have a sum
abbrev pub has_sums : Kind → Bool
has_sums truths = false
has_sums I32 = true
has_sums I64 = true

-- how many bytes a value of the kind has
abbrev pub byte_count : Kind → ℕ
byte_count truths = 1
byte_count I32 = 4
byte_count I64 = 8

-- whether these are the bytes of a value of the kind
abbrev pub are_bytes_of : Kind → List ℕ → Bool
are_bytes_of truths bytes = length bytes == 1 && nat_le (slice_index bytes 0) 1
are_bytes_of I32 bytes = length bytes == 4
are_bytes_of I64 bytes = length bytes == 8
