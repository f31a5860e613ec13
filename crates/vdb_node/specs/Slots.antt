-- The slot of a child that stands in the place of a value.
use Rattle.std.specs.Prelude.{ℕ, ℤ, pos, ◌+ℤ◌, unsigned_abs}
use Rattle.std.specs.Int.{int_rem_euclid}

-- by a value of 32 bits: the least value is slot 0, the next one slot 1, and so on
abbrev pub slot_of_i32 : ℤ → ℕ
slot_of_i32 value = unsigned_abs (value +ℤ pos 2147483648)

-- by a value of 64 bits: its last 32 bits
abbrev pub slot_of_i64 : ℤ → ℕ
slot_of_i64 value = unsigned_abs (int_rem_euclid value (pos 4294967296))
