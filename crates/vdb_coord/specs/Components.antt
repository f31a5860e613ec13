-- One component of a coordinate, and the blocks of 2 ^ bits numbers each along its axis. Division rounds down.
use Rattle.std.specs.Prelude.{ℕ, ℤ, pos, ◌+◌, ◌-◌, ◌/◌, ◌^◌, ◌+ℤ◌, ◌*ℤ◌, unsigned_abs}
use Rattle.std.specs.Int.{int_div_euclid, int_rem_euclid}

-- the number of the block that holds x
abbrev pub number_at : ℕ → ℤ → ℤ
number_at bits x = int_div_euclid x (pos (2 ^ bits))

-- the first number of block n, and the last
abbrev pub first_of : ℕ → ℤ → ℤ
first_of bits n = n *ℤ pos (2 ^ bits)

abbrev pub last_of : ℕ → ℤ → ℤ
last_of bits n = first_of bits n +ℤ pos (2 ^ bits - 1)

-- the position of the entry of 2 ^ low numbers that holds x, in its block of 2 ^ (low + bits)
abbrev pub digit : ℕ → ℕ → ℤ → ℕ
digit low bits x = unsigned_abs (int_rem_euclid x (pos (2 ^ (low + bits)))) / 2 ^ low
