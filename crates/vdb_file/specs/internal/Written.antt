-- The state of a file that is written part by part.
use Rattle.std.specs.Prelude.{◌≡◌, ℕ, ◌+◌, ◌-◌, ◌^◌, Bool, ◌==◌, if◌then◌else◌, List, ◌++◌, filter, length, min, Option, None}
use Rattle.std.specs.List.{flat_map, range_with_len}
use Rattle.std.specs.Int.{w16, to_be_bytes}
use Rattle.std.specs.Io.KnownBytes.{Appends, append_known}

-- The bytes in the buffer, and the count of all bytes so far; the count saturates at the greatest number of 64 bits.
pub record Kept : Type 0 where
  pub pending : List ℕ
  pub total : ℕ

-- The bytes that a writer has or will have, if those are known, and their count.
pub record Sent : Type 0 where
  pub known : Option (List ℕ)
  pub total : ℕ

-- if an output only counts, as 1 says, none of the bytes is known
abbrev pub sent : ℕ → Kept → Option (List ℕ) → Sent
sent counts kept known = record { known = if counts == 1 then None else append_known known kept.pending; total = kept.total }

-- these bytes were added; the count saturates at the greatest number of 64 bits
pub record Puts (old new : Sent) (bytes : List ℕ) : Type 0 where
  pub known : Appends old.known new.known bytes
  pub total : min new.total (2 ^ 64 - 1) ≡ min (old.total + length bytes) (2 ^ 64 - 1)

-- the first n numbers that pass a test
abbrev pub passing : (ℕ → Bool) → ℕ → List ℕ
passing test n = filter test (range_with_len 0 n)

-- each of these entries after its number
abbrev pub numbered : (ℕ → List ℕ) → List ℕ → List ℕ
numbered entry is = flat_map (λ i. to_be_bytes w16 i ++ entry i) is
