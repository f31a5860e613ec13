-- What a contract sees of a mask: a list of booleans.
use Rattle.std.specs.Prelude.{◌≡◌, ◌==◌, ◌*◌, ◌/◌, ◌%◌, ◌<◌, ◌≤◌, ℕ, Bool, true, false, not, List, length, map, slice_index_or, Option, Some, None}
use Rattle.std.specs.Int.{bit_at}
use Rattle.std.specs.List.{count_by, range_with_len}

-- whether bit j of a word is 1
abbrev pub has_bit : ℕ → ℕ → Bool
has_bit word j = bit_at word j == 1

-- bit i of a row of words of 64 bits, counted from the lowest bit of the first word
abbrev pub bit_of : List ℕ → ℕ → Bool
bit_of words i = has_bit (slice_index_or words (i / 64) 0) (i % 64)

-- every bit of a row of words
unfoldable pub bits_of : List ℕ → List Bool
bits_of words = map (bit_of words) (range_with_len 0 (64 * length words))

-- whether the value at an index is on: each index past the end is off
abbrev pub is_on : List Bool → ℕ → Bool
is_on mask i = slice_index_or mask i false

-- how many of the first n values are on
unfoldable pub on_count : List Bool → ℕ → ℕ
on_count mask n = count_by (is_on mask) (range_with_len 0 n)

-- the first of the indices from `from` on and below n that has this value
pub record IsNextAt (value : Bool) (mask : List Bool) (n from index : ℕ) : Type 0 where
  pub within : index < n
  pub from_on : from ≤ index
  pub here : is_on mask index ≡ value
  pub before : (i : ℕ) → from ≤ i → i < index → is_on mask i ≡ not value

-- the first index from `from` on and below n that has this value, and nothing if none has it
abbrev pub IsNext : Bool → List Bool → ℕ → ℕ → Option ℕ → Type 0
IsNext value mask n from (Some index) = IsNextAt value mask n from index
IsNext value mask n from None = (i : ℕ) → from ≤ i → i < n → is_on mask i ≡ not value

-- whether the value at an index is this one
abbrev pub is_value : Bool → List Bool → ℕ → Bool
is_value true mask i = is_on mask i
is_value false mask i = not (is_on mask i)

-- the first of the indices from `from` on and below n that is on
pub record IsFirstOnAt (on : ℕ → Bool) (n from index : ℕ) : Type 0 where
  pub within : index < n
  pub from_on : from ≤ index
  pub here : on index ≡ true
  pub before : (i : ℕ) → from ≤ i → i < index → on i ≡ false

-- the first index from `from` on and below n that is on, and nothing if none is
abbrev pub IsFirstOn : (ℕ → Bool) → ℕ → ℕ → Option ℕ → Type 0
IsFirstOn on n from (Some index) = IsFirstOnAt on n from index
IsFirstOn on n from None = (i : ℕ) → from ≤ i → i < n → on i ≡ false
