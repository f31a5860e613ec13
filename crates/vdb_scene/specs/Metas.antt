-- The metadata pairs of a grid: texts under keys, which are names.
use Rattle.std.specs.Prelude.{◌≡◌, ℕ, ◌-◌, Bool, true, false, ◌&&◌, ◌||◌, nat_le, nat_lt, List, ◌++◌, length, replicate, is_some, Result, Ok, Err}
use Rattle.std.specs.List.{list_all}
use Rattle.std.specs.List.Sorted.{IsStrictlySortedBy}
use Rattle.std.specs.Ordering.{nat_cmp}
use Rattle.std.specs.Cmp.Lexicographic.{slice_cmp}
use Rattle.std.specs.Map.{keys_of, lookup, remove_entry}
use Rattle.std.specs.BTreeMap.{insert_entry, is_at}
use Rattle.vdb_scene.specs.declared.answer.Refusal.{Refusal}
use Rattle.vdb_scene.specs.declared.answer.Refusal.TheVariants as refusals

-- ---- texts

-- a printable ASCII character other than space: hexadecimal 21 to 7E
abbrev pub is_text_byte : ℕ → Bool
is_text_byte b = nat_le 33 b && nat_le b 126

-- one to sixty-four printable characters
abbrev pub is_text : List ℕ → Bool
is_text bytes = list_all is_text_byte bytes && nat_le 1 (length bytes) && nat_le (length bytes) 64

-- the bytes of a text, with zeros up to sixty-four
abbrev pub padded_text : List ℕ → List ℕ
padded_text text = text ++ replicate (64 - length text) 0

-- ---- pairs

-- the pairs of a grid, each text under its key, by rising bytes of the keys
abbrev pub Pairs : Type 0
Pairs = List (List ℕ × List ℕ)

-- the keys rise by their bytes, and each is there once
abbrev pub HasRisingKeys : Pairs → Type 0
HasRisingKeys pairs = IsStrictlySortedBy (slice_cmp nat_cmp) (keys_of pairs)

-- whether another key is this one
abbrev pub is_key : List ℕ → List ℕ → Bool
is_key key = is_at (slice_cmp nat_cmp key)

-- whether a key has a pair
abbrev pub has_pair : Pairs → List ℕ → Bool
has_pair pairs key = is_some (lookup (is_key key) pairs)

-- whether a pair may be set: its key has a text, or fewer than sixteen pairs exist
abbrev pub may_set : Pairs → List ℕ → Bool
may_set pairs key = has_pair pairs key || nat_lt (length pairs) 16

-- the pairs with this text for a key, which may be new
abbrev pub with_pair : Pairs → List ℕ → List ℕ → Pairs
with_pair pairs key text = insert_entry (slice_cmp nat_cmp) pairs key text

-- the pairs without a key
abbrev pub without_pair : Pairs → List ℕ → Pairs
without_pair pairs key = remove_entry (is_key key) pairs

-- The pair is set, or the pairs stay: error for a seventeenth pair, or for an allocation that a new pair needs.
abbrev pub SetsPair : Pairs → List ℕ → List ℕ → Result (Unit {0}) Refusal → Pairs → Type 0
SetsPair before key text (Ok _) after = (may_set before key ≡ true) × (after ≡ with_pair before key text)
SetsPair before key text (Err refusals.MetaLimit) after = (may_set before key ≡ false) × (after ≡ before)
SetsPair before key text (Err refusals.Memory) after = (may_set before key ≡ true) × (has_pair before key ≡ false) × (after ≡ before)
SetsPair before key text (Err r) after = ⊥
