-- The bits of a row of words.
use Rattle.vdb_mask.proofs.Common.{◌≡◌, ◌≢◌, ◌+◌, ◌*◌, ◌/◌, ◌%◌, ◌^◌, ◌<◌, ◌≤◌, ℕ, false, List, length, get_or, set, take, refl, sym, ◌∙◌, inl, inr, arith, bit_at, cases_lt, eqb_tells, get_or_past, has_bit, is_on}
use Rattle.std.proofs.Common.{replicate, get_or-set_other, get_or-set_same}
use Rattle.std.proofs.lemmas.List.{get_or-replicate, get_or-take, length-replicate}
use Rattle.std.proofs.lemmas.List.FromFn.{get_or-map-range_with_len, length-map-range_with_len}
use Rattle.vdb_mask.specs.Mask.{bit_of, bits_of}
use Rattle.vdb_mask.proofs.WordBits.{has_bit-zero, same_from_has_bit}

-- a row has 64 bits a word
pub length-bits_of : (words : List ℕ) → length (bits_of words) ≡ 64 * length words
unfolding bits_of
length-bits_of words = length-map-range_with_len (bit_of words) 0 (64 * length words)

bit_within : (words : List ℕ) (i : ℕ) → i < 64 * length words → is_on (bits_of words) i ≡ bit_of words i
unfolding bits_of
bit_within words i h = get_or-map-range_with_len (bit_of words) 0 (64 * length words) i i false h (omega arith)

-- past the end of the row each value is off
pub is_on-past : (words : List ℕ) (i : ℕ) → 64 * length words ≤ i → is_on (bits_of words) i ≡ false
is_on-past words i h = get_or_past (bits_of words) i false (omega (arith, h, length-bits_of words))

-- the value at an index is that bit of that word
pub is_on-bits_of : (words : List ℕ) (i : ℕ) → is_on (bits_of words) i ≡ bit_of words i
is_on-bits_of words i =
    elim (cases_lt i (64 * length words)) [
      | inl h ↦ bit_within words i h
      | inr h ↦ is_on-past words i h ∙ sym (rw (get_or_past words (i / 64) 0 (omega (arith, h))) (has_bit-zero (i % 64)))
    ]

-- the value at an index, with the word and the bit given
pub is_on-at : (words : List ℕ) (k j : ℕ) → j < 64 → is_on (bits_of words) (64 * k + j) ≡ has_bit (get_or words k 0) j
is_on-at words k j h =
    let word_index : (64 * k + j) / 64 ≡ k = omega (arith, h) in
    let bit_index : (64 * k + j) % 64 ≡ j = omega (arith, h) in
    is_on-bits_of words (64 * k + j) ∙ rw (word_index, bit_index) refl

-- the row with word k written
module _ (words : List ℕ) (k word : ℕ) where
  -- in word k the values are the new word's bits
  pub is_on-set_here : k < length words → (j : ℕ) → j < 64 → is_on (bits_of (set words k word)) (64 * k + j) ≡ has_bit word j
  is_on-set_here inside j h = is_on-at (set words k word) k j h ∙ rw (get_or-set_same words k word 0 inside) refl

  -- in each other word the values stay
  pub is_on-set_other : (i : ℕ) → i / 64 ≢ k → is_on (bits_of (set words k word)) i ≡ is_on (bits_of words) i
  is_on-set_other i other =
      is_on-bits_of (set words k word) i ∙ (rw (get_or-set_other words k (i / 64) word 0 other) refl) ∙ sym (is_on-bits_of words i)

-- the row with the word around index i written
module _ (words : List ℕ) (i word : ℕ) (within : i < 64 * length words) where
  -- the value at index i is the new word's bit
  pub is_on-set_bit : is_on (bits_of (set words (i / 64) word)) i ≡ has_bit word (i % 64)
  is_on-set_bit = is_on-bits_of (set words (i / 64) word) i ∙ rw (get_or-set_same words (i / 64) word 0 (omega (arith, within))) refl

  -- if the new word has the old one's other bits, each other value stays
  pub is_on-set_kept : ((j : ℕ) → j < 64 → j ≢ i % 64 → bit_at word j ≡ bit_at (get_or words (i / 64) 0) j)
      → (j : ℕ) → j ≢ i → is_on (bits_of (set words (i / 64) word)) j ≡ is_on (bits_of words) j
  is_on-set_kept kept j other =
      elim (eqb_tells (j / 64) (i / 64)) [
        | inl e ↦
            let same : bit_at word (j % 64) ≡ bit_at (get_or words (i / 64) 0) (j % 64) =
            kept (j % 64) (omega arith) (λ equal. other (omega (arith, e.1, equal))) in
            is_on-bits_of (set words (i / 64) word) j
            ∙ (rw (e.1, get_or-set_same words (i / 64) word 0 (omega (arith, within)), same) refl)
            ∙ sym (is_on-bits_of words j)
        | inr e ↦ is_on-set_other words (i / 64) word j e.1
      ]

-- a row of one word throughout
pub is_on-replicate : (n word i : ℕ) → i < 64 * n → is_on (bits_of (replicate n word)) i ≡ has_bit word (i % 64)
is_on-replicate n word i h = is_on-bits_of (replicate n word) i ∙ rw (get_or-replicate n (i / 64) word 0 (omega (arith, h))) refl

-- past the end of a row of one word throughout
pub is_on-replicate_past : (n word i : ℕ) → 64 * n ≤ i → is_on (bits_of (replicate n word)) i ≡ false
is_on-replicate_past n word i h = is_on-past (replicate n word) i (omega (arith, h, length-replicate n word))

-- a row whose every bit is that of one word
pub same_words : (words : List ℕ) (word k : ℕ) → get_or words k 0 < 2 ^ 64 → word < 2 ^ 64 → ((j : ℕ) → j < 64 → is_on (bits_of words) (64 * k + j) ≡ has_bit word j)
    → get_or words k 0 ≡ word
same_words words word k fits_row fits_word same =
    same_from_has_bit (get_or words k 0) word fits_row fits_word (λ j h. sym (is_on-at words k j h) ∙ same j h)

-- the first k words of a row have its values
pub is_on-take : (words : List ℕ) (k i : ℕ) → i < 64 * k → is_on (bits_of (take k words)) i ≡ is_on (bits_of words) i
is_on-take words k i h =
    is_on-bits_of (take k words) i ∙ (rw (get_or-take k words (i / 64) 0 (omega (arith, h))) refl) ∙ sym (is_on-bits_of words i)
