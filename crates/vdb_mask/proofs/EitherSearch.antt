-- The first index that is on in one of two rows, from a word that has a 1 at each such bit.
use Rattle.vdb_mask.proofs.Common.{◌≡◌, ◌+◌, ◌-◌, ◌*◌, ◌%◌, ◌^◌, ◌<◌, ◌≤◌, ℕ, Bool, true, false, List, get_or, refl, sym, ◌∙◌, inl, inr, arith, w64, ◌||◌, bit_and, bit_or, not, bit_at, trailing_zeros, cases_lt, and_le_l, bit_at_and, bit_at-lt, bit_at_mask_below, bit_at_mask_inside, bit_at-trailing_zeros, bit_at-zero, ones_shl, bits_of, has_bit, is_on, is_value, IsFirstOnAt}
use Rattle.vdb_mask.proofs.RowBits.{is_on-at}
use Rattle.vdb_mask.proofs.WordBits.{has_bit-or}

-- from bit r of word k on, the bits of `found` are the values, and those before are 0
pub record Shows (on : ℕ → Bool) (k r found : ℕ) : Type 0 where
  pub fits : found < 2 ^ 64
  pub bits : (j : ℕ) → r ≤ j → j < 64 → on (64 * k + j) ≡ has_bit found j
  pub cleared : (j : ℕ) → j < r → bit_at found j ≡ 0

module _ (on : ℕ → Bool) (k r found : ℕ) (shows : Shows on k r found) where
  off_at : (i : ℕ) → 64 * k + r ≤ i → i < 64 * k + 64 → bit_at found (i - 64 * k) ≡ 0 → on i ≡ false
  off_at i low high zero_there =
      let same : 64 * k + (i - 64 * k) ≡ i = omega (arith, low) in
      let at = shows.bits (i - 64 * k) (omega (arith, low)) (omega (arith, low, high)) in
      (rw same at at) ∙ rw zero_there refl

  -- if nothing is found, no index of the word from bit r on is on
  pub none_shown : found ≡ 0 → (i : ℕ) → 64 * k + r ≤ i → i < 64 * k + 64 → on i ≡ false
  none_shown none i low high = off_at i low high (rw none (bit_at-zero (i - 64 * k)))

  -- the lowest 1 is the first index that is on, if none before the word's bit r was
  pub first_shown : 0 < found → (n : ℕ) → k < n → (from : ℕ) → from ≤ 64 * k + r → ((i : ℕ) → from ≤ i → i < 64 * k + r → on i ≡ false)
      → IsFirstOnAt on (64 * n) from (64 * k + trailing_zeros w64 found)
  first_shown some n inside from low before =
      let lowest : ℕ = trailing_zeros w64 found in
      let is_lowest = bit_at-trailing_zeros w64 found some shows.fits in
      let from_r : r ≤ lowest =
      elim (cases_lt lowest r) [
        | inl h ↦ absurd (let off = shows.cleared lowest h in omega (arith, off, is_lowest.1))
        | inr h ↦ h
      ] in
      record {
        within = omega (arith, inside, is_lowest.0);
        from_on = omega (arith, low, from_r);
        here = shows.bits lowest from_r is_lowest.0 ∙ rw is_lowest.1 refl;
        before = λ i least less.
            elim (cases_lt i (64 * k + r)) [
              | inl h ↦ before i least h
              | inr h ↦ off_at i h (omega (arith, less, is_lowest.0)) (is_lowest.2 (i - 64 * k) (omega (arith, h, less)))
            ];
      }

-- with the bits below r cut off, a word shows the values from bit r on
pub Shows-from : (on : ℕ → Bool) (k r found : ℕ) → r < 64 → Shows on k 0 found → Shows on k r (bit_and found ((2 ^ 64 - 1) * 2 ^ r % 2 ^ 64))
Shows-from on k r found low shows =
    record {
      fits = omega (arith, shows.fits, and_le_l found ((2 ^ 64 - 1) * 2 ^ r % 2 ^ 64));
      bits = λ j from h. shows.bits j (omega arith) h ∙ rw (kept j from h) refl;
      cleared = λ j h. rw (ones_shl 64 r (omega (arith, low)), bit_at_and found (2 ^ 64 - 2 ^ r) j, bit_at_mask_below r 64 j h) (omega arith);
    }
  where
    kept : (j : ℕ) → r ≤ j → j < 64 → bit_at (bit_and found ((2 ^ 64 - 1) * 2 ^ r % 2 ^ 64)) j ≡ bit_at found j
    kept j from h =
        rw (ones_shl 64 r (omega (arith, low)), bit_at_and found (2 ^ 64 - 2 ^ r) j, bit_at_mask_inside r 64 j from h)
        (let b = bit_at-lt found j in omega arith)

-- a bit of a word of matches
match_bit : (value : Bool) (words : List ℕ) (k matches j : ℕ) → j < 64 → (bit_at matches j ≡ 1 → has_bit (get_or words k 0) j ≡ value)
    → (bit_at matches j ≡ 0 → has_bit (get_or words k 0) j ≡ not value) → is_value value (bits_of words) (64 * k + j) ≡ has_bit matches j
match_bit true words k matches j h one none =
    elim (cases_lt (bit_at matches j) 1) [
      | inl low ↦
          let zero_there : bit_at matches j ≡ 0 = omega (arith, low) in
          is_on-at words k j h ∙ none zero_there ∙ rw zero_there refl
      | inr high ↦
          let one_there : bit_at matches j ≡ 1 = omega (arith, high, bit_at-lt matches j) in
          is_on-at words k j h ∙ one one_there ∙ rw one_there refl
    ]
match_bit false words k matches j h one none =
    elim (cases_lt (bit_at matches j) 1) [
      | inl low ↦
          let zero_there : bit_at matches j ≡ 0 = omega (arith, low) in
          rw (is_on-at words k j h, none zero_there, zero_there) refl
      | inr high ↦
          let one_there : bit_at matches j ≡ 1 = omega (arith, high, bit_at-lt matches j) in
          rw (is_on-at words k j h, one one_there, one_there) refl
    ]

-- the word k of a row, joined with the matches in that of another row, shows the values of either
pub Shows-either : (value : Bool) (words others : List ℕ) (k matches : ℕ) → bit_or (get_or words k 0) matches < 2 ^ 64
    → ((j : ℕ) → j < 64 → bit_at matches j ≡ 1 → has_bit (get_or others k 0) j ≡ value)
    → ((j : ℕ) → j < 64 → bit_at matches j ≡ 0 → has_bit (get_or others k 0) j ≡ not value)
    → Shows (λ i. is_on (bits_of words) i || is_value value (bits_of others) i) k 0 (bit_or (get_or words k 0) matches)
Shows-either value words others k matches fits ones zeros =
    record {
      fits = fits;
      bits = λ j _ h.
          rw (is_on-at words k j h, match_bit value others k matches j h (ones j h) (zeros j h))
          (sym (has_bit-or (get_or words k 0) matches j));
      cleared = λ j h. absurd (omega (arith, h));
    }
