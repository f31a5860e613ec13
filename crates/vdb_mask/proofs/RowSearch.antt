-- The first bit of a row that has a given value, from a word that has a 1 at each such bit.
use Rattle.vdb_mask.proofs.Common.{◌≡◌, ◌+◌, ◌-◌, ◌*◌, ◌%◌, ◌^◌, ◌<◌, ◌≤◌, ℕ, Bool, List, length, get_or, sym, ◌∙◌, inl, inr, arith, w64, bit_and, not, bit_at, trailing_zeros, cases_lt, and_le_l, bit_at_and, bit_at-lt, bit_at_mask_below, bit_at_mask_inside, bit_at-trailing_zeros, bit_at-zero, ones_shl, bits_of, has_bit, is_on, IsNextAt}
use Rattle.vdb_mask.proofs.RowBits.{is_on-at}

-- from bit r on, a 1 of `found` is a bit of `word` with this value, and a 0 one without
pub record Finds (value : Bool) (word r found : ℕ) : Type 0 where
  pub fits : found < 2 ^ 64
  pub ones : (j : ℕ) → j < 64 → bit_at found j ≡ 1 → has_bit word j ≡ value
  pub zeros : (j : ℕ) → r ≤ j → j < 64 → bit_at found j ≡ 0 → has_bit word j ≡ not value
  pub cleared : (j : ℕ) → j < r → bit_at found j ≡ 0

-- word k of a row, and what finds the value in it
module _ (value : Bool) (words : List ℕ) (k r found : ℕ) (inside : k < length words) (finds : Finds value (get_or words k 0) r found) where
  value_without : (i : ℕ) → 64 * k + r ≤ i → i < 64 * k + 64 → bit_at found (i - 64 * k) ≡ 0 → is_on (bits_of words) i ≡ not value
  value_without i low high zero_there =
      let same : 64 * k + (i - 64 * k) ≡ i = omega (arith, low) in
      let at = is_on-at words k (i - 64 * k) (omega (arith, low, high)) in
      (rw same at at) ∙ finds.zeros (i - 64 * k) (omega (arith, low)) (omega (arith, low, high)) zero_there

  -- if nothing is found, no bit of the word from r on has the value
  pub none_found : found ≡ 0 → (i : ℕ) → 64 * k + r ≤ i → i < 64 * k + 64 → is_on (bits_of words) i ≡ not value
  none_found none i low high = value_without i low high (rw none (bit_at-zero (i - 64 * k)))

  -- the lowest 1 is the first index, if none before the word's bit r had the value
  pub first_found : 0 < found → (from : ℕ) → from ≤ 64 * k + r → ((i : ℕ) → from ≤ i → i < 64 * k + r → is_on (bits_of words) i ≡ not value)
      → IsNextAt value (bits_of words) (64 * length words) from (64 * k + trailing_zeros w64 found)
  first_found some from low before =
      let lowest : ℕ = trailing_zeros w64 found in
      let is_lowest = bit_at-trailing_zeros w64 found some finds.fits in
      let from_r : r ≤ lowest =
      elim (cases_lt lowest r) [
        | inl h ↦ absurd (let off = finds.cleared lowest h in omega (arith, off, is_lowest.1))
        | inr h ↦ h
      ] in
      record {
        within = omega (arith, inside, is_lowest.0);
        from_on = omega (arith, low, from_r);
        here = is_on-at words k lowest is_lowest.0 ∙ finds.ones lowest is_lowest.0 is_lowest.1;
        before = λ i least less.
            elim (cases_lt i (64 * k + r)) [
              | inl h ↦ before i least h
              | inr h ↦ value_without i h (omega (arith, less, is_lowest.0)) (is_lowest.2 (i - 64 * k) (omega (arith, h, less)))
            ];
      }

-- `matches & (u64::MAX << r)` finds the value from bit r on
pub Finds-from : (value : Bool) (word matches r : ℕ) → r < 64 → matches < 2 ^ 64 → ((j : ℕ) → j < 64 → bit_at matches j ≡ 1 → has_bit word j ≡ value)
    → ((j : ℕ) → j < 64 → bit_at matches j ≡ 0 → has_bit word j ≡ not value) → Finds value word r (bit_and matches ((2 ^ 64 - 1) * 2 ^ r % 2 ^ 64))
Finds-from value word matches r low fits ones zeros =
    record {
      fits = omega (arith, fits, and_le_l matches ((2 ^ 64 - 1) * 2 ^ r % 2 ^ 64));
      ones = λ j h one. ones j h (let b = bit_at-lt matches j in omega (arith, one, bit_at_and matches ((2 ^ 64 - 1) * 2 ^ r % 2 ^ 64) j, b));
      zeros = λ j from h none. zeros j h (sym (kept j from h) ∙ none);
      cleared = λ j h. rw (ones_shl 64 r (omega (arith, low)), bit_at_and matches (2 ^ 64 - 2 ^ r) j, bit_at_mask_below r 64 j h) (omega arith);
    }
  where
    kept : (j : ℕ) → r ≤ j → j < 64 → bit_at (bit_and matches ((2 ^ 64 - 1) * 2 ^ r % 2 ^ 64)) j ≡ bit_at matches j
    kept j from h =
        rw (ones_shl 64 r (omega (arith, low)), bit_at_and matches (2 ^ 64 - 2 ^ r) j, bit_at_mask_inside r 64 j from h)
        (let b = bit_at-lt matches j in omega arith)

-- a word of matches finds the value from bit 0 on
pub Finds-matches : (value : Bool) (word matches : ℕ) → matches < 2 ^ 64 → ((j : ℕ) → j < 64 → bit_at matches j ≡ 1 → has_bit word j ≡ value)
    → ((j : ℕ) → j < 64 → bit_at matches j ≡ 0 → has_bit word j ≡ not value) → Finds value word 0 matches
Finds-matches value word matches fits ones zeros =
    record { fits = fits; ones = ones; zeros = λ j _ h. zeros j h; cleared = λ j h. absurd (omega (arith, h)) }
