-- The bits of a run in one word, and a row with such a word written.
use Rattle.vdb_mask.proofs.Common.{◌≡◌, ◌≢◌, ◌+◌, ◌-◌, ◌*◌, ◌/◌, ◌%◌, ◌^◌, ◌<◌, ◌≤◌, ℕ, Bool, true, false, List, length, get_or, set, refl, sym, ◌∙◌, inl, inr, arith, bit_and, cases_lt, bit_at_mask_below, bit_at_mask_inside, bit_at_ones, ones_shl, bits_of, has_bit, is_on}
use Rattle.std.proofs.lemmas.Nat.Bits.{bit_at_ones_above, ones_shr}
use Rattle.vdb_mask.proofs.RowBits.{is_on-at, is_on-set_here, is_on-set_other}
use Rattle.vdb_mask.proofs.WordBits.{has_bit-and}

-- the word of a run, as it is computed
abbrev pub run_word : ℕ → ℕ → ℕ
run_word low high = bit_and ((2 ^ 64 - 1) * 2 ^ low % 2 ^ 64) ((2 ^ 64 - 1) / 2 ^ (64 - high))

module _ (low high : ℕ) (begins : low < 64) (ends : high ≤ 64) where
  from_low : (j : ℕ) → low ≤ j → j < 64 → has_bit ((2 ^ 64 - 1) * 2 ^ low % 2 ^ 64) j ≡ true
  from_low j h below = rw (ones_shl 64 low (omega (arith, begins)), bit_at_mask_inside low 64 j h below) refl

  below_low : (j : ℕ) → j < low → has_bit ((2 ^ 64 - 1) * 2 ^ low % 2 ^ 64) j ≡ false
  below_low j h = rw (ones_shl 64 low (omega (arith, begins)), bit_at_mask_below low 64 j h) refl

  same_high : 64 - (64 - high) ≡ high
  same_high = omega (arith, ends)

  below_high : (j : ℕ) → j < high → has_bit ((2 ^ 64 - 1) / 2 ^ (64 - high)) j ≡ true
  below_high j h = rw (ones_shr 64 (64 - high) (omega arith), same_high, bit_at_ones high j h) refl

  from_high : (j : ℕ) → high ≤ j → has_bit ((2 ^ 64 - 1) / 2 ^ (64 - high)) j ≡ false
  from_high j h = rw (ones_shr 64 (64 - high) (omega arith), same_high, bit_at_ones_above high j h) refl

  -- in the run its bits are 1
  pub run_word-in : (j : ℕ) → low ≤ j → j < high → has_bit (run_word low high) j ≡ true
  run_word-in j h below = has_bit-and _ _ j ∙ rw (from_low j h (omega (arith, below, ends)), below_high j below) refl

  -- before the run they are 0
  pub run_word-before : (j : ℕ) → j < low → has_bit (run_word low high) j ≡ false
  run_word-before j h = has_bit-and _ _ j ∙ rw (below_low j h) refl

  -- after the run its bits are 0
  pub run_word-after : (j : ℕ) → high ≤ j → j < 64 → has_bit (run_word low high) j ≡ false
  run_word-after j h below =
      has_bit-and _ _ j
      ∙ elim (cases_lt j low) [
        | inl less ↦ rw (below_low j less) refl
        | inr past ↦ rw (from_low j past below, from_high j h) refl
      ]

-- word k of a row is written: in the run its bits are `on`, and elsewhere those of the old word
module _ (words : List ℕ) (k word low high : ℕ) (on : Bool) (inside : k < length words) (ends : high ≤ 64)
    (run : (j : ℕ) → low ≤ j → j < high → has_bit word j ≡ on)
    (before : (j : ℕ) → j < low → has_bit word j ≡ has_bit (get_or words k 0) j)
    (after : (j : ℕ) → high ≤ j → j < 64 → has_bit word j ≡ has_bit (get_or words k 0) j) where
  written_at : (i : ℕ) → 64 * k ≤ i → i < 64 * k + 64 → is_on (bits_of (set words k word)) i ≡ has_bit word (i - 64 * k)
  written_at i from_k below =
      let same : 64 * k + (i - 64 * k) ≡ i = omega (arith, from_k) in
      rw same at (is_on-set_here words k word inside (i - 64 * k) (omega (arith, from_k, below)))

  old_at : (i : ℕ) → 64 * k ≤ i → i < 64 * k + 64 → is_on (bits_of words) i ≡ has_bit (get_or words k 0) (i - 64 * k)
  old_at i from_k below =
      let same : 64 * k + (i - 64 * k) ≡ i = omega (arith, from_k) in
      rw same at (is_on-at words k (i - 64 * k) (omega (arith, from_k, below)))

  pub written_run : (i : ℕ) → 64 * k + low ≤ i → i < 64 * k + high → is_on (bits_of (set words k word)) i ≡ on
  written_run i least less =
      written_at i (omega (arith, least)) (omega (arith, less, ends)) ∙ run (i - 64 * k) (omega (arith, least)) (omega (arith, least, less))

  kept_elsewhere : (i : ℕ) → i / 64 ≢ k → is_on (bits_of (set words k word)) i ≡ is_on (bits_of words) i
  kept_elsewhere i other = is_on-set_other words k word i other

  pub kept_before : (i : ℕ) → i < 64 * k + low → low < 64 → is_on (bits_of (set words k word)) i ≡ is_on (bits_of words) i
  kept_before i less begins =
      elim (cases_lt i (64 * k)) [
        | inl h ↦ kept_elsewhere i (λ e. omega (arith, e, h))
        | inr h ↦
            written_at i h (omega (arith, less, begins)) ∙ before (i - 64 * k) (omega (arith, less, h)) ∙ sym (old_at i h (omega (arith, less, begins)))
      ]

  pub kept_after : (i : ℕ) → 64 * k + high ≤ i → is_on (bits_of (set words k word)) i ≡ is_on (bits_of words) i
  kept_after i past =
      elim (cases_lt i (64 * k + 64)) [
        | inl h ↦
            written_at i (omega (arith, past)) h ∙ after (i - 64 * k) (omega (arith, past)) (omega (arith, past, h)) ∙ sym (old_at i (omega (arith, past)) h)
        | inr h ↦ kept_elsewhere i (λ e. omega (arith, e, h))
      ]
