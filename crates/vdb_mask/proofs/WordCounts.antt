-- How many values of a mask are on, word by word: for callers, and for the count of a row.
use Rattle.vdb_mask.proofs.Common.{◌≡◌, ◌+◌, ◌*◌, ◌%◌, ◌^◌, ◌<◌, ◌≤◌, ℕ, Bool, List, cond, zero, suc, refl, sym, arith, ◌==◌, bit_at, bit_at-lt, has_bit, is_on, on_count}
use Rattle.std.proofs.Common.{pow_pos}
use Rattle.std.specs.Prelude.{count_ones}
use Rattle.std.specs.Int.Count.{ones}
use Rattle.std.proofs.Math.Nat.{mod-lt}
use Rattle.std.proofs.lemmas.Nat.{mod-pow-add, ones_cat}
use Rattle.vdb_mask.proofs.MaskLemmas.{on_count-more}

one-count_ones : (bit : ℕ) → bit < 2 → count_ones bit ≡ cond (bit == 1) 1 0
unfolding ones
one-count_ones zero h = refl
one-count_ones (suc zero) h = refl
one-count_ones (suc (suc bit)) h = absurd (omega (arith, h))

low_bits-more : (word j : ℕ) → word % 2 ^ (j + 1) ≡ bit_at word j * 2 ^ j + word % 2 ^ j
low_bits-more word j =
    let same : j + 1 ≡ 1 + j = omega arith in
    rw same (mod-pow-add word 1 j)

-- a mask and its word k, as `Mask::word` returns it
module _ (mask : List Bool) (k word : ℕ) (bits : (j : ℕ) → j < 64 → is_on mask (64 * k + j) ≡ has_bit word j) where
  -- how many values are on up to bit j of the word
  on_count-low_bits : (j : ℕ) → j ≤ 64 → on_count mask (64 * k + j) ≡ on_count mask (64 * k) + count_ones (word % 2 ^ j)
  on_count-low_bits zero h =
      let same : 64 * k + 0 ≡ 64 * k = omega arith in
      let none : word % 2 ^ 0 ≡ 0 = omega arith in
      rw (same, none) (omega (arith, one-count_ones 0 (omega arith)))
  on_count-low_bits (suc j) h =
      let low : word % 2 ^ j < 2 ^ j = mod-lt word (pow_pos j) in
      let same : 64 * k + suc j ≡ (64 * k + j) + 1 = omega arith in
      let next : suc j ≡ j + 1 = omega arith in
      let one : cond (is_on mask (64 * k + j)) 1 0 ≡ count_ones (bit_at word j) =
      rw (bits j (omega (arith, h))) (sym (one-count_ones (bit_at word j) (bit_at-lt word j))) in
      let both : count_ones (word % 2 ^ (j + 1)) ≡ count_ones (bit_at word j) + count_ones (word % 2 ^ j) =
      rw (low_bits-more word j) (ones_cat j (bit_at word j) (word % 2 ^ j) low) in
      rw (same, next) (omega (arith, on_count-more mask (64 * k + j), one, both, on_count-low_bits j (omega (arith, h))))

  -- the step of a count by words
  pub on_count-word : word < 2 ^ 64 → on_count mask (64 * (k + 1)) ≡ on_count mask (64 * k) + count_ones word
  on_count-word fits =
      let same : 64 * (k + 1) ≡ 64 * k + 64 = omega arith in
      let whole : word % 2 ^ 64 ≡ word = omega (arith, fits) in
      rw same (rw whole at (on_count-low_bits 64 (omega arith)))
