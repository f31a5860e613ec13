-- The bits of one word.
use Rattle.vdb_mask.proofs.Common.{◌≡◌, ◌-◌, ◌^◌, ◌<◌, ℕ, true, false, zero, suc, max, min, refl, arith, w64, ◌==◌, ◌&&◌, ◌||◌, not, bit_and, bit_or, bit_not, bit_at_and, bit_at_not, bit_at-lt, bit_at_ones, bit_at-zero, has_bit}
use Rattle.std.proofs.lemmas.Nat.Bits.{bit_at_or, same_from_bits_below}

one-max : (a b : ℕ) → a < 2 → b < 2 → (max a b == 1) ≡ (a == 1 || b == 1)
one-max zero zero _ _ = refl
one-max zero (suc zero) _ _ = refl
one-max (suc zero) zero _ _ = refl
one-max (suc zero) (suc zero) _ _ = refl
one-max (suc (suc a)) b h k = absurd (omega (arith, h))
one-max zero (suc (suc b)) h k = absurd (omega (arith, k))
one-max (suc zero) (suc (suc b)) h k = absurd (omega (arith, k))

one-min : (a b : ℕ) → a < 2 → b < 2 → (min a b == 1) ≡ (a == 1 && b == 1)
one-min zero zero _ _ = refl
one-min zero (suc zero) _ _ = refl
one-min (suc zero) zero _ _ = refl
one-min (suc zero) (suc zero) _ _ = refl
one-min (suc (suc a)) b h k = absurd (omega (arith, h))
one-min zero (suc (suc b)) h k = absurd (omega (arith, k))
one-min (suc zero) (suc (suc b)) h k = absurd (omega (arith, k))

one-less : (a : ℕ) → a < 2 → (1 - a == 1) ≡ not (a == 1)
one-less zero _ = refl
one-less (suc zero) _ = refl
one-less (suc (suc a)) h = absurd (omega (arith, h))

same_from_one : (a b : ℕ) → a < 2 → b < 2 → (a == 1) ≡ (b == 1) → a ≡ b
same_from_one zero zero _ _ e = refl
same_from_one zero (suc zero) _ _ e = absurd (cc)
same_from_one (suc zero) zero _ _ e = absurd (cc)
same_from_one (suc zero) (suc zero) _ _ e = refl
same_from_one (suc (suc a)) b h k e = absurd (omega (arith, h))
same_from_one zero (suc (suc b)) h k e = absurd (omega (arith, k))
same_from_one (suc zero) (suc (suc b)) h k e = absurd (omega (arith, k))

-- the bits of `a | b`
pub has_bit-or : (a b j : ℕ) → has_bit (bit_or a b) j ≡ (has_bit a j || has_bit b j)
has_bit-or a b j = rw (bit_at_or a b j) (one-max _ _ (bit_at-lt a j) (bit_at-lt b j))

-- the bits of `a & b`
pub has_bit-and : (a b j : ℕ) → has_bit (bit_and a b) j ≡ (has_bit a j && has_bit b j)
has_bit-and a b j = rw (bit_at_and a b j) (one-min _ _ (bit_at-lt a j) (bit_at-lt b j))

-- the bits of `!a`
pub has_bit-not : (a j : ℕ) → a < 2 ^ 64 → j < 64 → has_bit (bit_not w64 a) j ≡ not (has_bit a j)
has_bit-not a j fits h = rw (bit_at_not w64 a j fits h) (one-less _ (bit_at-lt a j))

-- the bits of `a & !b`
pub has_bit-and_not : (a b j : ℕ) → b < 2 ^ 64 → j < 64 → has_bit (bit_and a (bit_not w64 b)) j ≡ (has_bit a j && not (has_bit b j))
has_bit-and_not a b j fits h = rw (has_bit-and a (bit_not w64 b) j, has_bit-not b j fits h) refl

-- the word 0 has no bit
pub has_bit-zero : (j : ℕ) → has_bit 0 j ≡ false
has_bit-zero j = rw (bit_at-zero j) refl

-- the greatest word has each bit
pub has_bit-ones : (j : ℕ) → j < 64 → has_bit (2 ^ 64 - 1) j ≡ true
has_bit-ones j h = rw (bit_at_ones 64 j h) refl

-- two words with the same bits are equal
pub same_from_has_bit : (a b : ℕ) → a < 2 ^ 64 → b < 2 ^ 64 → ((j : ℕ) → j < 64 → has_bit a j ≡ has_bit b j) → a ≡ b
same_from_has_bit a b fits_a fits_b same =
    same_from_bits_below 64 a b fits_a fits_b (λ j h. same_from_one _ _ (bit_at-lt a j) (bit_at-lt b j) (same j h))
