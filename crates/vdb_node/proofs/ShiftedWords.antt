-- The bits of shifted words, and of the words whose bits are those beside.
use Rattle.vdb_node.proofs.Common.{◌≡◌, ◌+◌, ◌-◌, ◌*◌, ◌/◌, ◌%◌, ◌^◌, ◌<◌, ◌≤◌, ℕ, false, refl, sym, ap, ◌∙◌, inl, inr, arith, ◌==◌, not, bit_and, bit_or, bit_at, cases_lt, or-false, shr-shr, bit_at_above, bit_at_cat_high, has_bit, has_bit-and, has_bit-or}
use Rattle.std.proofs.lemmas.Bool.{agree_below_at, ne_eqb}
use Rattle.std.proofs.lemmas.Bool.Decides.{eqb_tells}
use Rattle.std.proofs.Math.Bool.{and-false, and-true}
use Rattle.std.proofs.lemmas.Nat.{div-add-mod'}
use Rattle.std.proofs.lemmas.Nat.Bits.{bit_at_cat_low, bit_at-zero}
use Rattle.vdb_node.specs.Beside.{bit_after, bit_before}

-- a number wrapped to w bits keeps the lowest w
bit_at_wrapped : (n w j : ℕ) → j < w → bit_at (n % 2 ^ w) j ≡ bit_at n j
bit_at_wrapped n w j h = sym (bit_at_cat_low (n / 2 ^ w) w (n % 2 ^ w) j h) ∙ ap (λ t. bit_at t j) (div-add-mod' n (2 ^ w))

-- `a << k`: the lowest k bits are 0
has_bit-shl_low : (a k j : ℕ) → j < 64 → j < k → has_bit (a * 2 ^ k % 2 ^ 64) j ≡ false
has_bit-shl_low a k j h low =
    let whole : a * 2 ^ k + 0 ≡ a * 2 ^ k = omega arith in
    let zero_there : bit_at (a * 2 ^ k) j ≡ 0 = ap (λ t. bit_at t j) (sym whole) ∙ bit_at_cat_low a k 0 j low ∙ bit_at-zero j in
    rw (bit_at_wrapped (a * 2 ^ k) 64 j h, zero_there) refl

-- and the others are those of a
pub has_bit-shl_high : (a k j : ℕ) → 0 < 2 ^ k → j < 64 → k ≤ j → has_bit (a * 2 ^ k % 2 ^ 64) j ≡ has_bit a (j - k)
has_bit-shl_high a k j some h high =
    let whole : a * 2 ^ k + 0 ≡ a * 2 ^ k = omega arith in
    let there : bit_at (a * 2 ^ k) j ≡ bit_at a (j - k) = ap (λ t. bit_at t j) (sym whole) ∙ bit_at_cat_high a k 0 j some high in
    rw (bit_at_wrapped (a * 2 ^ k) 64 j h, there) refl

-- `a >> k`
has_bit-shr : (a k j : ℕ) → has_bit (a / 2 ^ k) j ≡ has_bit a (j + k)
has_bit-shr a k j =
    let same : k + j ≡ j + k = omega arith in
    rw (shr-shr a k j, same) refl

-- a word has no bit past its last
has_bit-past : (a j : ℕ) → a < 2 ^ 64 → 64 ≤ j → has_bit a j ≡ false
has_bit-past a j fits h = rw (bit_at_above a 64 j fits h) refl

-- ---- along y: the rows are bytes

-- `own << 8 | other >> 56`
pub before_y_is : (own other j : ℕ) → other < 2 ^ 64 → j < 64 → has_bit (bit_or (own * 2 ^ 8 % 2 ^ 64) (other / 2 ^ 56)) j ≡ bit_before 8 (has_bit own) (has_bit other) j
before_y_is own other j fits h =
    has_bit-or (own * 2 ^ 8 % 2 ^ 64) (other / 2 ^ 56) j
    ∙ elim (cases_lt j 8) [
      | inl low ↦
          let first : j / 8 % 8 ≡ 0 = omega (arith, low) in
          rw (first, has_bit-shl_low own 8 j h low, has_bit-shr other 56 j) refl
      | inr high ↦
          let some : 0 < 2 ^ 8 = omega arith in
          let inner : (j / 8 % 8 == 0) ≡ false = ne_eqb (j / 8 % 8) 0 (λ e. omega (arith, e, high, h)) in
          let past : has_bit other (j + 56) ≡ false = has_bit-past other (j + 56) fits (omega (arith, high)) in
          rw (inner, has_bit-shl_high own 8 j some h high, has_bit-shr other 56 j, past) (or-false (has_bit own (j - 8)))
    ]

-- `own >> 8 | other << 56`
pub after_y_is : (own other j : ℕ) → own < 2 ^ 64 → j < 64 → has_bit (bit_or (own / 2 ^ 8) (other * 2 ^ 56 % 2 ^ 64)) j ≡ bit_after 8 (has_bit own) (has_bit other) j
after_y_is own other j fits h =
    has_bit-or (own / 2 ^ 8) (other * 2 ^ 56 % 2 ^ 64) j
    ∙ elim (cases_lt j 56) [
      | inl low ↦
          let inner : (j / 8 % 8 == 7) ≡ false = ne_eqb (j / 8 % 8) 7 (λ e. omega (arith, e, low)) in
          rw (inner, has_bit-shl_low other 56 j h low, has_bit-shr own 8 j) (or-false (has_bit own (j + 8)))
      | inr high ↦
          let some : 0 < 2 ^ 56 = omega arith in
          let last : j / 8 % 8 ≡ 7 = omega (arith, high, h) in
          let past : has_bit own (j + 8) ≡ false = has_bit-past own (j + 8) fits (omega (arith, high)) in
          rw (last, has_bit-shr own 8 j, past, has_bit-shl_high other 56 j some h high) refl
    ]

-- ---- along z: masks keep the rows apart

-- the first bit of each byte, and the others
first_bits : (j : ℕ) → j < 64 → has_bit 72340172838076673 j ≡ (j / 1 % 8 == 0)
first_bits j h = agree_below_at (has_bit 72340172838076673) (λ i. i / 1 % 8 == 0) 64 j refl h

all_but_first : (j : ℕ) → j < 64 → has_bit 18374403900871474942 j ≡ not (j / 1 % 8 == 0)
all_but_first j h = agree_below_at (has_bit 18374403900871474942) (λ i. not (i / 1 % 8 == 0)) 64 j refl h

-- the last bit of each byte, and the others
last_bits : (j : ℕ) → j < 64 → has_bit 9259542123273814144 j ≡ (j / 1 % 8 == 7)
last_bits j h = agree_below_at (has_bit 9259542123273814144) (λ i. i / 1 % 8 == 7) 64 j refl h

all_but_last : (j : ℕ) → j < 64 → has_bit 9187201950435737471 j ≡ not (j / 1 % 8 == 7)
all_but_last j h = agree_below_at (has_bit 9187201950435737471) (λ i. not (i / 1 % 8 == 7)) 64 j refl h

-- `own << 1 & 0xfefe.. | other >> 7 & 0x0101..`
pub before_z_is : (own other j : ℕ) → j < 64
    → has_bit (bit_or (bit_and (own * 2 ^ 1 % 2 ^ 64) 18374403900871474942) (bit_and (other / 2 ^ 7) 72340172838076673)) j ≡ bit_before 1 (has_bit own) (has_bit other) j
before_z_is own other j h =
    has_bit-or (bit_and (own * 2 ^ 1 % 2 ^ 64) 18374403900871474942) (bit_and (other / 2 ^ 7) 72340172838076673) j
    ∙ rw (
      has_bit-and (own * 2 ^ 1 % 2 ^ 64) 18374403900871474942 j,
      has_bit-and (other / 2 ^ 7) 72340172838076673 j,
      all_but_first j h,
      first_bits j h,
    ) (elim (eqb_tells (j / 1 % 8) 0) [
      | inl e ↦
          rw (e.0, has_bit-shr other 7 j, and-false (has_bit (own * 2 ^ 1 % 2 ^ 64) j), and-true (has_bit other (j + 7))) refl
      | inr e ↦
          let some : 0 < 2 ^ 1 = omega arith in
          let high : 1 ≤ j = omega (arith, e.1) in
          rw (e.0, has_bit-shl_high own 1 j some h high, and-false (has_bit (other / 2 ^ 7) j), and-true (has_bit own (j - 1))) (or-false (has_bit own (j - 1)))
    ])

-- `own >> 1 & 0x7f7f.. | other << 7 & 0x8080..`
pub after_z_is : (own other j : ℕ) → j < 64
    → has_bit (bit_or (bit_and (own / 2 ^ 1) 9187201950435737471) (bit_and (other * 2 ^ 7 % 2 ^ 64) 9259542123273814144)) j ≡ bit_after 1 (has_bit own) (has_bit other) j
after_z_is own other j h =
    has_bit-or (bit_and (own / 2 ^ 1) 9187201950435737471) (bit_and (other * 2 ^ 7 % 2 ^ 64) 9259542123273814144) j
    ∙ rw (
      has_bit-and (own / 2 ^ 1) 9187201950435737471 j,
      has_bit-and (other * 2 ^ 7 % 2 ^ 64) 9259542123273814144 j,
      all_but_last j h,
      last_bits j h,
    ) (elim (eqb_tells (j / 1 % 8) 7) [
      | inl e ↦
          let some : 0 < 2 ^ 7 = omega arith in
          let high : 7 ≤ j = omega (arith, e.1) in
          rw (e.0, has_bit-shl_high other 7 j some h high, and-false (has_bit (own / 2 ^ 1) j), and-true (has_bit other (j - 7))) refl
      | inr e ↦
          rw (e.0, has_bit-shr own 1 j, and-false (has_bit (other * 2 ^ 7 % 2 ^ 64) j), and-true (has_bit own (j + 1))) (or-false (has_bit own (j + 1)))
    ])
