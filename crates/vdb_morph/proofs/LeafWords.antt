-- From the words of leaves to their bits.
use Rattle.vdb_morph.proofs.Common.{◌≡◌, ◌≢◌, ◌+◌, ◌-◌, ◌*◌, ◌/◌, ◌%◌, ◌<◌, ◌≤◌, ℕ, Bool, true, false, List, [], subst, refl, sym, ◌∙◌, inl, inr, arith, ◌||◌, eqb_tells, has_bit, is_on, bit_after, bit_before}
use Rattle.std.specs.Prelude.{bit_or}
use Rattle.std.proofs.lemmas.Bool.{cases_lt}
use Rattle.vdb_mask.proofs.WordBits.{has_bit-or, has_bit-zero}

-- a word is the k-th of a mask
abbrev pub IsWord : List Bool → ℕ → ℕ → Type 0
IsWord mask k word = (j : ℕ) → j < 64 → is_on mask (64 * k + j) ≡ has_bit word j

-- each word of the empty mask is 0
pub no_word : (k : ℕ) → IsWord [] k 0
no_word k j h = sym (has_bit-zero j)

-- bit j of word k, in a leaf and the one behind its face
module _ (own other : List Bool) (k w v : ℕ) (own_is : IsWord own k w) (other_is : IsWord other k v) (j : ℕ) (h : j < 64) where
  -- along an axis whose rows lie within a word
  module _ (step : ℕ) (row : (64 * k + j) / step % 8 ≡ j / step % 8) where
    before_in_word : (j / step % 8 ≡ 0 → j + 7 * step < 64) → (j / step % 8 ≢ 0 → step ≤ j)
        → bit_before step (is_on own) (is_on other) (64 * k + j) ≡ bit_before step (has_bit w) (has_bit v) j
    before_in_word within past =
        rw row
        (elim (eqb_tells (j / step % 8) 0) [
          | inl e ↦
              let at : 64 * k + j + 7 * step ≡ 64 * k + (j + 7 * step) = omega arith in
              rw (e.0, at) (other_is (j + 7 * step) (within e.1))
          | inr e ↦
              let high : step ≤ j = past e.1 in
              let at : 64 * k + j - step ≡ 64 * k + (j - step) = omega (arith, high) in
              rw (e.0, at) (own_is (j - step) (omega (arith, h)))
        ])

    after_in_word : (j / step % 8 ≡ 7 → 7 * step ≤ j) → (j / step % 8 ≢ 7 → j + step < 64)
        → bit_after step (is_on own) (is_on other) (64 * k + j) ≡ bit_after step (has_bit w) (has_bit v) j
    after_in_word past within =
        rw row
        (elim (eqb_tells (j / step % 8) 7) [
          | inl e ↦
              let high : 7 * step ≤ j = past e.1 in
              let at : 64 * k + j - 7 * step ≡ 64 * k + (j - 7 * step) = omega (arith, high) in
              rw (e.0, at) (other_is (j - 7 * step) (omega (arith, h)))
          | inr e ↦
              let at : 64 * k + j + step ≡ 64 * k + (j + step) = omega arith in
              rw (e.0, at) (own_is (j + step) (within e.1))
        ])

  pub before_y_in_word : bit_before 8 (is_on own) (is_on other) (64 * k + j) ≡ bit_before 8 (has_bit w) (has_bit v) j
  before_y_in_word = before_in_word 8 (omega (arith, h)) (λ e. omega (arith, h, e)) (λ e. omega (arith, h, e))

  pub after_y_in_word : bit_after 8 (is_on own) (is_on other) (64 * k + j) ≡ bit_after 8 (has_bit w) (has_bit v) j
  after_y_in_word = after_in_word 8 (omega (arith, h)) (λ e. omega (arith, h, e)) (λ e. omega (arith, h, e))

  pub before_z_in_word : bit_before 1 (is_on own) (is_on other) (64 * k + j) ≡ bit_before 1 (has_bit w) (has_bit v) j
  before_z_in_word = before_in_word 1 (omega (arith, h)) (λ e. omega (arith, h, e)) (λ e. omega (arith, h, e))

  pub after_z_in_word : bit_after 1 (is_on own) (is_on other) (64 * k + j) ≡ bit_after 1 (has_bit w) (has_bit v) j
  after_z_in_word = after_in_word 1 (omega (arith, h)) (λ e. omega (arith, h, e)) (λ e. omega (arith, h, e))

-- along x a word is another whole word
module _ (own other : List Bool) (k v : ℕ) (within : k < 8) (j : ℕ) (h : j < 64) where
  pub word_before : (k ≡ 0 → IsWord other 7 v) → (0 < k → IsWord own (k - 1) v) → bit_before 64 (is_on own) (is_on other) (64 * k + j) ≡ has_bit v j
  word_before first lower =
      let row : (64 * k + j) / 64 % 8 ≡ k = omega (arith, h, within) in
      rw row
      (elim (eqb_tells k 0) [
        | inl e ↦
            let at : 64 * k + j + 7 * 64 ≡ 64 * 7 + j = omega (arith, e.1) in
            rw (e.0, at) (first e.1 j h)
        | inr e ↦
            let high : 0 < k = omega (arith, e.1) in
            let at : 64 * k + j - 64 ≡ 64 * (k - 1) + j = omega (arith, high) in
            rw (e.0, at) (lower high j h)
      ])

  pub word_after : (k ≡ 7 → IsWord other 0 v) → (k < 7 → IsWord own (k + 1) v) → bit_after 64 (is_on own) (is_on other) (64 * k + j) ≡ has_bit v j
  word_after last higher =
      let row : (64 * k + j) / 64 % 8 ≡ k = omega (arith, h, within) in
      rw row
      (elim (eqb_tells k 7) [
        | inl e ↦
            let at : 64 * k + j - 7 * 64 ≡ 64 * 0 + j = omega (arith, e.1) in
            rw (e.0, at) (last e.1 j h)
        | inr e ↦
            let low : k < 7 = omega (arith, e.1, within) in
            let at : 64 * k + j + 64 ≡ 64 * (k + 1) + j = omega arith in
            rw (e.0, at) (higher low j h)
      ])

-- ---- words united

-- one bit of six words
six_joined : (a b c d e f : Bool) → (a || (b || (c || (d || (e || (f || false)))))) ≡ (((((a || b) || c) || d) || e) || f)
six_joined true b c d e f = refl
six_joined false true c d e f = refl
six_joined false false true d e f = refl
six_joined false false false true e f = refl
six_joined false false false false true f = refl
six_joined false false false false false true = refl
six_joined false false false false false false = refl

module _ (j : ℕ) where
  joined : (a b : ℕ) {p q : Bool} → p ≡ has_bit a j → q ≡ has_bit b j → (p || q) ≡ has_bit (bit_or a b) j
  joined a b hp hq = rw (hp, hq) (sym (has_bit-or a b j))

  pub six_words : (a b c d e f : ℕ) {p q r s t u : Bool} → p ≡ has_bit a j → q ≡ has_bit b j → r ≡ has_bit c j → s ≡ has_bit d j → t ≡ has_bit e j → u ≡ has_bit f j
      → (p || (q || (r || (s || (t || (u || false)))))) ≡ has_bit (bit_or (bit_or (bit_or (bit_or (bit_or a b) c) d) e) f) j
  six_words a b c d e f {p} {q} {r} {s} {t} {u} hp hq hr hs ht hu =
      six_joined p q r s t u ∙ joined _ f (joined _ e (joined _ d (joined _ c (joined a b hp hq) hr) hs) ht) hu

-- ---- words written

-- a mask whose word k has been written, if the words below it are right
pub more_below : (mask : List Bool) (bit : ℕ → Bool) (new : List Bool) (k word : ℕ) → ((i : ℕ) → i < 64 * k → is_on mask i ≡ bit i) → IsWord new k word
    → ((i : ℕ) → i / 64 ≢ k → is_on new i ≡ is_on mask i) → ((j : ℕ) → j < 64 → bit (64 * k + j) ≡ has_bit word j) → (i : ℕ) → i < 64 * (k + 1) → is_on new i ≡ bit i
more_below mask bit new k word below here others is i h =
    elim (cases_lt i (64 * k)) [
      | inl low ↦ others i (λ e. omega (arith, low, e)) ∙ below i low
      | inr high ↦
          let at : 64 * k + (i - 64 * k) ≡ i = omega (arith, high) in
          let within : i - 64 * k < 64 = omega (arith, h, high) in
          subst (λ t. is_on new t ≡ bit t) at (here (i - 64 * k) within ∙ sym (is (i - 64 * k) within))
    ]
