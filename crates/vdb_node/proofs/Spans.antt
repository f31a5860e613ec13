-- Spans of the bits of words, and of the voxels that those bits stand for.
use Rattle.std.proofs.Common.{◌≡◌, ◌+◌, ◌-◌, ◌*◌, ◌/◌, ◌%◌, ◌^◌, ◌<◌, ◌≤◌, ℕ, suc, pow-suc, Bool, true, false, refl, sym, ap, subst, ◌∙◌, inl, inr, arith, w64}
use Rattle.std.specs.Prelude.{◌==◌, ◌||◌, ◌⊎◌, bit_and, bit_or}
use Rattle.std.specs.Int.{bit_at, leading_zeros, trailing_zeros}
use Rattle.std.proofs.lemmas.Bool.{and_from, and_parts, both_ways, cases_Bool, cases_eq, cases_lt, or_cases, or_left, or_right}
use Rattle.std.proofs.lemmas.Nat.{leading_top, mod_below, one_shl, shr-shr}
use Rattle.std.proofs.lemmas.Nat.Bits.{bit_at_above, bit_at_cat_high, bit_at_ones, bit_at_ones_above, bit_at-pow_other, bit_at-pow_same, bit_at-trailing_zeros}
use Rattle.vdb_mask.specs.Mask.{has_bit}
use Rattle.vdb_mask.proofs.WordBits.{has_bit-and, has_bit-or, has_bit-zero}
use Rattle.vdb_node.specs.Bounds.{IsSpanOf, Projects, Reaches}
use Rattle.vdb_node.specs.declared.bounds.Span.{Span}

-- ---- the bits of one word

-- a digit that is 0 is not a bit
zero_digit : (word j : ℕ) → bit_at word j ≡ 0 → has_bit word j ≡ true → ⊥
zero_digit word j none on = both_ways (has_bit word j) (ap (λ d. d == 1) none) on

-- the highest 1 of a word, by its leading zeros
highest : (word : ℕ) → 0 < word → word < 2 ^ 64 → (h : ℕ) × (h < 64) × (63 - leading_zeros w64 word ≡ h) × (has_bit word h ≡ true) × (word < 2 ^ suc h)
highest word some fits =
    let top = leading_top 64 word some fits in
    let h : ℕ = top.0 in
    let rest : word - 2 ^ h < 2 ^ h = omega (arith, top.2, top.3, pow-suc 2 h) in
    let split : 1 * 2 ^ h + (word - 2 ^ h) ≡ word = omega (arith, top.2) in
    let none : h - h ≡ 0 = omega arith in
    let one : bit_at word h ≡ 1 = ap (λ t. bit_at t h) (sym split) ∙ bit_at_cat_high 1 h (word - 2 ^ h) h rest (omega arith) ∙ ap (bit_at 1) none in
    (h, omega (arith, top.1), omega (arith, top.1), ap (λ d. d == 1) one, top.3)

-- a word that is not 0 spans from its lowest 1 to its highest
pub span_of_bits : (word : ℕ) → 0 < word → word < 2 ^ 64
    → IsSpanOf (has_bit word) 64 (λ j. j) (record { first = trailing_zeros w64 word; last = 63 - leading_zeros w64 word })
span_of_bits word some fits =
    let low = bit_at-trailing_zeros w64 word some fits in
    let high = highest word some fits in
    record {
      least = λ j _ on.
          elim (cases_lt j (trailing_zeros w64 word)) [
            | inl below ↦ absurd (zero_digit word j (low.2 j below) on)
            | inr h ↦ h
          ];
      greatest = λ j _ on.
          rw high.2
          (elim (cases_lt high.0 j) [
            | inl past ↦ absurd (zero_digit word j (bit_at_above word (suc high.0) j high.4 (omega (arith, past))) on)
            | inr h ↦ h
          ]);
      first_reached = (trailing_zeros w64 word, low.0, ap (λ d. d == 1) low.1, refl);
      last_reached = (high.0, high.1, high.3, sym high.2);
    }

-- ---- from the bits of a word to what they stand for

module _ (on : ℕ → Bool) (n : ℕ) (coordinate : ℕ → ℕ) (word : ℕ) (projects : Projects on n coordinate word) (fits : (i : ℕ) → i < n → coordinate i < 64) where
  -- the bits of the word span what they stand for
  pub span_projected : (span : Span) → IsSpanOf (has_bit word) 64 (λ j. j) span → IsSpanOf on n coordinate span
  span_projected span is =
      record {
        least = λ i h yes. is.least (coordinate i) (fits i h) (projects.each i h yes);
        greatest = λ i h yes. is.greatest (coordinate i) (fits i h) (projects.each i h yes);
        first_reached = reach span.first is.first_reached;
        last_reached = reach span.last is.last_reached;
      }
    where
      reach : (c : ℕ) → Reaches (has_bit word) 64 (λ j. j) c → Reaches on n coordinate c
      reach c r = projects.reached c (subst (λ j. has_bit word j ≡ true) r.3 r.2)

  -- a word of no bit stands for nothing
  pub none_projected : ((j : ℕ) → j < 64 → has_bit word j ≡ false) → (i : ℕ) → i < n → on i ≡ false
  none_projected none i h =
      elim (cases_Bool (on i)) [
        | inl there ↦ absurd (both_ways (has_bit word (coordinate i)) (none (coordinate i) (fits i h)) (projects.each i h there))
        | inr off ↦ off
      ]

-- a coarser coordinate spans what the finer one does
pub span_divided : (on : ℕ → Bool) (n : ℕ) (fine coarse : ℕ → ℕ) → ((i : ℕ) → i < n → coarse i ≡ fine i / 8) → (span : Span) → IsSpanOf on n fine span
    → IsSpanOf on n coarse (record { first = span.first / 8; last = span.last / 8 })
span_divided on n fine coarse is span s =
    record {
      least = λ i h yes. omega (arith, is i h, s.least i h yes);
      greatest = λ i h yes. omega (arith, is i h, s.greatest i h yes);
      first_reached = reach span.first s.first_reached;
      last_reached = reach span.last s.last_reached;
    }
  where
    reach : (c : ℕ) → Reaches on n fine c → Reaches on n coarse (c / 8)
    reach c r = (r.0, r.1, r.2, is r.0 r.1 ∙ ap (λ t. t / 8) r.3)

-- the bits of a word's projection are those of what the word projects
pub projects_through : (on : ℕ → Bool) (n : ℕ) (first second both : ℕ → ℕ) (union word : ℕ) → ((i : ℕ) → i < n → first i < 64) → ((i : ℕ) → second (first i) ≡ both i)
    → Projects on n first union → Projects (has_bit union) 64 second word → Projects on n both word
projects_through on n first second both union word fits same outer inner =
    record {
      each = λ i h yes. subst (λ c. has_bit word c ≡ true) (same i) (inner.each (first i) (fits i h) (outer.each i h yes));
      reached = λ c yes.
          let r = inner.reached c yes in
          let t = outer.reached r.0 r.2 in
          (t.0, t.1, t.2, sym (same t.0) ∙ ap second t.3 ∙ r.3);
    }

-- ---- words united

-- more indices, whose bits are those of another word
pub projects_more : (on : ℕ → Bool) (n m : ℕ) (coordinate : ℕ → ℕ) (word more : ℕ) → n ≤ m → Projects on n coordinate word
    → ((i : ℕ) → n ≤ i → i < m → on i ≡ true → has_bit more (coordinate i) ≡ true) → ((c : ℕ) → has_bit more c ≡ true → Reaches on m coordinate c)
    → Projects on m coordinate (bit_or word more)
projects_more on n m coordinate word more far projects each reached =
    record {
      each = λ i h yes.
          has_bit-or word more (coordinate i)
          ∙ elim (cases_lt i n) [
            | inl below ↦ or_left (has_bit word (coordinate i)) (has_bit more (coordinate i)) (projects.each i below yes)
            | inr past ↦ or_right (has_bit word (coordinate i)) (has_bit more (coordinate i)) (each i past h yes)
          ];
      reached = λ c yes.
          elim (or_cases (has_bit word c) (has_bit more c) (sym (has_bit-or word more c) ∙ yes)) [
            | inl one ↦
                let r = projects.reached c one in
                (r.0, omega (arith, r.1, far), r.2, r.3)
            | inr other ↦ reached c other
          ];
    }

-- more indices, none of which is on
pub projects_same : (on : ℕ → Bool) (n m : ℕ) (coordinate : ℕ → ℕ) (word : ℕ) → n ≤ m → Projects on n coordinate word
    → ((i : ℕ) → n ≤ i → i < m → on i ≡ true → ⊥) → Projects on m coordinate word
projects_same on n m coordinate word far projects none =
    record {
      each = λ i h yes.
          elim (cases_lt i n) [
            | inl below ↦ projects.each i below yes
            | inr past ↦ absurd (none i past h yes)
          ];
      reached = λ c yes.
          let r = projects.reached c yes in
          (r.0, omega (arith, r.1, far), r.2, r.3);
    }

-- ---- a leaf's words one after another

-- word k of a mask, and its indices
module _ (on : ℕ → Bool) (k word : ℕ) (is : (j : ℕ) → j < 64 → on (64 * k + j) ≡ has_bit word j) where
  on_in_word : (i : ℕ) → 64 * k ≤ i → i < 64 * (k + 1) → on i ≡ has_bit word (i - 64 * k)
  on_in_word i low high =
      let at : 64 * k + (i - 64 * k) ≡ i = omega (arith, low) in
      subst (λ t. on t ≡ has_bit word (i - 64 * k)) at (is (i - 64 * k) (omega (arith, low, high)))

  -- united with the words before it
  pub union_more : (union : ℕ) → word < 2 ^ 64 → Projects on (64 * k) (λ i. i % 64) union → Projects on (64 * (k + 1)) (λ i. i % 64) (bit_or union word)
  union_more union fits projects =
      projects_more on (64 * k) (64 * (k + 1)) (λ i. i % 64) union word (omega arith) projects
      (λ i low high yes.
      let same : i - 64 * k ≡ i % 64 = omega (arith, low, high) in
      subst (λ j. has_bit word j ≡ true) same (sym (on_in_word i low high) ∙ yes))
      (λ c yes.
      elim (cases_lt c 64) [
        | inl h ↦ (64 * k + c, omega (arith, h), is c h ∙ yes, omega (arith, h))
        | inr past ↦ absurd (zero_digit word c (bit_at_above word 64 c fits past) yes)
      ])

  -- if the word is 0, no index of it is on
  pub planes_same : (planes : ℕ) → word ≡ 0 → Projects on (64 * k) (λ i. i / 64) planes → Projects on (64 * (k + 1)) (λ i. i / 64) planes
  planes_same planes zero_there projects =
      projects_same on (64 * k) (64 * (k + 1)) (λ i. i / 64) planes (omega arith) projects
      (λ i low high yes.
      both_ways (has_bit word (i - 64 * k)) (rw zero_there (has_bit-zero (i - 64 * k))) (sym (on_in_word i low high) ∙ yes))

  -- if it is not, some index is
  pub planes_more : (planes : ℕ) → k < 8 → 0 < word → word < 2 ^ 64 → Projects on (64 * k) (λ i. i / 64) planes
      → Projects on (64 * (k + 1)) (λ i. i / 64) (bit_or planes (1 * 2 ^ k % 2 ^ 64))
  planes_more planes few some fits projects =
      rw (one_shl k 64 (omega (arith, few)))
      (projects_more on (64 * k) (64 * (k + 1)) (λ i. i / 64) planes (2 ^ k) (omega arith) projects
      (λ i low high yes.
      let same : k ≡ i / 64 = omega (arith, low, high) in
      subst (λ j. has_bit (2 ^ k) j ≡ true) same (ap (λ d. d == 1) (bit_at-pow_same k)))
      (λ c yes.
      let high = highest word some fits in
      elim (cases_eq c k) [
        | inl same ↦ (64 * k + high.0, omega (arith, high.1), is high.0 high.1 ∙ high.3, omega (arith, high.1, same))
        | inr other ↦ absurd (zero_digit (2 ^ k) c (bit_at-pow_other k c other) yes)
      ]))

-- ---- a word folded

-- the lowest s bits of a word are the places below s of the 64 indices that are on
record Folds (on : ℕ → Bool) (s word : ℕ) : Type 0 where
  each : (i : ℕ) → i < 64 → on i ≡ true → has_bit word (i % s) ≡ true
  reached : (c : ℕ) → c < s → has_bit word c ≡ true → Reaches on 64 (λ i. i % s) c

-- a word folded once more: `word | word >> s`
folded : (on : ℕ → Bool) (s t word : ℕ) → s + s ≡ t → ((i : ℕ) → (i % t ≡ i % s) ⊎ (i % t ≡ i % s + s)) → Folds on t word → Folds on s (bit_or word (word / 2 ^ s))
folded on s t word double place folds =
    record {
      each = λ i h yes.
          bits (i % s)
          ∙ elim (place i) [
            | inl e ↦ or_left (has_bit word (i % s)) (has_bit word (i % s + s)) (subst (λ j. has_bit word j ≡ true) e (folds.each i h yes))
            | inr e ↦ or_right (has_bit word (i % s)) (has_bit word (i % s + s)) (subst (λ j. has_bit word j ≡ true) e (folds.each i h yes))
          ];
      reached = λ c h yes.
          elim (or_cases (has_bit word c) (has_bit word (c + s)) (sym (bits c) ∙ yes)) [
            | inl low ↦
                let r = folds.reached c (omega (arith, h, double)) low in (
                  r.0,
                  r.1,
                  r.2,
                  elim (place r.0) [
                    | inl e ↦ sym e ∙ r.3
                    | inr e ↦ absurd (omega (arith, e, r.3, h))
                  ],
                )
            | inr high ↦
                let r = folds.reached (c + s) (omega (arith, h, double)) high in (
                  r.0,
                  r.1,
                  r.2,
                  elim (place r.0) [
                    | inl e ↦ absurd (apart r.0 (sym e ∙ r.3) h)
                    | inr e ↦ omega (arith, e, r.3)
                  ],
                )
          ];
    }
  where
    bits : (j : ℕ) → has_bit (bit_or word (word / 2 ^ s)) j ≡ (has_bit word j || has_bit word (j + s))
    bits j =
        let same : s + j ≡ j + s = omega arith in
        has_bit-or word (word / 2 ^ s) j ∙ rw (shr-shr word s j, same) refl

    apart : (i : ℕ) {c : ℕ} → i % s ≡ c + s → c < s → ⊥
    apart i e h = let below = mod_below i s (omega (arith, h)) in omega (arith, e, below)

-- a word folded to a byte
pub bytes_projected : (word : ℕ) → word < 2 ^ 64
    → let four : ℕ = bit_or word (word / 2 ^ 32) in
    let two : ℕ = bit_or four (four / 2 ^ 16) in
    let one : ℕ = bit_or two (two / 2 ^ 8) in
    Projects (has_bit word) 64 (λ j. j % 8) (bit_and one 255)
bytes_projected word fits =
    let four : ℕ = bit_or word (word / 2 ^ 32) in
    let two : ℕ = bit_or four (four / 2 ^ 16) in
    let one : ℕ = bit_or two (two / 2 ^ 8) in
    record {
      each = λ i h yes.
          has_bit-and one 255 (i % 8)
          ∙ and_from (has_bit one (i % 8)) (has_bit 255 (i % 8)) (to_8.each i h yes) (ap (λ d. d == 1) (bit_at_ones 8 (i % 8) (omega arith)));
      reached = λ c yes.
          let both = and_parts (has_bit one c) (has_bit 255 c) (sym (has_bit-and one 255 c) ∙ yes) in
          elim (cases_lt c 8) [
            | inl h ↦ to_8.reached c h both.0
            | inr past ↦ absurd (zero_digit 255 c (bit_at_ones_above 8 c past) both.1)
          ];
    }
  where
    whole : Folds (has_bit word) 64 word
    whole =
        record {
          each = λ i h yes.
              let same : i ≡ i % 64 = omega (arith, h) in
              subst (λ j. has_bit word j ≡ true) same yes;
          reached = λ c h yes. (c, h, yes, omega (arith, h));
        }

    halves : (i : ℕ) → (i % 64 ≡ i % 32) ⊎ (i % 64 ≡ i % 32 + 32)
    halves i =
        elim (cases_lt (i % 64) 32) [
          | inl h ↦ inl (omega (arith, h))
          | inr h ↦ inr (omega (arith, h))
        ]

    quarters : (i : ℕ) → (i % 32 ≡ i % 16) ⊎ (i % 32 ≡ i % 16 + 16)
    quarters i =
        elim (cases_lt (i % 32) 16) [
          | inl h ↦ inl (omega (arith, h))
          | inr h ↦ inr (omega (arith, h))
        ]

    eighths : (i : ℕ) → (i % 16 ≡ i % 8) ⊎ (i % 16 ≡ i % 8 + 8)
    eighths i =
        elim (cases_lt (i % 16) 8) [
          | inl h ↦ inl (omega (arith, h))
          | inr h ↦ inr (omega (arith, h))
        ]

    to_32 : Folds (has_bit word) 32 (bit_or word (word / 2 ^ 32))
    to_32 = folded (has_bit word) 32 64 word refl halves whole

    to_16 : Folds (has_bit word) 16 (let four : ℕ = bit_or word (word / 2 ^ 32) in bit_or four (four / 2 ^ 16))
    to_16 = folded (has_bit word) 16 32 (bit_or word (word / 2 ^ 32)) refl quarters to_32

    to_8 : Folds (has_bit word) 8 (let four : ℕ = bit_or word (word / 2 ^ 32) in let two : ℕ = bit_or four (four / 2 ^ 16) in bit_or two (two / 2 ^ 8))
    to_8 = folded (has_bit word) 8 16 _ refl eighths to_16
