-- A search of a row's first words is a search of the row, up to their end.
use Rattle.vdb_mask.proofs.Common.{◌≡◌, ◌+◌, ◌*◌, ◌/◌, ◌%◌, ◌<◌, ◌≤◌, ℕ, Bool, true, false, List, length, min, take, sym, ◌∙◌, refl, arith, ◌||◌, not, bits_of, is_on, is_value, IsFirstOnAt, IsNextAt}
use Rattle.std.specs.Int.{div_ceil}
use Rattle.std.proofs.lemmas.List.{length-take-le}
use Rattle.vdb_mask.proofs.RowBits.{is_on-take}

-- the words that hold the first `to` values
pub enough_words : (to last : ℕ) → last ≡ div_ceil to 64 → to ≤ 64 * last
enough_words to last e =
    let e' : last ≡ to / 64 + min 1 (to % 64) = e in
    omega (arith, e')

-- a row with enough words has them
pub within_words : (words : List ℕ) (to last w : ℕ) → length words ≡ w → to ≤ 64 * w → last ≡ div_ceil to 64 → to ≤ 64 * length (take last words)
within_words words to last w len room e =
    let e' : last ≡ to / 64 + min 1 (to % 64) = e in
    let few : last ≤ length words = omega (arith, e', room, len) in
    omega (arith, length-take-le last words few, enough_words to last e)

module _ (value : Bool) (words : List ℕ) (last to from : ℕ) (enough : to ≤ 64 * last) where
  -- an index below `to` is the first of the row
  pub IsNextAt-first_words : (n index : ℕ) → index < to → IsNextAt value (bits_of (take last words)) n from index → IsNextAt value (bits_of words) to from index
  IsNextAt-first_words n index h next =
      record {
        within = h;
        from_on = next.from_on;
        here = sym (is_on-take words last index (omega (arith, h, enough))) ∙ next.here;
        before = λ i least less. sym (is_on-take words last i (omega (arith, less, h, enough))) ∙ next.before i least less;
      }

  -- if none is below `to`, the row has none
  pub none-first_words : (m : ℕ) → to ≤ m → ((i : ℕ) → from ≤ i → i < m → is_on (bits_of (take last words)) i ≡ not value)
      → (i : ℕ) → from ≤ i → i < to → is_on (bits_of words) i ≡ not value
  none-first_words m far none i least below =
      sym (is_on-take words last i (omega (arith, below, enough))) ∙ none i least (omega (arith, below, far))

module _ (value : Bool) (words others : List ℕ) (last to from : ℕ) (enough : to ≤ 64 * last) where
  either_same : (i : ℕ) → i < to
      → (is_on (bits_of words) i || is_value value (bits_of others) i) ≡ (is_on (bits_of (take last words)) i || is_value value (bits_of (take last others)) i)
  either_same i h =
      rw (is_on-take words last i (omega (arith, h, enough)), is_value-take value i (omega (arith, h, enough))) refl
    where
      is_value-take : (v : Bool) (j : ℕ) → j < 64 * last → is_value v (bits_of (take last others)) j ≡ is_value v (bits_of others) j
      is_value-take true j below = is_on-take others last j below
      is_value-take false j below = rw (is_on-take others last j below) refl

  -- the same for two rows
  pub IsFirstOnAt-first_words : (n index : ℕ) → index < to
      → IsFirstOnAt (λ i. is_on (bits_of (take last words)) i || is_value value (bits_of (take last others)) i) n from index
      → IsFirstOnAt (λ i. is_on (bits_of words) i || is_value value (bits_of others) i) to from index
  IsFirstOnAt-first_words n index h first =
      record {
        within = h;
        from_on = first.from_on;
        here = either_same index h ∙ first.here;
        before = λ i least less. either_same i (omega (arith, less, h)) ∙ first.before i least less;
      }

  pub none_on-first_words : (m : ℕ) → to ≤ m
      → ((i : ℕ) → from ≤ i → i < m → (is_on (bits_of (take last words)) i || is_value value (bits_of (take last others)) i) ≡ false)
      → (i : ℕ) → from ≤ i → i < to → (is_on (bits_of words) i || is_value value (bits_of others) i) ≡ false
  none_on-first_words m far none i least below = either_same i below ∙ none i least (omega (arith, below, far))
