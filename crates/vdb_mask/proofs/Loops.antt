-- What a loop that combines two rows word by word keeps true.
use Rattle.vdb_mask.proofs.Common.{◌≡◌, ◌/◌, ◌%◌, ◌^◌, ◌<◌, ◌≤◌, ℕ, Bool, List, length, get_or, sym, ◌∙◌, inl, inr, arith, cases_lt, get_or_past, bits_of, has_bit, is_on}
use Rattle.vdb_mask.proofs.RowBits.{is_on-bits_of}

-- the first k words are combined, the others are as before
pub record CombinesBelow (combine : ℕ → ℕ → ℕ) (before other now : List ℕ) (k : ℕ) : Type 0 where
  pub done : (j : ℕ) → j < k → get_or now j 0 ≡ combine (get_or before j 0) (get_or other j 0)
  pub ahead : (j : ℕ) → k ≤ j → get_or now j 0 ≡ get_or before j 0

-- after the last word, each value is combined
pub is_on-combined : (combine : ℕ → ℕ → ℕ) (on : Bool → Bool → Bool) (before other now : List ℕ) (k : ℕ) → CombinesBelow combine before other now k
    → length before ≤ k → length other ≡ length before → combine 0 0 ≡ 0
    → ((a b j : ℕ) → b < 2 ^ 64 → j < 64 → has_bit (combine a b) j ≡ on (has_bit a j) (has_bit b j)) → ((j : ℕ) → get_or other j 0 < 2 ^ 64)
    → (i : ℕ) → is_on (bits_of now) i ≡ on (is_on (bits_of before) i) (is_on (bits_of other) i)
is_on-combined combine on before other now k loop all same_length at_zero bits fits i =
    rw (is_on-bits_of now i, is_on-bits_of before i, is_on-bits_of other i, each (i / 64)) (bits _ _ (i % 64) (fits (i / 64)) (omega arith))
  where
    each : (j : ℕ) → get_or now j 0 ≡ combine (get_or before j 0) (get_or other j 0)
    each j =
        elim (cases_lt j (length before)) [
          | inl h ↦ loop.done j (omega (arith, h, all))
          | inr h ↦ elim (cases_lt j k) [
            | inl below ↦ loop.done j below
            | inr past ↦
                loop.ahead j past ∙ rw (get_or_past before j 0 h, get_or_past other j 0 (omega (arith, h, same_length))) (sym at_zero)
          ]
        ]
