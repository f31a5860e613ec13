-- Elements that a call copies, line by line and plane by plane.
use Rattle.vdb_c.proofs.Common.{◌≡◌, ◌≢◌, ◌⊎◌, inl, inr, refl, sym, ap, ◌∙◌, ℕ, ◌+◌, ◌<◌, List, length, get_or, set, arith, get_or-set_same, get_or-set_other, length-set}
use Rattle.vdb_c.specs.Elements.{IsCopied}

below_or_last : (m n : ℕ) → m < n + 1 → (m < n) ⊎ (m ≡ n)
below_or_last m n h = grind (arith, h)

equal_ways : (m n : ℕ) → (m ≡ n) ⊎ (m ≢ n)
equal_ways m n = grind arith

no_less : (n : ℕ) → n < 0 → ⊥
no_less n h = omega (arith, h)

module _ {X : Type 0} (source target : ℕ → ℕ) (from : List X) where
  pub line_none : (xs : List X) → IsCopied (λ (k : ℕ). k < 0) source target from xs xs
  line_none xs = record { size = refl; each = λ i. inr (λ n w. absurd (no_less n w), λ d. refl) }

  pub line_next : (count : ℕ) (old mid : List X) (x : X) → IsCopied (λ (k : ℕ). k < count) source target from old mid → target count < length old → ((d : X) → x ≡ get_or from (source count) d)
      → IsCopied (λ (k : ℕ). k < count + 1) source target from old (set mid (target count) x)
  line_next count old mid x h there is = record { size = length-set mid (target count) x ∙ h.size; each = λ i. by i (equal_ways (target count) i) (h.each i) }
    where
      by : (i : ℕ) → (target count ≡ i) ⊎ (target count ≢ i)
          → ((n : ℕ) × (n < count) × (target n ≡ i) × ((d : X) → get_or mid i d ≡ get_or from (source n) d)) ⊎ (((n : ℕ) → n < count → target n ≢ i) × ((d : X) → get_or mid i d ≡ get_or old i d))
          → ((n : ℕ) × (n < count + 1) × (target n ≡ i) × ((d : X) → get_or (set mid (target count) x) i d ≡ get_or from (source n) d))
          ⊎ (((n : ℕ) → n < count + 1 → target n ≢ i) × ((d : X) → get_or (set mid (target count) x) i d ≡ get_or old i d))
      by i (inl here) _ =
          let size = h.size in
          inl (count, omega arith, here, λ d. ap (λ (j : ℕ). get_or (set mid (target count) x) j d) (sym here) ∙ get_or-set_same mid (target count) x d (omega (arith, there, size)) ∙ is d)
      by i (inr away) (inl w) = let less = w.1 in inl (w.0, omega (arith, less), w.2, λ d. get_or-set_other mid (target count) i x d (λ t. away (sym t)) ∙ w.3 d)
      by i (inr away) (inr w) = inr (
        λ n k. elim (below_or_last n count k) [ inl less ↦ w.0 n less | inr e ↦ (λ t. away (ap target (sym e) ∙ t)) ],
        λ d. get_or-set_other mid (target count) i x d (λ t. away (sym t)) ∙ w.1 d,
      )

-- from equal elements
module _ {I X : Type 0} (Within : I → Type 0) (source by target : I → ℕ) (from old new : List X) where
  pub copied_same : ((n : I) → source n ≡ by n) → IsCopied Within source target from old new → IsCopied Within by target from old new
  copied_same same h = record { size = h.size; each = λ i. elim (h.each i) [ inl w ↦ inl (w.0, w.1, w.2, λ d. w.3 d ∙ ap (λ (j : ℕ). get_or from j d) (same w.0)) | inr w ↦ inr w ] }

module _ {J X : Type 0} (Within : J → Type 0) (source target : ℕ → J → ℕ) (from : List X) where
  -- the first so many are copied
  abbrev pub AreCopied : ℕ → List X → List X → Type 0
  AreCopied count old new = IsCopied (λ (n : ℕ × J). (n.0 < count) × Within n.1) (λ n. source n.0 n.1) (λ n. target n.0 n.1) from old new

  pub copied_none : (xs : List X) → AreCopied 0 xs xs
  copied_none xs = record { size = refl; each = λ i. inr (λ n w. absurd (no_less n.0 w.0), λ d. refl) }

  pub copied_next : (count : ℕ) (old mid new : List X) → AreCopied count old mid → IsCopied Within (source count) (target count) from mid new → AreCopied (count + 1) old new
  copied_next count old mid new h next = record { size = next.size ∙ h.size; each = λ i. by i (next.each i) (h.each i) }
    where
      by : (i : ℕ) → ((j : J) × Within j × (target count j ≡ i) × ((d : X) → get_or new i d ≡ get_or from (source count j) d)) ⊎ (((j : J) → Within j → target count j ≢ i) × ((d : X) → get_or new i d ≡ get_or mid i d))
          → ((n : ℕ × J) × ((n.0 < count) × Within n.1) × (target n.0 n.1 ≡ i) × ((d : X) → get_or mid i d ≡ get_or from (source n.0 n.1) d))
          ⊎ (((n : ℕ × J) → (n.0 < count) × Within n.1 → target n.0 n.1 ≢ i) × ((d : X) → get_or mid i d ≡ get_or old i d))
          → ((n : ℕ × J) × ((n.0 < count + 1) × Within n.1) × (target n.0 n.1 ≡ i) × ((d : X) → get_or new i d ≡ get_or from (source n.0 n.1) d))
          ⊎ (((n : ℕ × J) → (n.0 < count + 1) × Within n.1 → target n.0 n.1 ≢ i) × ((d : X) → get_or new i d ≡ get_or old i d))
      by i (inl w) _ = inl ((count, w.0), (omega arith, w.1), w.2, w.3)
      by i (inr u) (inl w) = let less = w.1.0 in inl (w.0, (omega (arith, less), w.1.1), w.2, λ d. u.1 d ∙ w.3 d)
      by i (inr u) (inr w) = inr (
        λ n k. elim (below_or_last n.0 count k.0) [ inl less ↦ w.0 n (less, k.1) | inr e ↦ (λ t. u.0 n.1 k.1 (ap (λ (m : ℕ). target m n.1) (sym e) ∙ t)) ],
        λ d. u.1 d ∙ w.1 d,
      )
