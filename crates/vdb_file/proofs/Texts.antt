-- Reads bytes after their count.
use Rattle.vdb_file.proofs.Common.{◌≡◌, ℕ, List, [], ◌∷◌, length, refl, sym, subst, ◌∙◌, append-nil, ⊤, counted, Fails, Position, Took, LoadFault}
use Rattle.vdb_file.proofs.Unambiguous.{says_byte, says_fixed}
use Rattle.vdb_file.proofs.Fronts.{fails_after, fails_first, fails_none, fails_turn}

module _ (P : List ℕ → Type 0) (fault : LoadFault) (old : Position) where
  -- no count is ahead
  pub no_count : Fails (λ n. ⊤) (λ n. n ∷ []) fault old → Fails P counted fault old
  no_count h = fails_first P counted (λ n. ⊤) (λ n. n ∷ []) (λ t. length t) (λ t. t) fault old (λ t p. tt) (λ t p. refl) h

  module _ (mid : Position) (len : ℕ) (took : Took old mid (len ∷ [])) where
    -- the count was read
    after_count : Fails (λ t. P t × (len ≡ length t)) (λ t. t) fault mid → Fails P counted fault old
    after_count h = fails_after P counted (len ∷ []) (λ t. len ≡ length t) (λ t. length t ∷ []) (λ t. t) fault old mid took (λ t p. says_byte len (length t)) (λ t p. refl) h

    -- the bytes aren't ahead
    pub no_bytes : Fails (λ bytes. length bytes ≡ len) (λ bytes. bytes) fault mid → Fails P counted fault old
    no_bytes h = after_count (fails_turn (λ t. P t × (len ≡ length t)) (λ t. t) (λ bytes. length bytes ≡ len) (λ bytes. bytes) (λ t. t) fault mid (λ t p. sym p.1) (λ t p. refl) h)

    -- the bytes were read, and are no such text
    pub no_text : (new : Position) (bytes : List ℕ) → Took mid new bytes → length bytes ≡ len → (P bytes → ⊥) → Fails P counted fault old
    no_text new bytes more same none =
        after_count (fails_after (λ t. P t × (len ≡ length t)) (λ t. t) bytes (λ t. bytes ≡ t) (λ t. t) (λ t. []) fault mid new more
        (λ t p. says_fixed bytes t (same ∙ p.1)) (λ t p. sym (append-nil t))
        (fails_none (λ t. (P t × (len ≡ length t)) × (bytes ≡ t)) (λ t. []) fault new (λ t p. none (subst P (sym p.1) p.0.0))))
