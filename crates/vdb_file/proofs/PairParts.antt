-- Reads metadata pairs.
use Rattle.vdb_file.proofs.Common.{◌≡◌, ℕ, true, List, [], ◌∷◌, length, refl, sym, Option, ⊤, flat_map, is_text, ArePairs, IsPair, counted, pairs_bytes, AreItems, IsItem, name_of, pair_bytes, Fails, Position, Took, LoadFault}
use Rattle.vdb_file.specs.internal.Parts.{IsNext}
use Rattle.vdb_file.proofs.Unambiguous.{IsCode, says_byte}
use Rattle.vdb_file.proofs.Numbers.{says_counted}
use Rattle.vdb_file.proofs.Pairs.{says_pair}
use Rattle.vdb_file.proofs.Fronts.{fails_after, fails_first, fails_turn, took_both}

-- the bytes of a pair determine it
pub pair_code : IsCode IsPair pair_bytes
pair_code a b pa pb = says_pair a b

module _ (before : Option (List ℕ)) (fault : LoadFault) (old : Position) where
  -- no key is ahead
  pub no_key : Fails (IsNext before) counted fault old → Fails (IsItem IsPair name_of before) pair_bytes fault old
  no_key h =
      fails_first (IsItem IsPair name_of before) pair_bytes (IsNext before) counted (λ e. e.0) (λ e. counted e.1) fault old (λ e p. record { form = p.has.key; rises = p.rises }) (λ e p. refl) h

  -- no text is ahead
  pub no_pair_text : (mid : Position) (key : List ℕ) → Took old mid (counted key) → Fails (λ t. is_text t ≡ true) counted fault mid → Fails (IsItem IsPair name_of before) pair_bytes fault old
  no_pair_text mid key took h =
      fails_after (IsItem IsPair name_of before) pair_bytes (counted key) (λ e. key ≡ e.0) (λ e. counted e.0) (λ e. counted e.1) fault old mid took (λ e p. says_counted key e.0) (λ e p. refl)
      (fails_turn (λ e. IsItem IsPair name_of before e × (key ≡ e.0)) (λ e. counted e.1) (λ t. is_text t ≡ true) counted (λ e. e.1) fault mid (λ e p. p.0.has.text) (λ e p. refl) h)

-- the key and the text were read
pub pair_read : (before : Option (List ℕ)) (old mid new : Position) (key text : List ℕ) → IsNext before key → is_text text ≡ true → Took old mid (counted key) → Took mid new (counted text)
    → IsItem IsPair name_of before (key, text) × Took old new (pair_bytes (key, text))
pair_read before old mid new key text next is first more = (record { has = record { key = next.form; text = is }; rises = next.rises }, took_both old mid new (counted key) (counted text) first more)

-- ---- pairs after their count

module _ (fault : LoadFault) (old : Position) where
  -- no count is ahead
  pub no_pair_count : Fails (λ n. ⊤) (λ n. n ∷ []) fault old → Fails ArePairs pairs_bytes fault old
  no_pair_count h = fails_first ArePairs pairs_bytes (λ n. ⊤) (λ n. n ∷ []) (λ ps. length ps) (λ ps. flat_map pair_bytes ps) fault old (λ ps p. tt) (λ ps p. refl) h

  module _ (mid : Position) (n : ℕ) (took : Took old mid (n ∷ [])) where
    -- the count was read
    after_pair_count : Fails (λ ps. ArePairs ps × (n ≡ length ps)) (flat_map pair_bytes) fault mid → Fails ArePairs pairs_bytes fault old
    after_pair_count h = fails_after ArePairs pairs_bytes (n ∷ []) (λ ps. n ≡ length ps) (λ ps. length ps ∷ []) (flat_map pair_bytes) fault old mid took (λ ps p. says_byte n (length ps)) (λ ps p. refl) h

    -- this many pairs aren't ahead
    pub no_pairs : Fails (AreItems IsPair name_of n) (flat_map pair_bytes) fault mid → Fails ArePairs pairs_bytes fault old
    no_pairs h =
        after_pair_count (fails_turn (λ ps. ArePairs ps × (n ≡ length ps)) (flat_map pair_bytes) (AreItems IsPair name_of n) (flat_map pair_bytes) (λ ps. ps) fault mid
        (λ ps p. record { count = sym p.1; each = p.0.each; in_order = p.0.in_order }) (λ ps p. refl) h)
