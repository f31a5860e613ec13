-- Reads root limits and metadata pairs.
use Rattle.vdb_file.proofs.Common.{◌≡◌, ℕ, ◌<◌, ◌^◌, [], refl, sym, subst, arith, w32, to_be_bytes, Pairs, ArePairs, pairs_bytes, head_code, Fails, Position, Took, LoadFault, Two}
use Rattle.vdb_file.specs.internal.Parts.{IsHead, IsLimit}
use Rattle.vdb_file.proofs.Numbers.{says_u32}
use Rattle.vdb_file.proofs.Fronts.{fails_after, fails_first, fails_none, fails_turn, took_both}

-- a limit has four bytes
small_limit : (n : ℕ) → IsLimit n → n < 2 ^ 32
small_limit n h = let most = h.1 in omega (arith, most)

module _ (fault : LoadFault) (old : Position) where
  -- no number was read
  pub no_limit : Fails (λ n. n < 2 ^ 32) (to_be_bytes w32) fault old → Fails IsLimit (to_be_bytes w32) fault old
  no_limit h = fails_turn IsLimit (to_be_bytes w32) (λ n. n < 2 ^ 32) (to_be_bytes w32) (λ n. n) fault old small_limit (λ n p. refl) h

  -- a number that is no limit was read
  pub other_limit : (mid : Position) (n : ℕ) → n < 2 ^ 32 → Took old mid (to_be_bytes w32 n) → (IsLimit n → ⊥) → Fails IsLimit (to_be_bytes w32) fault old
  other_limit mid n small took none =
      fails_after IsLimit (to_be_bytes w32) (to_be_bytes w32 n) (λ m. n ≡ m) (to_be_bytes w32) (λ m. []) fault old mid took (λ m p. says_u32 n m small (small_limit m p)) (λ m p. refl)
      (fails_none (λ m. IsLimit m × (n ≡ m)) (λ m. []) fault mid (λ m p. none (subst IsLimit (sym p.1) p.0)))

  -- no limit is ahead
  pub no_head_limit : Fails IsLimit (to_be_bytes w32) fault old → Fails (IsHead Two) (head_code Two) fault old
  no_head_limit h = fails_first (IsHead Two) (head_code Two) IsLimit (to_be_bytes w32) (λ d. d.limit) (λ d. pairs_bytes d.pairs) fault old (λ d p. (p.positive, p.limited)) (λ d p. refl) h

  -- no pairs are ahead
  pub no_head_pairs : (mid : Position) (n : ℕ) → IsLimit n → Took old mid (to_be_bytes w32 n) → Fails ArePairs pairs_bytes fault mid → Fails (IsHead Two) (head_code Two) fault old
  no_head_pairs mid n is took h =
      fails_after (IsHead Two) (head_code Two) (to_be_bytes w32 n) (λ d. n ≡ d.limit) (λ d. to_be_bytes w32 d.limit) (λ d. pairs_bytes d.pairs) fault old mid took
      (λ d p. says_u32 n d.limit (small_limit n is) (small_limit d.limit (p.positive, p.limited))) (λ d p. refl)
      (fails_turn (λ d. IsHead Two d × (n ≡ d.limit)) (λ d. pairs_bytes d.pairs) ArePairs pairs_bytes (λ d. d.pairs) fault mid (λ d p. p.0.pairs) (λ d p. refl) h)

-- the limit and the pairs were read
pub head_read : (old mid new : Position) (n : ℕ) (ps : Pairs) → IsLimit n → ArePairs ps → Took old mid (to_be_bytes w32 n) → Took mid new (pairs_bytes ps)
    → IsHead Two (record { limit = n; pairs = ps }) × Took old new (head_code Two (record { limit = n; pairs = ps }))
head_read old mid new n ps is are first more = (record { positive = is.0; limited = is.1; pairs = are; old = tt }, took_both old mid new (to_be_bytes w32 n) (pairs_bytes ps) first more)
