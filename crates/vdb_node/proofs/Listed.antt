-- What a listed function has at an index.
use Rattle.std.proofs.Common.{◌≡◌, ◌*◌, ◌<◌, ◌≤◌, ℕ, length, get_or, arith, pow_pos, subst, sym, ◌∙◌}
use Rattle.std.proofs.lemmas.List.{ext_get_or, get_or_past}
use Rattle.std.proofs.lemmas.List.FromFn.{get_or-map-range_with_len, length-map-range_with_len}
use Rattle.vdb_node.specs.Nodes.{entry_count, listed}

-- a node has an entry
pub entry_count-pos : (bits : ℕ) → 0 < entry_count bits
entry_count-pos bits = pow_pos (3 * bits)

module _ {A : Type 0} (f : ℕ → A) (n : ℕ) where
  -- the list has the requested length
  pub length-listed : length (listed f n) ≡ n
  unfolding listed
  length-listed = length-map-range_with_len f 0 n

  -- below the end the list has what the function gives
  pub get_or-listed : (i : ℕ) (d : A) → i < n → get_or (listed f n) i d ≡ f i
  unfolding listed
  get_or-listed i d h = get_or-map-range_with_len f 0 n i i d h (omega arith)

  -- past the end the list has nothing
  pub get_or-listed_past : (i : ℕ) (d : A) → n ≤ i → get_or (listed f n) i d ≡ d
  get_or-listed_past i d h = get_or_past (listed f n) i d (omega (arith, h, length-listed))

-- functions with the same first values are listed alike
pub listed_same : {A : Type 0} (f g : ℕ → A) (n : ℕ) → ((i : ℕ) → i < n → f i ≡ g i) → listed f n ≡ listed g n
listed_same f g n same =
    ext_get_or (f 0) (listed f n) (listed g n) (length-listed f n ∙ sym (length-listed g n))
    (λ i h.
    let below = subst (λ m. i < m) (length-listed f n) h in
    get_or-listed f n i (f 0) below ∙ same i below ∙ sym (get_or-listed g n i (f 0) below))
