-- What leaves and internal nodes share.
use Rattle.std.specs.Prelude.{◌≡◌, ◌*◌, ◌^◌, ◌≤◌, ℕ, Bool, false, List, map}
use Rattle.std.specs.List.{range_with_len}
use Rattle.vdb_mask.specs.Mask.{is_on}

-- how many entries a node with this many bits has: 8 to that power
abbrev pub entry_count : ℕ → ℕ
entry_count bits = 2 ^ (3 * bits)

-- what a function gives for 0, 1 and so on, n values
unfoldable pub listed : {A : Type 0} → (ℕ → A) → ℕ → List A
listed f n = map f (range_with_len 0 n)

-- the mask is off from an index on
abbrev pub IsOffFrom : List Bool → ℕ → Type 0
IsOffFrom mask n = (i : ℕ) → n ≤ i → is_on mask i ≡ false
