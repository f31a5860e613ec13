-- Rows of places.
use Rattle.std.specs.Prelude.{◌≡◌, ℕ, zero, suc, ◌+◌, List, [], ◌∷◌, length, get_or}
use denote.RawPtr.{Ptr, null_ptr, ◌+ₚ◌}

-- the row has an item, and the last one lies at p
abbrev pub IsLastAt : {X : Type 0} → List Ptr → List X → Ptr → Type 0
IsLastAt ps xs p = (n : ℕ) × (length xs ≡ n + 1) × (p ≡ get_or ps n null_ptr)

-- n places side by side from p on, each of `stride` bytes
abbrev pub row_from : ℕ → Ptr → ℕ → List Ptr
row_from bytes p zero = []
row_from bytes p (suc n) = p ∷ row_from bytes (p +ₚ bytes) n
