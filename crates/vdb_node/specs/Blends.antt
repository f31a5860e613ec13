-- Leaves whose cells combine those of two.
use Rattle.std.specs.Prelude.{◌≡◌, ◌<◌, ◌||◌, ℕ, Option, Some, None}
use Rattle.vdb_node.specs.Leaf.{cell_in, Leaf}
use Rattle.vdb_value.specs.declared.Cell.{Cell}

-- each of the first n values combines the old value and the other's, and is on if one of the two was
abbrev pub AreBlended : {V : Type 0} → (V → V → Option V) → ℕ → Leaf V → (Cell V → ℕ → Cell V) → Leaf V → Type 0
AreBlended {V} blend n old other new =
    (d : Cell V) (i : ℕ) → i < n
    → (blend (cell_in d old i).value (other d i).value ≡ Some (cell_in d new i).value) × ((cell_in d new i).on ≡ ((cell_in d old i).on || (other d i).on))

-- some two of the first n values do not combine
abbrev pub LacksBlend : {V : Type 0} → (V → V → Option V) → ℕ → Leaf V → (Cell V → ℕ → Cell V) → Type 0
LacksBlend {V} blend n old other = (i : ℕ) × (i < n) × ((d : Cell V) → blend (cell_in d old i).value (other d i).value ≡ None)
