-- The first leaf of two parts is the first of the earlier one, or else that of the later one.
use Rattle.vdb_tree.proofs.Common.{◌≡◌, ◌⊎◌, inl, inr, ℕ, ◌<◌, ◌≤◌, false, arith, Option, Some, None, is_lt, block_cmp, Bits, Coord, Layout, IsFirstLeaf, IsLeafCorner}

-- of two numbers one is at most the other, or the other is less
pub from_or_below : (m n : ℕ) → (m ≤ n) ⊎ (n < m)
from_or_below m n = grind arith

module _ {V : Type 0} (bits : Bits) (t : Layout V) where
  module _ (All Early Late : Coord → Type 0) (whole : (q : Coord) → IsLeafCorner bits t q → All q → Early q ⊎ Late q) where
    -- the first of the early leaves is the first of all, if each of them precedes each late one
    pub first_of_early : (p : Coord) → ((q : Coord) → Early q → All q) → ((p q : Coord) → Early p → Late q → is_lt (block_cmp bits q p) ≡ false) → IsFirstLeaf bits t Early (Some p) → IsFirstLeaf bits t All (Some p)
    first_of_early p early before first =
        (first.0, early p first.1, λ q corner all. elim (whole q corner all) [ inl e ↦ first.2 q corner e | inr l ↦ before p q first.1 l ])

    -- the first of the late leaves is the first of all, if there is no early one
    pub first_of_late : (found : Option Coord) → ((q : Coord) → Late q → All q) → IsFirstLeaf bits t Early None → IsFirstLeaf bits t Late found → IsFirstLeaf bits t All found
    first_of_late (Some p) late none first =
        (first.0, late p first.1, λ q corner all. elim (whole q corner all) [ inl e ↦ absurd (none q corner e) | inr l ↦ first.2 q corner l ])
    first_of_late None late none first =
        λ q corner all. elim (whole q corner all) [ inl e ↦ none q corner e | inr l ↦ first q corner l ]
