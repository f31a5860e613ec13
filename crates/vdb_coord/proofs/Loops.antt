-- A loop over the entries of a node, by their indexes.
use Rattle.vdb_coord.proofs.Common.{◌≡◌, ◌⊎◌, ℕ, ◌+◌, ◌<◌, arith, block_around, sub_block, Bits, Coord, Level}

-- the least coordinate of an entry of the node around p
abbrev pub corner : Bits → Level → Coord → ℕ → Coord
corner bits level p i = (sub_block bits level (block_around bits level p) i).min

earlier_or_here : (a i : ℕ) → a < i + 1 → (a < i) ⊎ (a ≡ i)
earlier_or_here a i h = grind arith
