-- For callers whose goal is that a type with a node in it fits in memory. A goal about a row cites the law `row_small` of `Stored`, as `g.met.V.Stored.row_small.0` for its bytes.
use Rattle.std.proofs.Common.{◌+◌, ◌-◌, ◌%◌, ◌^◌, ◌<◌, ◌≤◌, ℕ, max, arith}
use Rattle.std.proofs.Math.Nat.{mod-le}
use prog.Memory.{up}

-- rounding up to a multiple of an alignment adds at most the alignment
pub up_le : (alignment bytes : ℕ) → up alignment bytes ≤ bytes + alignment
up_le alignment bytes = omega (arith, mod-le (alignment - bytes % alignment) alignment)

-- a leaf: its row of values, and a mask of at most 512 words
pub leaf_fits : (a b row mask : ℕ) → a ≤ 8 → b ≤ 8 → row ≤ 64 + mask → mask ≤ 4104 → up (max a 8) (up 8 (up b 0 + row) + mask) < 2 ^ 63
leaf_fits a b row mask ha hb hr hm = omega (arith, up_le b 0, up_le 8 (up b 0 + row), up_le (max a 8) (up 8 (up b 0 + row) + mask))

-- an internal node: two masks, its row of values, and the vector of its slots
pub node_fits : (a b masks row mask : ℕ) → a ≤ 8 → b ≤ 8 → masks ≤ 8208 → row ≤ 64 + mask → mask ≤ 4104
    → up (max 8 (max 8 (max a 8))) (up 8 (up b masks + row) + 24) < 2 ^ 63
node_fits a b masks row mask ha hb hs hr hm =
    omega (arith, up_le b masks, up_le 8 (up b masks + row), up_le (max 8 (max 8 (max a 8))) (up 8 (up b masks + row) + 24))
