-- The size of a node itself is small, whatever its bits: the hidden goal of each call on a node of a pool.
use Rattle.std.proofs.Common.{◌+◌, ◌*◌, ◌^◌, ◌<◌, ◌≤◌, ℕ, max, arith}
use Rattle.vdb_node.proofs.Sizes.{leaf_fits, node_fits, up_le}
use prog.Memory.{up}

pub internal_small : (a b words row : ℕ) → words ≤ 512 → a ≤ 8 → b ≤ 8 → row ≤ 64 + up 8 (0 + words * 8)
    → up (max 8 (max 8 (max a 8))) (up 8 (up b (up 8 (0 + up 8 (0 + words * 8)) + up 8 (0 + words * 8)) + row) + 24) < 2 ^ 63
internal_small a b words row few ha hb hr =
    node_fits a b (up 8 (0 + up 8 (0 + words * 8)) + up 8 (0 + words * 8)) row (up 8 (0 + words * 8)) ha hb
    (omega (arith, few, up_le 8 (0 + words * 8), up_le 8 (0 + up 8 (0 + words * 8)))) hr (omega (arith, few, up_le 8 (0 + words * 8)))

pub leaf_small : (a b words row : ℕ) → words ≤ 512 → a ≤ 8 → b ≤ 8 → row ≤ 64 + up 8 (0 + words * 8)
    → up (max a 8) (up 8 (up b 0 + row) + up 8 (0 + words * 8)) < 2 ^ 63
leaf_small a b words row few ha hb hr = leaf_fits a b row (up 8 (0 + words * 8)) ha hb hr (omega (arith, few, up_le 8 (0 + words * 8)))
