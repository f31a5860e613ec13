-- Trees take little memory themselves: the hidden goal of a walk over two trees.
use Rattle.std.proofs.Common.{◌+◌, ◌*◌, ◌^◌, ◌<◌, ◌≤◌, ℕ, max, arith}
use Rattle.vdb_node.proofs.Sizes.{up_le}
use prog.Memory.{up}

-- a tree: its background, its limit, its root table, whether that is swept, and three pools
pub tree_small : (a b size : ℕ) → a ≤ 8 → b ≤ 8 → size ≤ 8 → up (max 1 (max a 8)) (up 8 (up 8 (up 8 (up 1 (up 8 (up 4 (up b 0 + size) + 4) + 24) + 1) + 56) + 56) + 56) < 2 ^ 63
tree_small a b size ha hb hs =
    let background = up b 0 + size in
    let limit = up 4 background + 4 in
    let table = up 8 limit + 24 in
    let swept = up 1 table + 1 in
    let uppers = up 8 swept + 56 in
    let lowers = up 8 uppers + 56 in
    let leaves = up 8 lowers + 56 in
    omega (arith, up_le b 0, up_le 4 background, up_le 8 limit, up_le 1 table, up_le 8 swept, up_le 8 uppers, up_le 8 lowers, up_le (max 1 (max a 8)) leaves)
