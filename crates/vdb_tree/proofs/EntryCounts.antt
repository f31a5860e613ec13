-- How many entries a node has, in numbers of 32 bits.
use Rattle.vdb_tree.proofs.Common.{ℕ, ◌+◌, ◌*◌, ◌<◌, ◌≤◌, ◌^◌, arith, entry_count}
use Rattle.std.proofs.Math.Nat.{pow-le-pow_right}

pub few_entries : (b : ℕ) → b ≤ 5 → entry_count b ≤ 32768
few_entries b h =
    let two : 0 < 2 = omega arith in
    let few : 3 * b ≤ 15 = omega (arith, h) in
    let k : 2 ^ (3 * b) ≤ 2 ^ 15 = pow-le-pow_right {n = 2} two {i = 3 * b} {j = 15} few in
    k

-- the index after an index of a node
pub next_fits : (i b : ℕ) → b ≤ 5 → i < entry_count b → i + 1 < 2 ^ 32
next_fits i b h k = omega (arith, few_entries b h, k)
