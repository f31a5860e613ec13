-- The standard tree: its bits, and the size of its leaves.
use Rattle.vdb_file.proofs.Common.{ℕ, ◌+◌, ◌*◌, ◌^◌, ◌<◌, ◌≤◌, arith, vdb, AreBits}
use Rattle.std.proofs.Common.{max}
use Rattle.vdb_tree.proofs.Sizes.{leaf_small}
use prog.Memory.{up}

-- the bits that a tree's nodes may have
pub standard_bits : AreBits vdb
standard_bits = ((omega arith, omega arith), (omega arith, omega arith), (omega arith, omega arith))

-- a leaf itself is small: a hidden goal of each call on one
pub standard_leaf_small : (a b row : ℕ) → a ≤ 8 → b ≤ 8 → row ≤ 64 + up 8 (0 + 8 * 8) → up (max a 8) (up 8 (up b 0 + row) + up 8 (0 + 8 * 8)) < 2 ^ 63
standard_leaf_small a b row ha hb hr = leaf_small a b 8 row (omega arith) ha hb hr
