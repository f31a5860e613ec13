-- Aligned blocks and their order, for any bits of the nodes. Components are divided by rounding down.
use Rattle.std.specs.Prelude.{ℕ, ℤ, pos, ◌+◌, ◌-◌, ◌*◌, ◌/◌, ◌%◌, ◌^◌, ◌+ℤ◌, unsigned_abs, Bool, true, List, Option, Some, None}
use Rattle.std.specs.List.{range_with_len}
use Rattle.std.specs.Int.{int_rem_euclid}
use Rattle.std.specs.declared.cmp.Ordering.{Ordering}
use Rattle.std.specs.Ordering.{ordering_then, nat_cmp, is_lt}
use Rattle.vdb_coord.specs.Components.{first_of, last_of, number_at}
use Rattle.vdb_coord.specs.Space.{Box, by_component, coord, coord_cmp, everywhere}
use Rattle.vdb_coord.specs.declared.Coord.{Coord}
use Rattle.vdb_coord.specs.declared.Bits.{Bits}
use Rattle.vdb_coord.specs.declared.Level.{Level}
use Rattle.vdb_coord.specs.declared.Level.TheVariants.{Leaf, Lower, Upper}

-- the bits of the standard VDB tree, whose blocks span 8, 128 and 4,096 coordinates
abbrev pub vdb : Bits
vdb = record { upper = 5; lower = 4; leaf = 3 }

-- how many bits of a component tell the entries of the level's nodes apart
abbrev pub node_bits : Bits → Level → ℕ
node_bits bits Leaf = bits.leaf
node_bits bits Lower = bits.lower
node_bits bits Upper = bits.upper

-- how many bits lie below the node bits: an entry spans 2 to that power
abbrev pub entry_bits : Bits → Level → ℕ
entry_bits bits Leaf = 0
entry_bits bits Lower = bits.leaf
entry_bits bits Upper = bits.leaf + bits.lower

-- the entry bits and the node bits together: a block of the level spans 2 to that power
abbrev pub block_bits : Bits → Level → ℕ
block_bits bits Leaf = bits.leaf
block_bits bits Lower = bits.leaf + bits.lower
block_bits bits Upper = bits.leaf + bits.lower + bits.upper

-- how many entries a node has along an axis
abbrev pub width : Bits → Level → ℕ
width bits level = 2 ^ node_bits bits level

-- how many coordinates an entry spans along an axis
abbrev pub entry_span : Bits → Level → ℕ
entry_span bits level = 2 ^ entry_bits bits level

-- how many coordinates a block spans along an axis
abbrev pub span : Bits → Level → ℕ
span bits level = 2 ^ block_bits bits level

-- which block of the level holds p, counted in blocks along each axis
abbrev pub block_number : Bits → Level → Coord → Coord
block_number bits level p = by_component (number_at (block_bits bits level)) p

-- the key of p in the root table: the number of its upper extent
abbrev pub key : Bits → Coord → Coord
key bits p = block_number bits Upper p

-- the coordinates of the block with this number
abbrev pub block : Bits → Level → Coord → Box
block bits level n = record { min = by_component (first_of (block_bits bits level)) n; max = by_component (last_of (block_bits bits level)) n }

-- the level's block around p
abbrev pub block_around : Bits → Level → Coord → Box
block_around bits level p = block bits level (block_number bits level p)

-- the numbers of the level's blocks
abbrev pub block_numbers : Bits → Level → Box
block_numbers bits level = record { min = block_number bits level everywhere.min; max = block_number bits level everywhere.max }

-- which entry of the level's node around p holds p: z counts by 1, y by the width, x by its square
abbrev pub offset : Bits → Level → Coord → ℕ
offset bits level p =
    let entry : ℤ → ℕ = λ x. unsigned_abs (int_rem_euclid x (pos (span bits level))) / entry_span bits level in
    (entry p.x * width bits level + entry p.y) * width bits level + entry p.z

-- how many entries a node of the level has
abbrev pub entries : Bits → Level → ℕ
entries bits level = width bits level ^ 3

-- the indexes of a node's entries; never computed in a goal, since a node has thousands
unfoldable pub entry_numbers : Bits → Level → List ℕ
entry_numbers bits level = range_with_len 0 (entries bits level)

-- the coordinates of entry i in a block of the level
abbrev pub sub_block : Bits → Level → Box → ℕ → Box
sub_block bits level b i =
    let n = width bits level in
    let first : ℤ → ℕ → ℤ = λ low k. low +ℤ pos (k * entry_span bits level) in
    let last : ℤ → ℕ → ℤ = λ low k. first low k +ℤ pos (entry_span bits level - 1) in
    record {
      min = coord (first b.min.x (i / (n * n))) (first b.min.y (i / n % n)) (first b.min.z (i % n));
      max = coord (last b.min.x (i / (n * n))) (last b.min.y (i / n % n)) (last b.min.z (i % n));
    }

-- block order: by key, then by upper, lower and leaf offset
abbrev pub block_cmp : Bits → Coord → Coord → Ordering
block_cmp bits p q =
    let by : Level → Ordering = λ level. nat_cmp (offset bits level p) (offset bits level q) in
    ordering_then (coord_cmp (key bits p) (key bits q)) (ordering_then (by Upper) (ordering_then (by Lower) (by Leaf)))

-- whether p comes past the last coordinate in block order; each does if there is no last one
abbrev pub is_past : Bits → Option Coord → Coord → Bool
is_past bits None p = true
is_past bits (Some last) p = is_lt (block_cmp bits last p)
