-- The entries of a node, and which of a level's blocks and a node's entries meet a box.
use Rattle.std.specs.Prelude.{ℕ, ℤ, pos, ◌/◌, ◌%◌, ◌*◌, ◌≤◌, length, filter}
use Rattle.vdb_coord.specs.Space.{Box, coord, coordinates}
use Rattle.vdb_coord.specs.Blocks.{block, block_number, block_numbers, entry_bits, node_bits, width}
use Rattle.vdb_coord.specs.Boxes.{meets}
use Rattle.vdb_coord.specs.Components.{digit, number_at}
use Rattle.vdb_coord.specs.declared.Bits.{Bits}
use Rattle.vdb_coord.specs.declared.Coord.{Coord}
use Rattle.vdb_coord.specs.declared.Level.{Level}

-- how many bits may tell the entries of a node apart
abbrev pub AreNodeBits : ℕ → Type 0
AreNodeBits n = (1 ≤ n) × (n ≤ 5)

-- bits that a tree's nodes may have
abbrev pub AreBits : Bits → Type 0
AreBits bits = AreNodeBits bits.upper × AreNodeBits bits.lower × AreNodeBits bits.leaf

-- which entry of any node of the level holds p, counted in such entries along each axis: at the leaf level p itself
abbrev pub entry_number : Bits → Level → Coord → Coord
entry_number bits level p =
    let number : ℤ → ℤ = number_at (entry_bits bits level) in
    coord (number p.x) (number p.y) (number p.z)

-- the position of p's entry in the level's node around p, along each axis
abbrev pub position : Bits → Level → Coord → Coord
position bits level p =
    let along : ℤ → ℤ = λ x. pos (digit (entry_bits bits level) (node_bits bits level) x) in
    coord (along p.x) (along p.y) (along p.z)

-- the position of entry i in its node, along each axis
abbrev pub position_of : Bits → Level → ℕ → Coord
position_of bits level i =
    let n = width bits level in
    coord (pos (i / (n * n))) (pos (i / n % n)) (pos (i % n))

-- the numbers of the level's blocks that have a coordinate in the box, which make a box themselves
abbrev pub numbers_over : Bits → Level → Box → Box
numbers_over bits level b = record { min = block_number bits level b.min; max = block_number bits level b.max }

-- how many of the level's blocks have a coordinate in the box
abbrev pub blocks_meeting : Bits → Level → Box → ℕ
blocks_meeting bits level b = length (filter (λ n. meets (block bits level n) b) (coordinates (block_numbers bits level)))
