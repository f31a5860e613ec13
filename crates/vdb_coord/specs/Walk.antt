-- The blocks that meet a box, one after another.
use Rattle.std.specs.Prelude.{◌≡◌, ◌⊎◌, ℕ, ℤ, pos, ◌+◌, ◌*◌, ◌^◌, ◌-ℤ◌, ◌<ℤ◌, unsigned_abs, Option, Some, None, IsTrue}
use Rattle.vdb_coord.specs.Blocks.{block_number}
use Rattle.vdb_coord.specs.Space.{Box, is_inside}
use Rattle.vdb_coord.specs.declared.Bits.{Bits}
use Rattle.vdb_coord.specs.declared.Coord.{Coord}
use Rattle.vdb_coord.specs.declared.Level.{Level}

-- one coordinate comes before another by x, then by y, then by z
abbrev pub IsBefore : Coord → Coord → Type 0
IsBefore p q = (p.x <ℤ q.x) ⊎ (p.x ≡ q.x) × ((p.y <ℤ q.y) ⊎ (p.y ≡ q.y) × (p.z <ℤ q.z))

module _ (bits : Bits) (level : Level) where
  -- the level's block around p comes before the block around q
  abbrev pub IsBlockBefore : Coord → Coord → Type 0
  IsBlockBefore p q = IsBefore (block_number bits level p) (block_number bits level q)

  -- a coordinate of the box whose block is the first past p's; none if p's is the last block that meets the box
  abbrev pub IsNextBlock : Box → Coord → Option Coord → Type 0
  IsNextBlock box p None = (q : Coord) → IsTrue (is_inside box q) → IsBlockBefore q p ⊎ (block_number bits level q ≡ block_number bits level p)
  IsNextBlock box p (Some next) =
      IsTrue (is_inside box next) × IsBlockBefore p next
      × ((q : Coord) → IsTrue (is_inside box q) → IsBlockBefore q next → IsBlockBefore q p ⊎ (block_number bits level q ≡ block_number bits level p))

-- how many coordinates of all come after p
abbrev pub coordinates_after : Coord → ℕ
coordinates_after p =
    let after : ℤ → ℕ = λ x. unsigned_abs (pos 2147483647 -ℤ x) in
    (after p.x * 2 ^ 32 + after p.y) * 2 ^ 32 + after p.z
