-- The coordinates of a box one after another in block order, a block at a time.
use Rattle.std.specs.Prelude.{◌≡◌, ◌⊎◌, ℕ, Option, Some, None, IsTrue, count_by}
use Rattle.std.specs.Ordering.{is_lt}
use Rattle.vdb_coord.specs.Blocks.{block_cmp, block_number, is_past}
use Rattle.vdb_coord.specs.Space.{Box, coordinates, everywhere, is_inside}
use Rattle.vdb_coord.specs.declared.Bits.{Bits}
use Rattle.vdb_coord.specs.declared.Coord.{Coord}
use Rattle.vdb_coord.specs.declared.Level.{Level}

-- p comes before q in block order
abbrev pub ComesBefore : Bits → Coord → Coord → Type 0
ComesBefore bits p q = IsTrue (is_lt (block_cmp bits p q))

-- q comes before p, or lies in the level's block around p
abbrev pub IsUpToBlock : Bits → Level → Coord → Coord → Type 0
IsUpToBlock bits level p q = ComesBefore bits q p ⊎ (block_number bits level q ≡ block_number bits level p)

-- the first coordinate of the box in block order that comes past the level's block around p
pub record IsFirstPast (bits : Bits) (level : Level) (box : Box) (p next : Coord) : Type 0 where
  pub inside : IsTrue (is_inside box next)
  pub past : (q : Coord) → IsTrue (is_inside box q) → block_number bits level q ≡ block_number bits level p → ComesBefore bits q next
  pub between : (q : Coord) → IsTrue (is_inside box q) → ComesBefore bits q next → IsUpToBlock bits level p q

-- the first coordinate of the box past the block; none if no coordinate of the box comes past it
abbrev pub IsNextCoord : Bits → Level → Box → Coord → Option Coord → Type 0
IsNextCoord bits level box p None = (q : Coord) → IsTrue (is_inside box q) → IsUpToBlock bits level p q
IsNextCoord bits level box p (Some next) = IsFirstPast bits level box p next

-- the first coordinate, in block order, of what the box has of the level's block around p
pub record IsFirstInBlock (bits : Bits) (level : Level) (box : Box) (p first : Coord) : Type 0 where
  pub inside : IsTrue (is_inside box first)
  pub same : block_number bits level first ≡ block_number bits level p
  pub least : (q : Coord) → IsTrue (is_inside box q) → block_number bits level q ≡ block_number bits level p → ComesBefore bits first q ⊎ (first ≡ q)

-- how many coordinates come after p in block order
abbrev pub coordinates_past : Bits → Coord → ℕ
coordinates_past bits p = count_by (λ q. is_past bits (Some p) q) (coordinates everywhere)
