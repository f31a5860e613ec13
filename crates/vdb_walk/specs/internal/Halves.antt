-- Boxes cut in two.
use Rattle.std.specs.Prelude.{◌≡◌, ◌<◌, ◌+◌, ℕ, ◌-ℤ◌, unsigned_abs, ◌&&◌, ◌||◌, false, IsTrue}
use Rattle.std.specs.Ordering.{is_lt}
use Rattle.vdb_coord.specs.Blocks.{block_cmp}
use Rattle.vdb_coord.specs.Components.{number_at}
use Rattle.vdb_coord.specs.Space.{Box, by_component, is_inside}
use Rattle.vdb_coord.specs.Walk.{IsBefore}
use Rattle.vdb_coord.specs.declared.Bits.{Bits}
use Rattle.vdb_coord.specs.declared.Coord.{Coord}

-- how far a box reaches along its three axes together
abbrev pub reach : Box → ℕ
reach b = unsigned_abs (b.max.x -ℤ b.min.x) + unsigned_abs (b.max.y -ℤ b.min.y) + unsigned_abs (b.max.z -ℤ b.min.z)

-- each coordinate of the box lies in one of two others, and each of those reaches less far
pub record IsHalved (b first second : Box) : Type 0 where
  pub each : (p : Coord) → is_inside b p ≡ (is_inside first p || is_inside second p)
  pub apart : (p : Coord) → (is_inside first p && is_inside second p) ≡ false
  pub first_less : reach first < reach b
  pub second_less : reach second < reach b

-- which block of 2 to the power `low` along each axis holds p, counted in such blocks
abbrev pub numbers : ℕ → Coord → Coord
numbers low p = by_component (number_at low) p

-- the blocks of the first box come before those of the second, by x, then by y, then by z
abbrev pub AreOrdered : ℕ → Box → Box → Type 0
AreOrdered low first second = (p q : Coord) → IsTrue (is_inside first p) → IsTrue (is_inside second q) → IsBefore (numbers low p) (numbers low q)

-- each coordinate of the first box comes before each of the second in block order
abbrev pub AreInBlockOrder : Bits → Box → Box → Type 0
AreInBlockOrder bits first second = (p q : Coord) → IsTrue (is_inside first p) → IsTrue (is_inside second q) → IsTrue (is_lt (block_cmp bits p q))
