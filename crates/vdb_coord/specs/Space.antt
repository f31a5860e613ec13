-- Coordinates and boxes of them.
use Rattle.std.specs.Prelude.{ℕ, ◌+◌, ◌*◌, ℤ, pos, negsuc, ◌+ℤ◌, Bool, ◌&&◌, if◌then◌else◌, List, map, flat_map, int_le}
use Rattle.std.specs.List.{range_with_len}
use Rattle.std.specs.Int.{int_gap}
use Rattle.std.specs.declared.cmp.Ordering.{Ordering}
use Rattle.std.specs.Ordering.{ordering_then, int_cmp, is_eq}
use Rattle.vdb_coord.specs.declared.Coord.{Coord}

-- the coordinate of these components
abbrev pub coord : ℤ → ℤ → ℤ → Coord
coord x y z = record { x = x; y = y; z = z }

-- a coordinate whose components are p's
abbrev pub by_component : (ℤ → ℤ) → Coord → Coord
by_component f p = coord (f p.x) (f p.y) (f p.z)

-- the order of coordinates: by x, then by y, then by z
abbrev pub coord_cmp : Coord → Coord → Ordering
coord_cmp p q = ordering_then (int_cmp p.x q.x) (ordering_then (int_cmp p.y q.y) (int_cmp p.z q.z))

-- whether two coordinates are one
abbrev pub coord_eq : Coord → Coord → Bool
coord_eq p q = is_eq (coord_cmp p q)

-- a box of coordinates, given by its least and its greatest corner, which both belong to it
pub record Box : Type 0 where
  pub min : Coord
  pub max : Coord

-- whether x is one of the numbers from low to high
abbrev pub is_between : ℤ → ℤ → ℤ → Bool
is_between low high x = int_le low x && int_le x high

-- whether the box holds the coordinate
abbrev pub is_inside : Box → Coord → Bool
is_inside b p = is_between b.min.x b.max.x p.x && is_between b.min.y b.max.y p.y && is_between b.min.z b.max.z p.z

-- whether the outer box holds both corners of the inner one
abbrev pub is_within : Box → Box → Bool
is_within inner outer = is_inside outer inner.min && is_inside outer inner.max

-- whether no component of the minimum is greater than the maximum's
abbrev pub is_box : Box → Bool
is_box b = int_le b.min.x b.max.x && int_le b.min.y b.max.y && int_le b.min.z b.max.z

-- all coordinates: those of signed 32-bit components
abbrev pub everywhere : Box
everywhere = let least = negsuc 2147483647 in let greatest = pos 2147483647 in record { min = coord least least least; max = coord greatest greatest greatest }

-- how many whole numbers there are from low to high, both counted
abbrev pub extent : ℤ → ℤ → ℕ
extent low high = if int_le low high then int_gap low high + 1 else 0

-- those numbers, rising
abbrev pub range : ℤ → ℤ → List ℤ
range low high = map (λ k. low +ℤ pos k) (range_with_len 0 (extent low high))

-- each coordinate of the box once, in their order; never computed in a goal, since a box has up to 2 ^ 96
unfoldable pub coordinates : Box → List Coord
coordinates b =
    flat_map (λ x. flat_map (λ y. map (λ z. coord x y z) (range b.min.z b.max.z)) (range b.min.y b.max.y)) (range b.min.x b.max.x)

-- how many coordinates the box holds
abbrev pub volume : Box → ℕ
volume b = extent b.min.x b.max.x * extent b.min.y b.max.y * extent b.min.z b.max.z
