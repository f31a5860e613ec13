-- Boxes without a key of the table: each voxel is the inactive background.
use Rattle.vdb_walk.proofs.Common.{◌≡◌, ◌⊎◌, inl, inr, sym, refl, ℤ, pos, ◌-ℤ◌, ◌≤ℤ◌, ◌<ℤ◌, arith, int_cmp_is, int_cmp, Ordering, Less, Equal, Greater, ints, key, Box, coord, coord_cmp, Bits, Coord, Layout}
use Rattle.std.specs.Ordering.{ordering_then}
use Rattle.std.proofs.lemmas.Cmp.{int_ranked}

-- ---- the order of coordinates

-- one coordinate lies below another along each axis, or equals it there
abbrev pub IsUpTo : Coord → Coord → Type 0
IsUpTo p q = (p.x ≤ℤ q.x) × (p.y ≤ℤ q.y) × (p.z ≤ℤ q.z)

compared : (x y : ℤ) → x ≤ℤ y → (int_cmp x y ≡ Less) ⊎ (int_cmp x y ≡ Equal)
compared x y h = by (int_cmp x y) refl
  where
    by : (o : Ordering) → o ≡ int_cmp x y → (int_cmp x y ≡ Less) ⊎ (int_cmp x y ≡ Equal)
    by Less e = inl (sym e)
    by Equal e = inr (sym e)
    by Greater e = absurd (let less = int_ranked x y Greater e in omega (arith, ints, h, less))

less_int : (x y : ℤ) → x <ℤ y → int_cmp x y ≡ Less
less_int x y h = sym (int_cmp_is x y Less h)

-- if the first of two comparisons says less or equal, and the second less, the whole says less
less_on : (o r : Ordering) → (o ≡ Less) ⊎ (o ≡ Equal) → r ≡ Less → ordering_then o r ≡ Less
less_on Less r h e = refl
less_on Equal r h e = e
less_on Greater r (inl h) e = cc
less_on Greater r (inr h) e = cc

-- the coordinate one below another along z comes before all that lie beyond that other one
pub before_less : (p q : Coord) → IsUpTo p q → coord_cmp (coord p.x p.y (p.z -ℤ pos 1)) q ≡ Less
before_less p q h =
    let z = h.2 in
    less_on (int_cmp p.x q.x) _ (compared p.x q.x h.0)
    (less_on (int_cmp p.y q.y) _ (compared p.y q.y h.1) (less_int (p.z -ℤ pos 1) q.z (omega (arith, ints, z))))

-- ---- the keys over a box

module _ {V : Type 0} (bits : Bits) (t : Layout V) where
  module _ (b : Box) where
    abbrev pub before : Coord
    before = let k = key bits b.min in coord k.x k.y (k.z -ℤ pos 1)
