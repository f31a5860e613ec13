-- The elements of voxels in an array.
use Rattle.vdb_c.proofs.Common.{◌≡◌, suc, ◌+◌, ◌*◌, ◌^◌, ◌<◌, ◌≤◌, ◌<ℤ◌, ℕ, ℤ, pos, ◌+ℤ◌, refl, sym, ap, ◌∙◌, true, IsTrue, SFits, w32, to_z, of_z, arith, int_le, ints, to_z-of_z, mul-le, int_gap, is_bounds, suc-mul, suc-eq-add-one, Box, coord, everywhere, extent, is_box, is_inside, is_within, Coord, both, are_apart, place, Strides}
use Rattle.std.proofs.Common.{negsuc, ◌-ℤ◌, unsigned_abs}
use Rattle.vdb_coord.specs.Space.{is_between}
use Rattle.vdb_coord.proofs.Boxes.{three}
use Rattle.vdb_c.proofs.NestedAxes.{same_gaps}
use Rattle.vdb_c.proofs.NextVoxels.{next_along_z}

-- ---- along an axis

pub reached : (low z : ℤ) → IsTrue (int_le low z) → low +ℤ pos (int_gap low z) ≡ z
reached (pos a) (pos b) h = grind (arith, ints)
reached (pos a) (negsuc b) h = grind (arith, ints)
reached (negsuc a) (pos b) h = grind (arith, ints)
reached (negsuc a) (negsuc b) h = grind (arith, ints)

gap_at_most : (low high z : ℤ) → IsTrue (is_between low high z) → int_gap low z ≤ int_gap low high
gap_at_most (pos a) (pos b) (pos c) h = grind (arith, ints)
gap_at_most (pos a) (pos b) (negsuc c) h = grind (arith, ints)
gap_at_most (pos a) (negsuc b) (pos c) h = grind (arith, ints)
gap_at_most (pos a) (negsuc b) (negsuc c) h = grind (arith, ints)
gap_at_most (negsuc a) (pos b) (pos c) h = grind (arith, ints)
gap_at_most (negsuc a) (pos b) (negsuc c) h = grind (arith, ints)
gap_at_most (negsuc a) (negsuc b) (pos c) h = grind (arith, ints)
gap_at_most (negsuc a) (negsuc b) (negsuc c) h = grind (arith, ints)

same_gap : (low high m n : ℤ) → IsTrue (is_between low high m) → IsTrue (is_between low high n) → int_gap low m ≡ int_gap low n → m ≡ n
same_gap low high m n h k e =
    sym (reached low m (both (int_le low m) (int_le m high) h).0) ∙ ap (λ g. low +ℤ pos g) e ∙ reached low n (both (int_le low n) (int_le n high) k).0

-- ---- in a box

next_gap : (low z : ℤ) → int_le low z ≡ true → int_gap low (z +ℤ pos 1) ≡ int_gap low z + 1
next_gap (pos a) (pos b) h = grind (arith, ints)
next_gap (pos a) (negsuc b) h = grind (arith, ints)
next_gap (negsuc a) (pos b) h = grind (arith, ints)
next_gap (negsuc a) (negsuc b) h = grind (arith, ints)

module _ (b : Box) (s : Strides) where
  -- the element of the next voxel along z
  pub place_along_z : (p : Coord) → int_le b.min.z p.z ≡ true → place b s (coord p.x p.y (p.z +ℤ pos 1)) ≡ place b s p + s.z
  place_along_z p h =
      ap (λ (g : ℕ). int_gap b.min.x p.x * s.x + (int_gap b.min.y p.y * s.y + g * s.z)) (next_gap b.min.z p.z h ∙ sym (suc-eq-add-one (int_gap b.min.z p.z)))
      ∙ more (int_gap b.min.x p.x * s.x) (int_gap b.min.y p.y * s.y) (int_gap b.min.z p.z * s.z) s.z (suc (int_gap b.min.z p.z) * s.z) (suc-mul (int_gap b.min.z p.z) s.z)
    where
      more : (a c g n m : ℕ) → m ≡ g + n → a + (c + m) ≡ a + (c + g) + n
      more a c g n m e = omega (arith, e)

  module _ (p : Coord) (inside : IsTrue (is_inside b p)) where
    axes : IsTrue (is_between b.min.x b.max.x p.x) × IsTrue (is_between b.min.y b.max.y p.y) × IsTrue (is_between b.min.z b.max.z p.z)
    axes = three (is_between b.min.x b.max.x p.x) (is_between b.min.y b.max.y p.y) (is_between b.min.z b.max.z p.z) inside

    -- no component is below the least corner's
    pub above : (int_le b.min.x p.x ≡ true) × (int_le b.min.y p.y ≡ true) × (int_le b.min.z p.z ≡ true)
    above = ((both (int_le b.min.x p.x) (int_le p.x b.max.x) axes.0).0, (both (int_le b.min.y p.y) (int_le p.y b.max.y) axes.1).0, (both (int_le b.min.z p.z) (int_le p.z b.max.z) axes.2).0)

    -- no voxel lies past the greatest corner
    pub place_at_most : place b s p ≤ place b s b.max
    place_at_most =
        let x = mul-le (int_gap b.min.x p.x) s.x (int_gap b.min.x b.max.x) s.x (gap_at_most b.min.x b.max.x p.x axes.0) (omega arith) in
        let y = mul-le (int_gap b.min.y p.y) s.y (int_gap b.min.y b.max.y) s.y (gap_at_most b.min.y b.max.y p.y axes.1) (omega arith) in
        let z = mul-le (int_gap b.min.z p.z) s.z (int_gap b.min.z b.max.z) s.z (gap_at_most b.min.z b.max.z p.z axes.2) (omega arith) in
        sums (int_gap b.min.x p.x * s.x) (int_gap b.min.x b.max.x * s.x) (int_gap b.min.y p.y * s.y) (int_gap b.min.y b.max.y * s.y) (int_gap b.min.z p.z * s.z) (int_gap b.min.z b.max.z * s.z) x y z
      where
        sums : (a a' c c' d d' : ℕ) → a ≤ a' → c ≤ c' → d ≤ d' → a + (c + d) ≤ a' + (c' + d')
        sums a a' c c' d d' h k l = omega arith

  module _ (apart : IsTrue (are_apart b s)) where
    -- no two voxels share an element
    pub same_place : (p q : Coord) → IsTrue (is_inside b p) → IsTrue (is_inside b q) → place b s p ≡ place b s q → p ≡ q
    same_place p q i j e =
        let at = axes p i in
        let other = axes q j in
        let gaps = same_gaps b s apart (int_gap b.min.x p.x) (int_gap b.min.y p.y) (int_gap b.min.z p.z) (int_gap b.min.x q.x) (int_gap b.min.y q.y) (int_gap b.min.z q.z)
        (gap_at_most b.min.x b.max.x p.x at.0) (gap_at_most b.min.y b.max.y p.y at.1) (gap_at_most b.min.z b.max.z p.z at.2)
        (gap_at_most b.min.x b.max.x q.x other.0) (gap_at_most b.min.y b.max.y q.y other.1) (gap_at_most b.min.z b.max.z q.z other.2) e in
        let x = same_gap b.min.x b.max.x p.x q.x at.0 other.0 gaps.0 in
        let y = same_gap b.min.y b.max.y p.y q.y at.1 other.1 gaps.1 in
        let z = same_gap b.min.z b.max.z p.z q.z at.2 other.2 gaps.2 in
        λ k. record { x = x k; y = y k; z = z k }

-- no voxel lies past the end of its row
pub not_past_z : (b : Box) (p : Coord) → IsTrue (is_inside b p) → int_le p.z b.max.z ≡ true
not_past_z b p inside =
    let axes = three (is_between b.min.x b.max.x p.x) (is_between b.min.y b.max.y p.y) (is_between b.min.z b.max.z p.z) inside in
    (both (int_le b.min.z p.z) (int_le p.z b.max.z) axes.2).1

-- what the parts of an element come to
pub parts : (b : Box) (s : Strides) (p : Coord) → IsTrue (is_inside b p) → place b s b.max < 2 ^ 64
    → (g h k : ℕ) → g ≡ int_gap b.min.x p.x → h ≡ int_gap b.min.y p.y → k ≡ int_gap b.min.z p.z
    → (g * s.x < 2 ^ 64) × (h * s.y < 2 ^ 64) × (k * s.z < 2 ^ 64) × (h * s.y + k * s.z < 2 ^ 64) × (g * s.x + (h * s.y + k * s.z) < 2 ^ 64) × (g * s.x + (h * s.y + k * s.z) ≡ place b s p)
parts b s p inside reach g h k x y z =
    let same : g * s.x + (h * s.y + k * s.z) ≡ place b s p = rw x (rw y (rw z refl)) in
    let most = place_at_most b s p inside in
    each (g * s.x) (h * s.y) (k * s.z) (place b s p) (place b s b.max) same most reach
  where
    each : (a c d n m : ℕ) → a + (c + d) ≡ n → n ≤ m → m < 2 ^ 64
        → (a < 2 ^ 64) × (c < 2 ^ 64) × (d < 2 ^ 64) × (c + d < 2 ^ 64) × (a + (c + d) < 2 ^ 64) × (a + (c + d) ≡ n)
    each a c d n m e l h = (omega arith, omega arith, omega arith, omega arith, omega arith, e)

-- the corners of a box are in order
pub ordered : (b : Box) → IsTrue (is_bounds b) → (int_le b.min.x b.max.x ≡ true) × (int_le b.min.y b.max.y ≡ true) × (int_le b.min.z b.max.z ≡ true)
ordered b h = three (int_le b.min.x b.max.x) (int_le b.min.y b.max.y) (int_le b.min.z b.max.z) (both (is_box b) (is_within b everywhere) h).0

pub max_inside : (b : Box) → IsTrue (is_bounds b) → IsTrue (is_inside b b.max)
max_inside b h = let o = ordered b h in rw (o.0, o.1, o.2, self b.max.x, self b.max.y, self b.max.z) refl
  where
    self : (x : ℤ) → int_le x x ≡ true
    self x = grind (arith, ints)

pub extent_is : (low high : ℤ) → int_le low high ≡ true → (g : ℕ) → g ≡ int_gap low high → g + 1 ≡ extent low high
extent_is low high h g e = ap (λ (n : ℕ). n + 1) e ∙ sym (rw h refl)

-- how far numbers are apart, as the code finds it
gap_is : (low n : ℤ) → int_le low n ≡ true → unsigned_abs (n -ℤ low) ≡ int_gap low n
gap_is (pos a) (pos b) h = grind (arith, ints)
gap_is (pos a) (negsuc b) h = grind (arith, ints)
gap_is (negsuc a) (pos b) h = grind (arith, ints)
gap_is (negsuc a) (negsuc b) h = grind (arith, ints)

pub passed_gap : (low n : ℤ) → SFits w32 low → SFits w32 n → int_le low n ≡ true → unsigned_abs (to_z w32 (of_z w32 n) -ℤ to_z w32 (of_z w32 low)) ≡ int_gap low n
passed_gap low n f g h = rw (to_z-of_z w32 n g, to_z-of_z w32 low f) (gap_is low n h)

-- along z the next voxel of a part of the box has the element one stride past that of the last
pub next_along : (b : Box) (s : Strides) (part : Box) → ((q : Coord) → IsTrue (is_inside part q) → IsTrue (is_inside b q)) → (p : Coord) → IsTrue (is_inside part p) → p.z <ℤ part.max.z
    → place b s b.max < 2 ^ 64 → (index : ℕ) → index ≡ place b s p → (index + s.z < 2 ^ 64) × (index + s.z ≡ place b s (coord p.x p.y (p.z +ℤ pos 1)))
next_along b s part within p inside below reach index e =
    let along = place_along_z b s p (above b s p (within p inside)).2 in
    let next : IsTrue (is_inside part (coord p.x p.y (p.z +ℤ pos 1))) = (next_along_z part p inside below).0 in
    let most = place_at_most b s (coord p.x p.y (p.z +ℤ pos 1)) (within (coord p.x p.y (p.z +ℤ pos 1)) next) in
    sums index (place b s p) s.z (place b s (coord p.x p.y (p.z +ℤ pos 1))) (place b s b.max) e along most reach
  where
    sums : (i n z m top : ℕ) → i ≡ n → m ≡ n + z → m ≤ top → top < 2 ^ 64 → (i + z < 2 ^ 64) × (i + z ≡ m)
    sums i n z m top e along most reach = (omega (arith, e, along, most, reach), omega (arith, e, along))
