-- The voxels of a box by their number.
use Rattle.vdb_c.proofs.Common.{◌≡◌, ◌≢◌, add-one, ◌⊎◌, inl, inr, ◌+◌, ◌*◌, ◌<◌, ◌≤◌, ℕ, ℤ, pos, ◌+ℤ◌, ◌≤ℤ◌, ◌<ℤ◌, refl, sym, ap, ◌∙◌, subst, Bool, true, false, ◌&&◌, IsTrue, arith, tests, rules, int_le, Some, None, nat_eq, nat_lt, int_gap, ints, suc-mul, Box, coord, coord_eq, extent, is_inside, volume, IsBefore, Coord, before_not_same, coord_equiv, inside_from, inside_parts, up_to_x, IsNextVoxel, dense, is_first, rank, are_apart, place, Strides}
use Rattle.std.proofs.Math.Nat.{mul_assoc, zero-mul}
use Rattle.vdb_coord.proofs.BlockOrder.{before_not_past, which_before}
use Rattle.vdb_c.proofs.Laid.{either_way}
use Rattle.vdb_c.specs.Elements.{axis_x, axis_y, axis_z, is_past}
use Rattle.vdb_c.proofs.NestedAxes.{volume_within}
use Rattle.vdb_c.proofs.NextVoxels.{next_along_x, next_along_y, next_along_z, no_next, or_second}
use Rattle.vdb_c.proofs.Places.{extent_is, place_at_most, reached, same_place}

-- ---- tests

less : (m n : ℕ) → m < n → nat_lt m n ≡ true
less m n h = search (rules, tests)

not_less : (m n : ℕ) → n ≤ m → nat_lt m n ≡ false
not_less m n h = search (rules, tests)

from_less : (m n : ℕ) → nat_lt m n ≡ true → m < n
from_less m n h = search (rules, tests)

from_not_less : (m n : ℕ) → nat_lt m n ≡ false → n ≤ m
from_not_less m n h = search (rules, tests)

-- below one more is below, except at the number itself
below_more : (m n : ℕ) → m ≢ n → nat_lt m (n + 1) ≡ nat_lt m n
below_more m n other = elim (either_way (nat_lt m n)) [
  | inl h ↦ let l = from_less m n h in less m (n + 1) (omega (arith, l)) ∙ sym h
  | inr h ↦ let l = from_not_less m n h in not_less m (n + 1) (omega (arith, l, other)) ∙ sym h
]

-- ---- along an axis

le_self : (x : ℤ) → x ≤ℤ x
le_self x = omega (arith, ints)

le_le : (x y z : ℤ) → x ≤ℤ y → y ≤ℤ z → x ≤ℤ z
le_le x y z a c = omega (arith, ints, a, c)

test_of : (low high : ℤ) → low ≤ℤ high → int_le low high ≡ true
test_of low high h = grind (arith, ints)

one_step : (low n : ℤ) (g g' : ℕ) → low +ℤ pos g ≡ n → low +ℤ pos g' ≡ n +ℤ pos 1 → g' ≡ g + 1
one_step low n g g' h k = omega (arith, ints, h, k)

no_step : (n : ℤ) (g : ℕ) → n +ℤ pos g ≡ n → g ≡ 0
no_step n g h = omega (arith, ints, h)

gap_next : (low n : ℤ) → low ≤ℤ n → int_gap low (n +ℤ pos 1) ≡ int_gap low n + 1
gap_next low n h =
    one_step low n (int_gap low n) (int_gap low (n +ℤ pos 1)) (reached low n (test_of low n h)) (reached low (n +ℤ pos 1) (test_of low (n +ℤ pos 1) (omega (arith, ints, h))))

gap_self : (n : ℤ) → int_gap n n ≡ 0
gap_self n = no_step n (int_gap n n) (reached n n (test_of n n (le_self n)))

ends_alike : (m n : ℤ) → m ≤ℤ n → n ≤ℤ m → m ≡ n
ends_alike m n h k = omega (arith, ints, h, k)

-- the last number of a range
gap_end : (low high n : ℤ) → low ≤ℤ n → n ≤ℤ high → high ≤ℤ n → extent low high ≡ int_gap low n + 1
gap_end low high n h k l = sym (extent_is low high (test_of low high (le_le low n high h k)) (int_gap low n) (ap (int_gap low) (ends_alike n high k l)))

pub which : (m n : ℤ) → (m <ℤ n) ⊎ (n ≤ℤ m)
which m n = elim (either_way (int_le n m)) [ inl h ↦ inr (from_test n m h) | inr h ↦ inl (from_no_test n m h) ]
  where
    from_test : (x y : ℤ) → int_le x y ≡ true → x ≤ℤ y
    from_test x y h = grind (arith, ints)

    from_no_test : (x y : ℤ) → int_le x y ≡ false → y <ℤ x
    from_no_test x y h = grind (arith, ints)

-- ---- sums of products

times_more : (h z : ℕ) → (h + 1) * z ≡ h * z + z
times_more h z = ap (λ (k : ℕ). k * z) (add-one h) ∙ suc-mul h z

times_next : (f h z : ℕ) → f ≡ h + 1 → f * z ≡ h * z + z
times_next f h z e = ap (λ (k : ℕ). k * z) e ∙ times_more h z

times_none : (h z : ℕ) → h ≡ 0 → h * z ≡ 0
times_none h z e = ap (λ (k : ℕ). k * z) e ∙ zero-mul z

none : (a c d x y z : ℕ) → a ≡ 0 → c ≡ 0 → d ≡ 0 → a * x + (c * y + d * z) ≡ 0
none a c d x y z ea ec ed = omega (arith, times_none a x ea, times_none c y ec, times_none d z ed)

along_z : (a c g g' : ℕ) → g' ≡ g + 1 → a + (c + g' * 1) ≡ a + (c + g * 1) + 1
along_z a c g g' e = omega (arith, e)

along_y : (a h h' z g g' : ℕ) → h' ≡ h + 1 → z ≡ g + 1 → g' ≡ 0 → a + (h' * z + g' * 1) ≡ a + (h * z + g * 1) + 1
along_y a h h' z g g' eh ez eg = omega (arith, times_next h' h z eh, ez, eg)

row_end : (f h g x y z : ℕ) → x ≡ f + 1 → y ≡ h + 1 → z ≡ g + 1 → x * (y * z) ≡ f * (y * z) + (h * z + g * 1) + 1
row_end f h g x y z ex ey ez = omega (arith, times_next x f (y * z) ex, times_next y h z ey, ez)

along_x : (f f' h h' g g' y z : ℕ) → f' ≡ f + 1 → y ≡ h + 1 → z ≡ g + 1 → h' ≡ 0 → g' ≡ 0 → f' * (y * z) + (h' * z + g' * 1) ≡ f * (y * z) + (h * z + g * 1) + 1
along_x f f' h h' g g' y z ef ey ez eh eg = omega (arith, row_end f h g f' y z ef ey ez, times_none h' z eh, eg)

-- ---- numbers of voxels

pub rank_min : (b : Box) (p : Coord) → p ≡ b.min → rank b p ≡ 0
rank_min b p e = ap (rank b) e ∙ none (int_gap b.min.x b.min.x) (int_gap b.min.y b.min.y) (int_gap b.min.z b.min.z) (dense b).x (dense b).y 1 (gap_self b.min.x) (gap_self b.min.y) (gap_self b.min.z)

only_next : (b : Box) (p m n : Coord) → IsNextVoxel b p (Some m) → IsNextVoxel b p (Some n) → m ≡ n
only_next b p m n h k = elim (which_before m n) [
  | inl l ↦ absurd (never m h.1 (k.2 m h.0 l))
  | inr r ↦ elim r [ inl e ↦ e | inr l ↦ absurd (never n k.1 (h.2 n k.0 l)) ]
]
  where
    never : (q : Coord) → IsBefore p q → IsBefore q p ⊎ (q ≡ p) → ⊥
    never q a c = elim c [ inl l ↦ before_not_past p q a l | inr e ↦ before_not_same p q a (sym e) ]

-- an array without gaps has an element of its own for each voxel
pub dense_apart : (b : Box) (p : Coord) → IsTrue (is_inside b p) → IsTrue (are_apart b (dense b))
dense_apart b p inside =
    let at = inside_parts b p inside in
    let gy = int_gap b.min.y b.max.y in
    let gz = int_gap b.min.z b.max.z in
    let y : extent b.min.y b.max.y ≡ gy + 1 = gap_end b.min.y b.max.y b.max.y (le_le b.min.y p.y b.max.y at.1.0 at.1.1) (le_self b.max.y) (le_self b.max.y) in
    let z : extent b.min.z b.max.z ≡ gz + 1 = gap_end b.min.z b.max.z b.max.z (le_le b.min.z p.z b.max.z at.2.0 at.2.1) (le_self b.max.z) (le_self b.max.z) in
    let one : is_past (axis_z b (dense b)) 0 ≡ true = or_second (nat_eq gz 0) (nat_lt 0 1) refl in
    let row : is_past (axis_y b (dense b)) (gz * 1) ≡ true = or_second (nat_eq gy 0) (nat_lt (gz * 1) (extent b.min.z b.max.z)) (less (gz * 1) (extent b.min.z b.max.z) (omega (arith, z))) in
    let plane : is_past (axis_x b (dense b)) (gz * 1 + gy * extent b.min.z b.max.z) ≡ true =
    or_second (nat_eq (int_gap b.min.x b.max.x) 0) (nat_lt (gz * 1 + gy * extent b.min.z b.max.z) (dense b).x)
    (less (gz * 1 + gy * extent b.min.z b.max.z) (dense b).x (omega (arith, times_next (extent b.min.y b.max.y) gy (extent b.min.z b.max.z) y, z))) in
    rw (one, row, plane) refl

module _ (b : Box) (p : Coord) (inside : IsTrue (is_inside b p)) where
  -- the next voxel, with its number
  abbrev Steps : Type 0
  Steps = (m : Coord) × IsNextVoxel b p (Some m) × (rank b m ≡ rank b p + 1)

  abbrev gx : ℕ
  gx = int_gap b.min.x p.x

  abbrev gy : ℕ
  gy = int_gap b.min.y p.y

  abbrev gz : ℕ
  gz = int_gap b.min.z p.z

  abbrev ey : ℕ
  ey = extent b.min.y b.max.y

  abbrev ez : ℕ
  ez = extent b.min.z b.max.z

  steps_z : p.z <ℤ b.max.z → Steps
  steps_z z =
      let at = inside_parts b p inside in
      (coord p.x p.y (p.z +ℤ pos 1), next_along_z b p inside z, along_z (gx * (ey * ez)) (gy * ez) gz (int_gap b.min.z (p.z +ℤ pos 1)) (gap_next b.min.z p.z at.2.0))

  steps_y : b.max.z ≤ℤ p.z → p.y <ℤ b.max.y → Steps
  steps_y end_z y =
      let at = inside_parts b p inside in (
        coord p.x (p.y +ℤ pos 1) b.min.z,
        next_along_y b p inside end_z y,
        along_y (gx * (ey * ez)) gy (int_gap b.min.y (p.y +ℤ pos 1)) ez gz (int_gap b.min.z b.min.z) (gap_next b.min.y p.y at.1.0) (gap_end b.min.z b.max.z p.z at.2.0 at.2.1 end_z) (gap_self b.min.z),
      )

  steps_x : b.max.z ≤ℤ p.z → b.max.y ≤ℤ p.y → p.x <ℤ b.max.x → Steps
  steps_x end_z end_y x =
      let at = inside_parts b p inside in (
        coord (p.x +ℤ pos 1) b.min.y b.min.z,
        next_along_x b p inside end_z end_y x,
        along_x gx (int_gap b.min.x (p.x +ℤ pos 1)) gy (int_gap b.min.y b.min.y) gz (int_gap b.min.z b.min.z) ey ez (gap_next b.min.x p.x at.0.0)
            (gap_end b.min.y b.max.y p.y at.1.0 at.1.1 end_y) (gap_end b.min.z b.max.z p.z at.2.0 at.2.1 end_z) (gap_self b.min.y) (gap_self b.min.z),
      )

  steps : (n : Coord) → IsNextVoxel b p (Some n) → Steps
  steps n h = elim (which p.z b.max.z) [
    | inl z ↦ steps_z z
    | inr end_z ↦ elim (which p.y b.max.y) [
      | inl y ↦ steps_y end_z y
      | inr end_y ↦ elim (which p.x b.max.x) [
        | inl x ↦ steps_x end_z end_y x
        | inr end_x ↦ absurd (elim (no_next b p inside end_z end_y end_x n h.0) [ inl l ↦ before_not_past p n h.1 l | inr e ↦ before_not_same p n h.1 (sym e) ])
      ]
    ]
  ]

  pub rank_next : (n : Coord) → IsNextVoxel b p (Some n) → rank b n ≡ rank b p + 1
  rank_next n h = let m = steps n h in ap (rank b) (only_next b p n m.0 h m.1) ∙ m.2

  -- the last voxel
  max_inside : IsTrue (is_inside b b.max)
  max_inside =
      let at = inside_parts b p inside in
      inside_from b b.max (le_le b.min.x p.x b.max.x at.0.0 at.0.1) (le_self b.max.x) (le_le b.min.y p.y b.max.y at.1.0 at.1.1) (le_self b.max.y) (le_le b.min.z p.z b.max.z at.2.0 at.2.1) (le_self b.max.z)

  max_rank : volume b ≡ rank b b.max + 1
  max_rank =
      let at = inside_parts b b.max max_inside in
      let ex = extent b.min.x b.max.x in
      mul_assoc ex ey ez
      ∙ row_end (int_gap b.min.x b.max.x) (int_gap b.min.y b.max.y) (int_gap b.min.z b.max.z) ex ey ez (gap_end b.min.x b.max.x b.max.x at.0.0 at.0.1 (le_self b.max.x))
      (gap_end b.min.y b.max.y b.max.y at.1.0 at.1.1 (le_self b.max.y)) (gap_end b.min.z b.max.z b.max.z at.2.0 at.2.1 (le_self b.max.z))

  -- no number is above the element of the greatest corner
  pub rank_fits : (s : Strides) → IsTrue (are_apart b s) → rank b p ≤ place b s b.max
  rank_fits s apart =
      let at = inside_parts b b.max max_inside in
      let x = gap_end b.min.x b.max.x b.max.x at.0.0 at.0.1 (le_self b.max.x) in
      let y = gap_end b.min.y b.max.y b.max.y at.1.0 at.1.1 (le_self b.max.y) in
      let z = gap_end b.min.z b.max.z b.max.z at.2.0 at.2.1 (le_self b.max.z) in
      let size : volume b ≡ (int_gap b.min.x b.max.x + 1) * (int_gap b.min.y b.max.y + 1) * (int_gap b.min.z b.max.z + 1) = λ i. x i * y i * z i in
      omega (arith, size, max_rank, place_at_most b (dense b) p inside, volume_within b s apart)

  pub rank_last : IsNextVoxel b p None → rank b p + 1 ≡ volume b
  rank_last last =
      let at = inside_parts b p inside in
      let same : p ≡ b.max = elim (up_to_x p b.max at.0.1 at.1.1 at.2.1) [
        | inl l ↦ elim (last b.max max_inside) [ inl k ↦ absurd (before_not_past p b.max l k) | inr e ↦ sym e ]
        | inr e ↦ e
      ] in
      ap (λ (q : Coord). rank b q + 1) same ∙ sym max_rank

  -- ---- the first voxels

  in_box : (n : ℕ) → is_first b n p ≡ nat_lt (rank b p) n
  in_box n = ap (λ (c : Bool). c && nat_lt (rank b p) n) inside

  pub first_all : is_first b (volume b) p ≡ true
  first_all =
      let most = place_at_most b (dense b) p inside in
      let size = max_rank in
      in_box (volume b) ∙ less (rank b p) (volume b) (omega (arith, most, size))

  pub first_not : (n : ℕ) → n ≡ rank b p → is_first b n p ≡ false
  first_not n e = in_box n ∙ not_less (rank b p) n (omega (arith, e))

  pub first_now : (n : ℕ) → n ≡ rank b p → is_first b (n + 1) p ≡ true
  first_now n e = in_box (n + 1) ∙ less (rank b p) (n + 1) (omega (arith, e))

  pub first_other : (n : ℕ) → n ≡ rank b p → (q : Coord) → coord_eq p q ≡ false → is_first b (n + 1) q ≡ is_first b n q
  first_other n e q other = by (is_inside b q) refl
    where
      apart : IsTrue (is_inside b q) → rank b q ≢ n
      apart i h =
          let same : p ≡ q = same_place b (dense b) (dense_apart b p inside) p q inside i (sym (h ∙ e)) in
          let never : false ≡ true = sym other ∙ subst (λ (r : Coord). coord_eq p r ≡ true) same (coord_equiv.refl p) in cc

      by : (c : Bool) → is_inside b q ≡ c → (c && nat_lt (rank b q) (n + 1)) ≡ (c && nat_lt (rank b q) n)
      by true i = below_more (rank b q) n (apart i)
      by false i = refl
