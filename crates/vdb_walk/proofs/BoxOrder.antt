-- Boxes cut along the edges of blocks, in block order.
use Rattle.vdb_walk.proofs.Common.{◌≡◌, ◌⊎◌, inl, inr, sym, ap, ◌∙◌, refl, subst, ℕ, ℤ, pos, suc, ◌+◌, ◌*◌, ◌<◌, ◌≤◌, ◌^◌, ◌-ℤ◌, ◌+ℤ◌, ◌≤ℤ◌, ◌<ℤ◌, Bool, true, false, ◌||◌, int_le, arith, SFits, w32, IfSome, Option, Some, None, is_lt, int_cmp_is, int_cmp, Less, Equal, tied_itself, ints, block_bits, block_cmp, block_number, key, node_bits, offset, digit, first_of, number_at, Box, coord, coord_cmp, is_between, is_box, is_inside, IsBefore, Bits, Coord, Level, Leaf, Lower, Upper, both, three, number_mono, begins_by, le_from_test, lower_from_leaf, offset_from_entry, upper_from_lower, joined, offset_is, from_key, from_lower, from_upper, AreInBlockOrder, IsHalved, numbers}
use Rattle.std.proofs.Common.{◌*ℤ◌}
use Rattle.std.specs.Cmp.{nat_cmp_is}
use Rattle.std.specs.Ordering.{nat_cmp}
use Rattle.std.proofs.Math.Nat.{mul-le-mul_right}
use Rattle.vdb_coord.specs.Blocks.{entry_bits}
use Rattle.vdb_coord.specs.Entries.{entry_number}
use Rattle.vdb_coord.proofs.Digits.{digit_below, number_split}
use Rattle.vdb_coord.proofs.Meeting.{number_of_first}
use Rattle.vdb_coord.proofs.Members.{coord_total}
use Rattle.vdb_coord.proofs.Positions.{block_bits_split}
use Rattle.vdb_walk.specs.internal.Halves.{AreOrdered}
use Rattle.vdb_walk.proofs.Cuts.{below_x, below_y, below_z, from_x, from_y, from_z}

ends : (a x c : ℤ) → is_between a c x ≡ true → (a ≤ℤ x) × (x ≤ℤ c)
ends a x c h = let s = both (int_le a x) (int_le x c) h in (le_from_test a x s.0, le_from_test x c s.1)

-- ---- numbers of blocks along an axis

above_not : (x y : ℤ) → x <ℤ y → int_le y x ≡ false
above_not x y h = grind (arith, ints)

not_above : (x y : ℤ) → int_le y x ≡ false → x <ℤ y
not_above x y h = grind (arith, ints)

-- a block past that of a number begins above it
pub begins_above : (low : ℕ) (x n : ℤ) → number_at low x <ℤ n → x <ℤ first_of low n
begins_above low x n h = not_above x (first_of low n) (begins_by low n x ∙ above_not (number_at low x) n h)

-- a block up to that of a number begins up to it
pub begins_up_to : (low : ℕ) (x n : ℤ) → n ≤ℤ number_at low x → first_of low n ≤ℤ x
begins_up_to low x n h = le_from_test (first_of low n) x (begins_by low n x ∙ test n (number_at low x) h)
  where
    test : (x y : ℤ) → x ≤ℤ y → int_le x y ≡ true
    test x y h = grind (arith, ints)

-- numbers below the first of a block lie in earlier ones
pub number_below : (low : ℕ) (x at : ℤ) → first_of low (number_at low at) ≡ at → x <ℤ at → number_at low x <ℤ number_at low at
number_below low x at e h = not_above (number_at low x) (number_at low at) (sym (begins_by low (number_at low at) x) ∙ ap (λ t. int_le t x) e ∙ above_not x at h)

pub fits_inside : (low high x : ℤ) → SFits w32 low → SFits w32 high → low <ℤ x → x ≤ℤ high → SFits w32 x
fits_inside low high x f g h k = grind (arith, ints)

-- a block past that of one number, up to that of another, begins between them
module _ (low : ℕ) (a b n : ℤ) (fa : SFits w32 a) (fb : SFits w32 b) (above : number_at low a <ℤ n) (up_to : n ≤ℤ number_at low b) where
  pub edge_between : (a <ℤ first_of low n) × (first_of low n ≤ℤ b)
  edge_between = (begins_above low a n above, begins_up_to low b n up_to)

  pub edge_fits : SFits w32 (first_of low n)
  edge_fits = fits_inside a b (first_of low n) fa fb edge_between.0 edge_between.1

pub edge_first : (low : ℕ) (n : ℤ) → first_of low (number_at low (first_of low n)) ≡ first_of low n
edge_first low n = ap (first_of low) (number_of_first low n)

-- ---- boxes cut along an axis

-- the numbers of blocks over a box
pub between_x : (b : Box) (p : Coord) → is_inside b p ≡ true → (b.min.x ≤ℤ p.x) × (p.x ≤ℤ b.max.x)
between_x b p h =
    let t = three (is_between b.min.x b.max.x p.x) (is_between b.min.y b.max.y p.y) (is_between b.min.z b.max.z p.z) h in
    ends b.min.x p.x b.max.x t.0

pub between_y : (b : Box) (p : Coord) → is_inside b p ≡ true → (b.min.y ≤ℤ p.y) × (p.y ≤ℤ b.max.y)
between_y b p h =
    let t = three (is_between b.min.x b.max.x p.x) (is_between b.min.y b.max.y p.y) (is_between b.min.z b.max.z p.z) h in
    ends b.min.y p.y b.max.y t.1

pub between_z : (b : Box) (p : Coord) → is_inside b p ≡ true → (b.min.z ≤ℤ p.z) × (p.z ≤ℤ b.max.z)
between_z b p h =
    let t = three (is_between b.min.x b.max.x p.x) (is_between b.min.y b.max.y p.y) (is_between b.min.z b.max.z p.z) h in
    ends b.min.z p.z b.max.z t.2

less_or_up_to : (x at : ℤ) → x ≤ℤ (at -ℤ pos 1) → x <ℤ at
less_or_up_to x at h = omega (arith, ints, h)

pub inside_below_x : (b : Box) (at : ℤ) (p : Coord) → is_inside (below_x b at) p ≡ true → p.x <ℤ at
inside_below_x b at p h = less_or_up_to p.x at (between_x (below_x b at) p h).1

pub inside_from_x : (b : Box) (at : ℤ) (p : Coord) → is_inside (from_x b at) p ≡ true → at ≤ℤ p.x
inside_from_x b at p h = (between_x (from_x b at) p h).0

pub inside_below_y : (b : Box) (at : ℤ) (p : Coord) → is_inside (below_y b at) p ≡ true → p.y <ℤ at
inside_below_y b at p h = less_or_up_to p.y at (between_y (below_y b at) p h).1

pub inside_from_y : (b : Box) (at : ℤ) (p : Coord) → is_inside (from_y b at) p ≡ true → at ≤ℤ p.y
inside_from_y b at p h = (between_y (from_y b at) p h).0

pub inside_below_z : (b : Box) (at : ℤ) (p : Coord) → is_inside (below_z b at) p ≡ true → p.z <ℤ at
inside_below_z b at p h = less_or_up_to p.z at (between_z (below_z b at) p h).1

pub inside_from_z : (b : Box) (at : ℤ) (p : Coord) → is_inside (from_z b at) p ≡ true → at ≤ℤ p.z
inside_from_z b at p h = (between_z (from_z b at) p h).0

-- all numbers of a range lie in one block if its ends do
same_between : (low : ℕ) (a b x y : ℤ) → number_at low b ≤ℤ number_at low a → (a ≤ℤ x) × (x ≤ℤ b) → (a ≤ℤ y) × (y ≤ℤ b) → number_at low x ≡ number_at low y
same_between low a b x y one hx hy =
    let ax = number_mono low a x hx.0 in
    let xb = number_mono low x b hx.1 in
    let ay = number_mono low a y hy.0 in
    let yb = number_mono low y b hy.1 in
    equal (number_at low a) (number_at low b) (number_at low x) (number_at low y) one ax xb ay yb
  where
    equal : (a b x y : ℤ) → b ≤ℤ a → a ≤ℤ x → x ≤ℤ b → a ≤ℤ y → y ≤ℤ b → x ≡ y
    equal a b x y h i j k l = omega (arith, ints, h, i, j, k, l)

less_through : (x y z : ℤ) → x <ℤ y → y ≤ℤ z → x <ℤ z
less_through x y z h k = omega (arith, ints, h, k)

-- a number below an edge lies in an earlier block than a number from the edge on
across : (low : ℕ) (x at y : ℤ) → first_of low (number_at low at) ≡ at → x <ℤ at → at ≤ℤ y → number_at low x <ℤ number_at low y
across low x at y edge h k = less_through (number_at low x) (number_at low at) (number_at low y) (number_below low x at edge h) (number_mono low at y k)

pub in_half : (b first second : Box) → IsHalved b first second → (p : Coord) → is_inside first p ≡ true → is_inside b p ≡ true
in_half b first second h p i = h.each p ∙ ap (λ t. t || is_inside second p) i

pub in_other : (b first second : Box) → IsHalved b first second → (p : Coord) → is_inside second p ≡ true → is_inside b p ≡ true
in_other b first second h p i = h.each p ∙ ap (λ t. is_inside first p || t) i ∙ or_true (is_inside first p)
  where
    or_true : (t : Bool) → (t || true) ≡ true
    or_true true = refl
    or_true false = refl

module _ (low : ℕ) (b first second : Box) (halved : IsHalved b first second) (at : ℤ) (edge : first_of low (number_at low at) ≡ at) where
  pub ordered_x : ((p : Coord) → is_inside first p ≡ true → p.x <ℤ at) → ((q : Coord) → is_inside second q ≡ true → at ≤ℤ q.x) → AreOrdered low first second
  ordered_x below from = λ p q hp hq. inl (across low p.x at q.x edge (below p hp) (from q hq))

  module _ (one_x : number_at low b.max.x ≤ℤ number_at low b.min.x) where
    same_x : (p q : Coord) → is_inside first p ≡ true → is_inside second q ≡ true → number_at low p.x ≡ number_at low q.x
    same_x p q hp hq = same_between low b.min.x b.max.x p.x q.x one_x (between_x b p (in_half b first second halved p hp)) (between_x b q (in_other b first second halved q hq))

    pub ordered_y : ((p : Coord) → is_inside first p ≡ true → p.y <ℤ at) → ((q : Coord) → is_inside second q ≡ true → at ≤ℤ q.y) → AreOrdered low first second
    ordered_y below from = λ p q hp hq. inr (same_x p q hp hq, inl (across low p.y at q.y edge (below p hp) (from q hq)))

    module _ (one_y : number_at low b.max.y ≤ℤ number_at low b.min.y) where
      same_y : (p q : Coord) → is_inside first p ≡ true → is_inside second q ≡ true → number_at low p.y ≡ number_at low q.y
      same_y p q hp hq = same_between low b.min.y b.max.y p.y q.y one_y (between_y b p (in_half b first second halved p hp)) (between_y b q (in_other b first second halved q hq))

      pub ordered_z : ((p : Coord) → is_inside first p ≡ true → p.z <ℤ at) → ((q : Coord) → is_inside second q ≡ true → at ≤ℤ q.z) → AreOrdered low first second
      ordered_z below from = λ p q hp hq. inr (same_x p q hp hq, inr (same_y p q hp hq, across low p.z at q.z edge (below p hp) (from q hq)))

-- a box that no axis can be cut along lies in one block
pub one_block : (low : ℕ) (b : Box) → is_box b ≡ true → number_at low b.max.x ≤ℤ number_at low b.min.x → number_at low b.max.y ≤ℤ number_at low b.min.y → number_at low b.max.z ≤ℤ number_at low b.min.z → numbers low b.min ≡ numbers low b.max
one_block low b h x y z =
    let t = three (int_le b.min.x b.max.x) (int_le b.min.y b.max.y) (int_le b.min.z b.max.z) h in
    let one : (m n : ℤ) → number_at low n ≤ℤ number_at low m → m ≤ℤ n → number_at low m ≡ number_at low n = λ m n e l. same_between low m n m n e (refl_le m, l) (l, refl_le n) in
    same_coord (numbers low b.min) (numbers low b.max) (one b.min.x b.max.x x (le_from_test _ _ t.0)) (one b.min.y b.max.y y (le_from_test _ _ t.1)) (one b.min.z b.max.z z (le_from_test _ _ t.2))
  where
    refl_le : (x : ℤ) → x ≤ℤ x
    refl_le x = omega (arith, ints)

    same_coord : (p q : Coord) → p.x ≡ q.x → p.y ≡ q.y → p.z ≡ q.z → p ≡ q
    same_coord p q x y z = λ i. record { x = x i; y = y i; z = z i }

-- ---- offsets

joined_less : (n a b c d e f : ℕ) → c < n → e < n → f < n → b < n → (a < d) ⊎ (a ≡ d) × ((b < e) ⊎ (b ≡ e) × (c < f)) → joined n a b c < joined n d e f
joined_less n a b c d e f hc he hf hb h =
    elim h [
      | inl l ↦
          let outer : suc a * n ≤ d * n = mul-le-mul_right n l in
          let row : a * n + b < d * n + e = omega (arith, outer, hb) in
          let inner : suc (a * n + b) * n ≤ (d * n + e) * n = mul-le-mul_right n row in
          omega (arith, inner, hc)
      | inr r ↦ elim r.1 [
        | inl l ↦
            let row : a * n + b < d * n + e = let x = ap (λ t. t * n) r.0 in omega (arith, x, l) in
            let inner : suc (a * n + b) * n ≤ (d * n + e) * n = mul-le-mul_right n row in
            omega (arith, inner, hc)
        | inr s ↦
            let row : a * n + b ≡ d * n + e = let x = ap (λ t. t * n) r.0 in let y = s.0 in omega (arith, x, y) in
            let inner = ap (λ t. t * n) row in
            let z = s.1 in
            omega (arith, inner, z)
      ]
    ]

-- in one block, positions are ordered as the numbers of entries
position_less : (low bits : ℕ) (x y : ℤ) → number_at (low + bits) x ≡ number_at (low + bits) y → number_at low x <ℤ number_at low y → digit low bits x < digit low bits y
position_less low bits x y same less =
    let sx = number_split low bits x in
    let sy = number_split low bits y in
    let e = ap (λ t. t *ℤ pos (2 ^ bits)) same in
    smaller (number_at low x) (number_at low y) _ _ (digit low bits x) (digit low bits y) sx sy e less
  where
    smaller : (a b s t : ℤ) (d e : ℕ) → a ≡ s +ℤ pos d → b ≡ t +ℤ pos e → s ≡ t → a <ℤ b → d < e
    smaller a b s t d e h k same less = omega (arith, ints, h, k, same, less)

position_same : (low bits : ℕ) (x y : ℤ) → number_at (low + bits) x ≡ number_at (low + bits) y → number_at low x ≡ number_at low y → digit low bits x ≡ digit low bits y
position_same low bits x y same equal =
    let sx = number_split low bits x in
    let sy = number_split low bits y in
    let e = ap (λ t. t *ℤ pos (2 ^ bits)) same in
    alike (number_at low x) (number_at low y) _ _ (digit low bits x) (digit low bits y) sx sy e equal
  where
    alike : (a b s t : ℤ) (d e : ℕ) → a ≡ s +ℤ pos d → b ≡ t +ℤ pos e → s ≡ t → a ≡ b → d ≡ e
    alike a b s t d e h k same equal = omega (arith, ints, h, k, same, equal)

-- numbers in one finer block lie in one coarser block
same_axis : (bits : Bits) (level : Level) (p q : Coord) → block_number bits level p ≡ block_number bits level q
    → let k = entry_bits bits level + node_bits bits level in (number_at k p.x ≡ number_at k q.x) × (number_at k p.y ≡ number_at k q.y) × (number_at k p.z ≡ number_at k q.z)
same_axis bits level p q e =
    let s = subst (λ (k : ℕ). numbers k p ≡ numbers k q) (block_bits_split bits level) e in
    (ap (λ (c : Coord). c.x) s, ap (λ (c : Coord). c.y) s, ap (λ (c : Coord). c.z) s)

-- in one block of a level, the entry that comes before has the lower offset
pub offset_less : (bits : Bits) (level : Level) (p q : Coord) → block_number bits level p ≡ block_number bits level q → IsBefore (entry_number bits level p) (entry_number bits level q) → offset bits level p < offset bits level q
offset_less bits level p q same before =
    let low = entry_bits bits level in
    let b = node_bits bits level in
    let d : ℤ → ℕ = digit low b in
    let s = same_axis bits level p q same in
    let n = 2 ^ b in
    let less : joined n (d p.x) (d p.y) (d p.z) < joined n (d q.x) (d q.y) (d q.z) =
    joined_less n (d p.x) (d p.y) (d p.z) (d q.x) (d q.y) (d q.z) (digit_below low b p.z) (digit_below low b q.y) (digit_below low b q.z) (digit_below low b p.y)
    (elim before [
      | inl x ↦ inl (position_less low b p.x q.x s.0 x)
      | inr x ↦ inr (
        position_same low b p.x q.x s.0 x.0,
        elim x.1 [
          | inl y ↦ inl (position_less low b p.y q.y s.1 y)
          | inr y ↦ inr (position_same low b p.y q.y s.1 y.0, position_less low b p.z q.z s.2 y.1)
        ],
      )
    ]) in
    let ep = offset_is bits level p in
    let eq = offset_is bits level q in
    omega (arith, less, ep, eq)

-- ---- block order

less_from : (k l : ℤ) → k <ℤ l → int_cmp k l ≡ Less
less_from k l h = sym (int_cmp_is k l Less h)

equal_from : (k l : ℤ) → k ≡ l → int_cmp k l ≡ Equal
equal_from k l h = sym (int_cmp_is k l Equal h)

-- keys before one another are less
pub key_less : (k l : Coord) → IsBefore k l → coord_cmp k l ≡ Less
key_less k l h =
    elim h [
      | inl x ↦ let e = less_from k.x l.x x in rw e refl
      | inr r ↦ let ex = equal_from k.x l.x r.0 in elim r.1 [
        | inl y ↦ let e = less_from k.y l.y y in rw (ex, e) refl
        | inr s ↦ let ey = equal_from k.y l.y s.0 in let e = less_from k.z l.z s.1 in rw (ex, ey, e) refl
      ]
    ]

pub from_leaf : (bits : Bits) (p q : Coord) → key bits p ≡ key bits q → offset bits Upper p ≡ offset bits Upper q → offset bits Lower p ≡ offset bits Lower q → offset bits Leaf p < offset bits Leaf q → is_lt (block_cmp bits p q) ≡ true
from_leaf bits p q k u l f = let a = equal_key k in let b = equal_nat _ _ u in let c = equal_nat _ _ l in let d = less_nat _ _ f in rw (a, b, c, d) refl
  where
    equal_key : key bits p ≡ key bits q → coord_cmp (key bits p) (key bits q) ≡ Equal
    equal_key e = ap (coord_cmp (key bits p)) (sym e) ∙ tied_itself coord_total (key bits p)

    equal_nat : (m n : ℕ) → m ≡ n → nat_cmp m n ≡ Equal
    equal_nat m n h = sym (nat_cmp_is m n Equal h)

    less_nat : (m n : ℕ) → m < n → nat_cmp m n ≡ Less
    less_nat m n h = sym (nat_cmp_is m n Less h)

module _ (bits : Bits) where
  pub upper_ordered : (first second : Box) → AreOrdered (block_bits bits Upper) first second → AreInBlockOrder bits first second
  upper_ordered first second h = λ p q hp hq. from_key bits p q (key_less (key bits p) (key bits q) (h p q hp hq))

  -- a box whose corners lie in one block lies in it
  pub one_number : (low : ℕ) (b : Box) → numbers low b.min ≡ numbers low b.max → (p q : Coord) → is_inside b p ≡ true → is_inside b q ≡ true → numbers low p ≡ numbers low q
  one_number low b e p q hp hq =
      let x = ap (λ (c : Coord). c.x) e in
      let y = ap (λ (c : Coord). c.y) e in
      let z = ap (λ (c : Coord). c.z) e in
      let ex = same_between low b.min.x b.max.x p.x q.x (le_from_same _ _ x) (between_x b p hp) (between_x b q hq) in
      let ey = same_between low b.min.y b.max.y p.y q.y (le_from_same _ _ y) (between_y b p hp) (between_y b q hq) in
      let ez = same_between low b.min.z b.max.z p.z q.z (le_from_same _ _ z) (between_z b p hp) (between_z b q hq) in
      λ i. coord (ex i) (ey i) (ez i)
    where
      le_from_same : (m n : ℤ) → m ≡ n → n ≤ℤ m
      le_from_same m n e = omega (arith, ints, e)

  module _ (b first second : Box) (halved : IsHalved b first second) where
    in_one : (low : ℕ) → numbers low b.min ≡ numbers low b.max → (p q : Coord) → is_inside first p ≡ true → is_inside second q ≡ true → numbers low p ≡ numbers low q
    in_one low e p q hp hq = one_number low b e p q (in_half b first second halved p hp) (in_other b first second halved q hq)

    pub lower_ordered : numbers (block_bits bits Upper) b.min ≡ numbers (block_bits bits Upper) b.max → AreOrdered (block_bits bits Lower) first second → AreInBlockOrder bits first second
    lower_ordered e h = λ p q hp hq. let k = in_one (block_bits bits Upper) e p q hp hq in from_upper bits p q k (offset_less bits Upper p q k (h p q hp hq))

    pub leaf_ordered : numbers (block_bits bits Lower) b.min ≡ numbers (block_bits bits Lower) b.max → AreOrdered (block_bits bits Leaf) first second → AreInBlockOrder bits first second
    leaf_ordered e h = λ p q hp hq.
        let k = in_one (block_bits bits Lower) e p q hp hq in
        from_lower bits p q (upper_from_lower bits p q k) (offset_from_entry bits Upper p q k) (offset_less bits Lower p q k (h p q hp hq))

    pub voxel_ordered : numbers (block_bits bits Leaf) b.min ≡ numbers (block_bits bits Leaf) b.max → AreOrdered 0 first second → AreInBlockOrder bits first second
    voxel_ordered e h = λ p q hp hq.
        let k = in_one (block_bits bits Leaf) e p q hp hq in
        let l = lower_from_leaf bits p q k in
        from_leaf bits p q (upper_from_lower bits p q l) (offset_from_entry bits Upper p q l) (offset_from_entry bits Lower p q k) (offset_less bits Leaf p q k (h p q hp hq))

-- the parts of a box in one leaf block, if they exist, come in block order
pub voxels_ordered : (bits : Bits) (b : Box) (parts : Option (Box × Box)) → IfSome parts (λ two. IsHalved b two.0 two.1) → numbers (block_bits bits Leaf) b.min ≡ numbers (block_bits bits Leaf) b.max → IfSome parts (λ two. AreOrdered 0 two.0 two.1)
    → IfSome parts (λ two. AreInBlockOrder bits two.0 two.1)
voxels_ordered bits b (Some two) halved e h = voxel_ordered bits b two.0 two.1 halved e h
voxels_ordered bits b None halved e h = tt
