-- Which blocks and entries have a number in a range.
use Rattle.vdb_coord.proofs.Common.{◌≡◌, ℕ, ℤ, pos, negsuc, suc, ◌-◌, ◌*◌, ◌≤◌, ◌^◌, ◌+ℤ◌, ◌*ℤ◌, ◌≤ℤ◌, Bool, true, ◌&&◌, int_le, SFits, w32, arith, ap, sym, subst, ◌∙◌, refl, neg_ℤ, mul-le-mul_right, ints, pow_pos, block, block_bits, block_number, block_numbers, meets, first_of, last_of, number_at, numbers_over, Box, everywhere, is_between, is_box, is_inside, is_within, Bits, Coord, Level, int_max}
use Rattle.vdb_coord.proofs.Boxes.{and_true, both, le_through, same_truth, three, together}
use Rattle.vdb_coord.proofs.Digits.{first_fits, inside_own, last_fits, number_mono}
use Rattle.vdb_coord.proofs.Division.{quotient_of}

-- ---- order as a test

pub le_from_test : (x y : ℤ) → int_le x y ≡ true → x ≤ℤ y
le_from_test x y h = grind (arith, ints)

pub test_from_le : (x y : ℤ) → x ≤ℤ y → int_le x y ≡ true
test_from_le x y h = grind (arith, ints)

pub le_up : (y : ℤ) (k : ℕ) → int_le y (y +ℤ pos k) ≡ true
le_up y k = grind (arith, ints)

pub number_le : (bits : ℕ) (x y : ℤ) → int_le x y ≡ true → int_le (number_at bits x) (number_at bits y) ≡ true
number_le bits x y h = test_from_le (number_at bits x) (number_at bits y) (number_mono bits x y (le_from_test x y h))

negative_le : (a b : ℕ) → b ≤ a → neg_ℤ (pos a) ≤ℤ neg_ℤ (pos b)
negative_le a b h = grind (arith, ints)

negative_below : (a b : ℕ) → neg_ℤ (pos a) ≤ℤ pos b
negative_below a b = grind (arith, ints)

times_mono : (m : ℕ) (x y : ℤ) → x ≤ℤ y → (x *ℤ pos m) ≤ℤ (y *ℤ pos m)
times_mono m (pos x) (pos y) h =
    let k : x ≤ y = omega (arith, ints, h) in
    let l : x * m ≤ y * m = mul-le-mul_right m k in
    omega (arith, ints, l)
times_mono m (pos x) (negsuc y) h = omega (arith, ints, h)
times_mono m (negsuc x) (pos y) h = negative_below (suc x * m) (y * m)
times_mono m (negsuc x) (negsuc y) h =
    let k : suc y ≤ suc x = omega (arith, ints, h) in
    negative_le (suc x * m) (suc y * m) (mul-le-mul_right m k)

first_le : (bits : ℕ) (n m : ℤ) → int_le n m ≡ true → int_le (first_of bits n) (first_of bits m) ≡ true
first_le bits n m h = test_from_le (first_of bits n) (first_of bits m) (times_mono (2 ^ bits) n m (le_from_test n m h))

both_up : (x y : ℤ) (k : ℕ) → int_le x y ≡ true → int_le (x +ℤ pos k) (y +ℤ pos k) ≡ true
both_up x y k h = grind (arith, ints)

last_le : (bits : ℕ) (n m : ℤ) → int_le n m ≡ true → int_le (last_of bits n) (last_of bits m) ≡ true
last_le bits n m h = both_up (first_of bits n) (first_of bits m) (2 ^ bits - 1) (first_le bits n m h)

-- ---- the ends of a block

pub number_of_first : (bits : ℕ) (n : ℤ) → number_at bits (first_of bits n) ≡ n
number_of_first bits n =
    let e : (x : ℤ) → x +ℤ pos 0 ≡ x = λ x. omega (arith, ints) in
    ap (number_at bits) (sym (e (first_of bits n))) ∙ quotient_of (2 ^ bits) n 0 (pow_pos bits)

pub number_of_last : (bits : ℕ) (n : ℤ) → number_at bits (last_of bits n) ≡ n
number_of_last bits n = let p = pow_pos bits in quotient_of (2 ^ bits) n (2 ^ bits - 1) (omega (arith, p))

-- a block begins at or before a number exactly if its number isn't above that of the number's block
pub begins_by : (bits : ℕ) (n x : ℤ) → int_le (first_of bits n) x ≡ int_le n (number_at bits x)
begins_by bits n x = same_truth (int_le (first_of bits n) x) (int_le n (number_at bits x))
    (λ h. subst (λ t. int_le t (number_at bits x) ≡ true) (number_of_first bits n) (number_le bits (first_of bits n) x h))
    (λ h. le_through (first_of bits n) (first_of bits (number_at bits x)) x (first_le bits n (number_at bits x) h)
    (both (int_le (first_of bits (number_at bits x)) x) (int_le x (last_of bits (number_at bits x))) (inside_own bits x)).0)

-- a block ends at or after a number exactly if its number isn't below that of the number's block
pub ends_by : (bits : ℕ) (n x : ℤ) → int_le x (last_of bits n) ≡ int_le (number_at bits x) n
ends_by bits n x = same_truth (int_le x (last_of bits n)) (int_le (number_at bits x) n)
    (λ h. subst (λ t. int_le (number_at bits x) t ≡ true) (number_of_last bits n) (number_le bits x (last_of bits n) h))
    (λ h. le_through x (last_of bits (number_at bits x)) (last_of bits n)
    (both (int_le (first_of bits (number_at bits x)) x) (int_le x (last_of bits (number_at bits x))) (inside_own bits x)).1
    (last_le bits (number_at bits x) n h))

-- ---- boxes

-- the blocks that meet a box are those from its least corner's to its greatest corner's
pub meets_block : (bits : Bits) (level : Level) (n : Coord) (b : Box) → meets (block bits level n) b ≡ is_inside (numbers_over bits level b) n
meets_block bits level n b =
    let k = block_bits bits level in
    rw (ends_by k n.x b.min.x, ends_by k n.y b.min.y, ends_by k n.z b.min.z, begins_by k n.x b.max.x, begins_by k n.y b.max.y, begins_by k n.z b.max.z) refl

-- the numbers of the blocks that meet a box make a box
pub numbers_are_box : (bits : Bits) (level : Level) (b : Box) → is_box b ≡ true → is_box (numbers_over bits level b) ≡ true
numbers_are_box bits level b h =
    let k = block_bits bits level in
    let hs = three (int_le b.min.x b.max.x) (int_le b.min.y b.max.y) (int_le b.min.z b.max.z) h in
    together (int_le (number_at k b.min.x) (number_at k b.max.x)) (int_le (number_at k b.min.y) (number_at k b.max.y)) (int_le (number_at k b.min.z) (number_at k b.max.z))
    (number_le k b.min.x b.max.x hs.0) (number_le k b.min.y b.max.y hs.1) (number_le k b.min.z b.max.z hs.2)

-- ---- blocks by their numbers

fits_between : (a x b : ℤ) → SFits w32 a → SFits w32 b → int_le a x ≡ true → int_le x b ≡ true → SFits w32 x
fits_between a x b f g h k = grind (arith, ints)

-- the ends of a block whose number is one of the level's fit 32 bits
pub numbered_fits : (bits : ℕ) (n : ℤ) → bits ≤ 15 → is_between (number_at bits (negsuc 2147483647)) (number_at bits (pos 2147483647)) n ≡ true
    → SFits w32 (first_of bits n) × SFits w32 (last_of bits n)
numbered_fits bits n few h =
    let hs = both (int_le (number_at bits (negsuc 2147483647)) n) (int_le n (number_at bits (pos 2147483647))) h in
    let whole : bits ≤ 31 = omega arith in
    let least : SFits w32 (negsuc 2147483647) = record { sfits = omega arith } in
    let greatest : SFits w32 (pos 2147483647) = record { sfits = omega arith } in
    let low = first_fits bits (negsuc 2147483647) whole least in
    let high = last_fits bits (pos 2147483647) whole greatest in
    let from = first_le bits (number_at bits (negsuc 2147483647)) n hs.0 in
    let upto = last_le bits n (number_at bits (pos 2147483647)) hs.1 in
    let inside = le_up (first_of bits n) (2 ^ bits - 1) in (
      fits_between (first_of bits (number_at bits (negsuc 2147483647))) (first_of bits n) (last_of bits (number_at bits (pos 2147483647))) low high from (le_through (first_of bits n) (last_of bits n) (last_of bits (number_at bits (pos 2147483647))) inside upto),
      fits_between (first_of bits (number_at bits (negsuc 2147483647))) (last_of bits n) (last_of bits (number_at bits (pos 2147483647))) low high (le_through (first_of bits (number_at bits (negsuc 2147483647))) (first_of bits n) (last_of bits n) from inside) upto,
    )

-- ---- boxes that meet

-- a coordinate of the inner box is one of the outer
pub within_each : (inner outer : Box) (p : Coord) → is_within inner outer ≡ true → is_inside inner p ≡ true → is_inside outer p ≡ true
within_each a b p h k =
    let corners = both (is_inside b a.min) (is_inside b a.max) h in
    let lows = three (is_between b.min.x b.max.x a.min.x) (is_between b.min.y b.max.y a.min.y) (is_between b.min.z b.max.z a.min.z) corners.0 in
    let highs = three (is_between b.min.x b.max.x a.max.x) (is_between b.min.y b.max.y a.max.y) (is_between b.min.z b.max.z a.max.z) corners.1 in
    let ks = three (is_between a.min.x a.max.x p.x) (is_between a.min.y a.max.y p.y) (is_between a.min.z a.max.z p.z) k in
    together (is_between b.min.x b.max.x p.x) (is_between b.min.y b.max.y p.y) (is_between b.min.z b.max.z p.z)
    (wider b.min.x a.min.x a.max.x b.max.x p.x lows.0 highs.0 ks.0) (wider b.min.y a.min.y a.max.y b.max.y p.y lows.1 highs.1 ks.1) (wider b.min.z a.min.z a.max.z b.max.z p.z lows.2 highs.2 ks.2)
  where
    wider : (least low high greatest x : ℤ) → is_between least greatest low ≡ true → is_between least greatest high ≡ true → is_between low high x ≡ true → is_between least greatest x ≡ true
    wider least low high greatest x u v w = grind (arith, ints)

-- boxes with a coordinate in common meet
pub meets_from_common : (a b : Box) (p : Coord) → is_inside a p ≡ true → is_inside b p ≡ true → meets a b ≡ true
meets_from_common a b p h k =
    let hs = three (is_between a.min.x a.max.x p.x) (is_between a.min.y a.max.y p.y) (is_between a.min.z a.max.z p.z) h in
    let ks = three (is_between b.min.x b.max.x p.x) (is_between b.min.y b.max.y p.y) (is_between b.min.z b.max.z p.z) k in
    let touch : ℤ → ℤ → ℤ → ℤ → Bool = λ low high least greatest. int_le least high && int_le low greatest in
    together (touch a.min.x a.max.x b.min.x b.max.x) (touch a.min.y a.max.y b.min.y b.max.y) (touch a.min.z a.max.z b.min.z b.max.z)
    (met a.min.x a.max.x b.min.x b.max.x p.x hs.0 ks.0) (met a.min.y a.max.y b.min.y b.max.y p.y hs.1 ks.1) (met a.min.z a.max.z b.min.z b.max.z p.z hs.2 ks.2)
  where
    met : (low high least greatest x : ℤ) → is_between low high x ≡ true → is_between least greatest x ≡ true → (int_le least high && int_le low greatest) ≡ true
    met low high least greatest x u v = grind (arith, ints)

-- boxes that meet have a coordinate in common: the greater of their least corners
pub common_from_meets : (a b : Box) → is_box a ≡ true → is_box b ≡ true → meets a b ≡ true → (p : Coord) × (is_inside a p ≡ true) × (is_inside b p ≡ true)
common_from_meets a b ha hb h =
    let ordered_a = three (int_le a.min.x a.max.x) (int_le a.min.y a.max.y) (int_le a.min.z a.max.z) ha in
    let ordered_b = three (int_le b.min.x b.max.x) (int_le b.min.y b.max.y) (int_le b.min.z b.max.z) hb in
    let touch : ℤ → ℤ → ℤ → ℤ → Bool = λ low high least greatest. int_le least high && int_le low greatest in
    let hs = three (touch a.min.x a.max.x b.min.x b.max.x) (touch a.min.y a.max.y b.min.y b.max.y) (touch a.min.z a.max.z b.min.z b.max.z) h in
    let p : Coord = record { x = int_max a.min.x b.min.x; y = int_max a.min.y b.min.y; z = int_max a.min.z b.min.z } in (
      p,
      together (is_between a.min.x a.max.x p.x) (is_between a.min.y a.max.y p.y) (is_between a.min.z a.max.z p.z)
          (first a.min.x a.max.x b.min.x b.max.x ordered_a.0 ordered_b.0 hs.0) (first a.min.y a.max.y b.min.y b.max.y ordered_a.1 ordered_b.1 hs.1) (first a.min.z a.max.z b.min.z b.max.z ordered_a.2 ordered_b.2 hs.2),
      together (is_between b.min.x b.max.x p.x) (is_between b.min.y b.max.y p.y) (is_between b.min.z b.max.z p.z)
          (second a.min.x a.max.x b.min.x b.max.x ordered_a.0 ordered_b.0 hs.0) (second a.min.y a.max.y b.min.y b.max.y ordered_a.1 ordered_b.1 hs.1) (second a.min.z a.max.z b.min.z b.max.z ordered_a.2 ordered_b.2 hs.2),
    )
  where
    first : (low high least greatest : ℤ) → int_le low high ≡ true → int_le least greatest ≡ true → (int_le least high && int_le low greatest) ≡ true → is_between low high (int_max low least) ≡ true
    first low high least greatest u v w = grind (arith, ints)

    second : (low high least greatest : ℤ) → int_le low high ≡ true → int_le least greatest ≡ true → (int_le least high && int_le low greatest) ≡ true → is_between least greatest (int_max low least) ≡ true
    second low high least greatest u v w = grind (arith, ints)

-- ---- the numbers of blocks

pub in_range : (x : ℤ) → SFits w32 x → is_between (negsuc 2147483647) (pos 2147483647) x ≡ true
in_range (pos x) f = grind (arith, ints)
in_range (negsuc x) f = grind (arith, ints)

number_between : (k : ℕ) (low high x : ℤ) → is_between low high x ≡ true → is_between (number_at k low) (number_at k high) (number_at k x) ≡ true
number_between k low high x h =
    let hs = both (int_le low x) (int_le x high) h in
    and_true (int_le (number_at k low) (number_at k x)) (int_le (number_at k x) (number_at k high)) (number_le k low x hs.0) (number_le k x high hs.1)

-- the number of a coordinate's block is one of the level's
pub number_within : (bits : Bits) (level : Level) (p : Coord) → is_inside everywhere p ≡ true → is_inside (block_numbers bits level) (block_number bits level p) ≡ true
number_within bits level p h =
    let k = block_bits bits level in
    let least = negsuc 2147483647 in
    let greatest = pos 2147483647 in
    let hs = three (is_between least greatest p.x) (is_between least greatest p.y) (is_between least greatest p.z) h in
    let between : ℤ → Bool = λ x. is_between (number_at k least) (number_at k greatest) (number_at k x) in
    together (between p.x) (between p.y) (between p.z) (number_between k least greatest p.x hs.0) (number_between k least greatest p.y hs.1) (number_between k least greatest p.z hs.2)

pub fits_everywhere : (p : Coord) → SFits w32 p.x → SFits w32 p.y → SFits w32 p.z → is_inside everywhere p ≡ true
fits_everywhere p x y z =
    let least = negsuc 2147483647 in
    let greatest = pos 2147483647 in
    together (is_between least greatest p.x) (is_between least greatest p.y) (is_between least greatest p.z) (in_range p.x x) (in_range p.y y) (in_range p.z z)
