-- One component of a coordinate: its blocks and its entries in them.
use Rattle.vdb_coord.proofs.Common.{◌≡◌, ℕ, ℤ, pos, negsuc, suc, ◌+◌, ◌-◌, ◌*◌, ◌<◌, ◌≤◌, ◌%◌, ◌/◌, ◌^◌, ◌+ℤ◌, ◌*ℤ◌, ◌≤ℤ◌, true, SFits, w32, arith, ap, sym, subst, ◌∙◌, int_gap, neg_ℤ, suc-mul, mod-lt, div-mul-le_self, mul-le-mul_right, pow_mono, ints, div-add-mod', div_below, pow_pos, pow-add, digit, first_of, last_of, number_at, is_between}
use Rattle.std.proofs.Common.{mul_comm}
use Rattle.std.proofs.Math.Nat.{div-one}
use Rattle.vdb_coord.proofs.Division.{entry_start, parts, quotient, quotient_mono, quotient_of, rest, rest_below, rest_of}

-- ---- blocks of b entries of a numbers each

entry_quotient : (b a : ℕ) (x : ℤ) → 0 < b → 0 < a → 0 < b * a → quotient a x ≡ quotient (b * a) x *ℤ pos b +ℤ pos (rest (b * a) x / a)
entry_quotient b a x hb ha hba =
    let n = quotient (b * a) x in
    let r = rest (b * a) x in
    let d : r / a < b = div_below r a b ha (rest_below (b * a) x hba) in
    let split : n *ℤ pos (b * a) +ℤ pos (r / a * a + r % a) ≡ x = ap (λ t. n *ℤ pos (b * a) +ℤ pos t) (div-add-mod' r a) ∙ parts (b * a) x hba in
    let join : (u : ℤ) (s t : ℕ) → u +ℤ pos (s + t) ≡ u +ℤ pos s +ℤ pos t = λ u s t. omega (arith, ints) in
    let whole : (n *ℤ pos b +ℤ pos (r / a)) *ℤ pos a +ℤ pos (r % a) ≡ x
    = ap (λ t. t +ℤ pos (r % a)) (sym (entry_start b a n (r / a) d)) ∙ sym (join (n *ℤ pos (b * a)) (r / a * a) (r % a)) ∙ split in
    ap (quotient a) (sym whole) ∙ quotient_of a (n *ℤ pos b +ℤ pos (r / a)) (r % a) (mod-lt r ha)

span_is : (low bits : ℕ) → 2 ^ (low + bits) ≡ 2 ^ bits * 2 ^ low
span_is low bits = pow-add 2 low bits ∙ mul_comm (2 ^ low) (2 ^ bits)

-- an entry's number, by the number of its block and its position in it
pub number_split : (low bits : ℕ) (x : ℤ) → number_at low x ≡ number_at (low + bits) x *ℤ pos (2 ^ bits) +ℤ pos (digit low bits x)
number_split low bits x =
    let e = span_is low bits in
    let h : 0 < 2 ^ bits * 2 ^ low = subst (λ t. 0 < t) e (pow_pos (low + bits)) in
    subst (λ t. quotient (2 ^ low) x ≡ quotient t x *ℤ pos (2 ^ bits) +ℤ pos (rest t x / 2 ^ low)) (sym e)
    (entry_quotient (2 ^ bits) (2 ^ low) x (pow_pos bits) (pow_pos low) h)

-- a position is one of the entries
pub digit_below : (low bits : ℕ) (x : ℤ) → digit low bits x < 2 ^ bits
digit_below low bits x =
    div_below (rest (2 ^ (low + bits)) x) (2 ^ low) (2 ^ bits) (pow_pos low)
    (subst (λ t. rest (2 ^ (low + bits)) x < t) (span_is low bits) (rest_below (2 ^ (low + bits)) x (pow_pos (low + bits))))

-- the position is what is left of the entry's number
pub digit_is : (low bits : ℕ) (x : ℤ) → digit low bits x ≡ rest (2 ^ bits) (number_at low x)
digit_is low bits x =
    sym (ap (rest (2 ^ bits)) (number_split low bits x) ∙ rest_of (2 ^ bits) (number_at (low + bits) x) (digit low bits x) (digit_below low bits x))

-- blocks nest: the number of the block, by that of the entry
pub number_up : (low bits : ℕ) (x : ℤ) → number_at (low + bits) x ≡ number_at bits (number_at low x)
number_up low bits x =
    sym (ap (number_at bits) (number_split low bits x) ∙ quotient_of (2 ^ bits) (number_at (low + bits) x) (digit low bits x) (digit_below low bits x))

-- two numbers in one block and in one position of that block are in one entry
pub same_entry : (low bits : ℕ) (x y : ℤ) → number_at (low + bits) x ≡ number_at (low + bits) y → digit low bits x ≡ digit low bits y → number_at low x ≡ number_at low y
same_entry low bits x y e d =
    number_split low bits x ∙ ap (λ n. n *ℤ pos (2 ^ bits) +ℤ pos (digit low bits x)) e ∙ ap (λ k. number_at (low + bits) y *ℤ pos (2 ^ bits) +ℤ pos k) d
    ∙ sym (number_split low bits y)

-- entry d of block n lies in that block, in that position
pub number_of_entry : (bits : ℕ) (n : ℤ) (d : ℕ) → d < 2 ^ bits → number_at bits (n *ℤ pos (2 ^ bits) +ℤ pos d) ≡ n
number_of_entry bits n d h = quotient_of (2 ^ bits) n d h

-- a block of one number is that number
pub number_zero : (x : ℤ) → number_at 0 x ≡ x
number_zero (pos x) = ap pos (div-one x)
number_zero (negsuc x) = ap negsuc (div-one x)

-- the first number of the entry in place d of block n
pub first_of_entry : (low bits : ℕ) (n : ℤ) (d : ℕ) → d < 2 ^ bits → first_of (low + bits) n +ℤ pos (d * 2 ^ low) ≡ first_of low (n *ℤ pos (2 ^ bits) +ℤ pos d)
first_of_entry low bits n d h =
    ap (λ t. n *ℤ pos t +ℤ pos (d * 2 ^ low)) (span_is low bits) ∙ entry_start (2 ^ bits) (2 ^ low) n d h

-- ---- the numbers of a block

gap_in : (y : ℤ) (m : ℕ) (x : ℤ) → 0 < m → is_between y (y +ℤ pos (m - 1)) x ≡ true → (int_gap y x < m) × (y +ℤ pos (int_gap y x) ≡ x)
gap_in (pos y) m (pos x) h b = (grind (arith, ints), grind (arith, ints))
gap_in (pos y) m (negsuc x) h b = (grind (arith, ints), grind (arith, ints))
gap_in (negsuc y) m (pos x) h b = (grind (arith, ints), grind (arith, ints))
gap_in (negsuc y) m (negsuc x) h b = (grind (arith, ints), grind (arith, ints))

between_gap : (y : ℤ) (m r : ℕ) → r < m → is_between y (y +ℤ pos (m - 1)) (y +ℤ pos r) ≡ true
between_gap (pos y) m r h = grind (arith, ints)
between_gap (negsuc y) m r h = grind (arith, ints)

-- a number that lies in a block has its number
pub number_inside : (bits : ℕ) (n x : ℤ) → is_between (first_of bits n) (last_of bits n) x ≡ true → number_at bits x ≡ n
number_inside bits n x h =
    let g = gap_in (first_of bits n) (2 ^ bits) x (pow_pos bits) h in
    ap (number_at bits) (sym g.1) ∙ quotient_of (2 ^ bits) n (int_gap (first_of bits n) x) g.0

-- a number lies in its block
pub inside_own : (bits : ℕ) (x : ℤ) → is_between (first_of bits (number_at bits x)) (last_of bits (number_at bits x)) x ≡ true
inside_own bits x =
    subst (λ t. is_between (first_of bits (number_at bits x)) (last_of bits (number_at bits x)) t ≡ true) (parts (2 ^ bits) x (pow_pos bits))
    (between_gap (first_of bits (number_at bits x)) (2 ^ bits) (rest (2 ^ bits) x) (rest_below (2 ^ bits) x (pow_pos bits)))

-- blocks keep the order of numbers
pub number_mono : (bits : ℕ) (x y : ℤ) → x ≤ℤ y → number_at bits x ≤ℤ number_at bits y
number_mono bits x y h = quotient_mono (2 ^ bits) x y (pow_pos bits) h

-- ---- ranges

block_end : (k m a : ℕ) → 0 < m → a < k * m → a / m * m + (m - 1) < k * m
block_end k m a h below =
    let q : a / m < k = div_below a m k h below in
    let l : suc (a / m) * m ≤ k * m = mul-le-mul_right m q in
    omega (arith, l)

whole_range : (bits : ℕ) → bits ≤ 31 → 2 ^ (31 - bits) * 2 ^ bits ≡ 2147483648
whole_range bits h =
    let e : 31 - bits + bits ≡ 31 = omega arith in
    sym (pow-add 2 (31 - bits) bits) ∙ ap (λ t. 2 ^ t) e

block_end_fits : (bits a : ℕ) → bits ≤ 31 → a < 2147483648 → a / 2 ^ bits * 2 ^ bits + (2 ^ bits - 1) < 2147483648
block_end_fits bits a h small =
    let e = whole_range bits h in
    subst (λ t. a / 2 ^ bits * 2 ^ bits + (2 ^ bits - 1) < t) e (block_end (2 ^ (31 - bits)) (2 ^ bits) a (pow_pos bits) (subst (λ t. a < t) (sym e) small))

negative_fits : (t s m : ℕ) → t ≡ s + m → 0 < m → s + (m - 1) < 2147483648 → SFits w32 (neg_ℤ (pos t))
negative_fits t s m e h small = grind (arith, ints)

-- the ends of a number's block fit 32 bits as the number does
pub first_fits : (bits : ℕ) (x : ℤ) → bits ≤ 31 → SFits w32 x → SFits w32 (first_of bits (number_at bits x))
first_fits bits (pos a) h f = let l = div-mul-le_self a (2 ^ bits) in omega (arith, ints, f, l)
first_fits bits (negsuc a) h f =
    let small : a < 2147483648 = omega (arith, ints, f) in
    negative_fits (suc (a / 2 ^ bits) * 2 ^ bits) (a / 2 ^ bits * 2 ^ bits) (2 ^ bits) (suc-mul (a / 2 ^ bits) (2 ^ bits)) (pow_pos bits) (block_end_fits bits a h small)

ends_fit : (t s m : ℕ) → t ≡ s + m → 0 < m → s < 2147483648 → SFits w32 (neg_ℤ (pos t) +ℤ pos (m - 1))
ends_fit t s m e h small = grind (arith, ints)

pub last_fits : (bits : ℕ) (x : ℤ) → bits ≤ 31 → SFits w32 x → SFits w32 (last_of bits (number_at bits x))
last_fits bits (pos a) h f =
    let small : a < 2147483648 = omega (arith, ints, f) in
    let l = block_end_fits bits a h small in omega (arith, ints, l)
last_fits bits (negsuc a) h f =
    let below : a / 2 ^ bits * 2 ^ bits ≤ a = div-mul-le_self a (2 ^ bits) in
    let small : a / 2 ^ bits * 2 ^ bits < 2147483648 = omega (arith, ints, f, below) in
    ends_fit (suc (a / 2 ^ bits) * 2 ^ bits) (a / 2 ^ bits * 2 ^ bits) (2 ^ bits) (suc-mul (a / 2 ^ bits) (2 ^ bits)) (pow_pos bits) small

-- what lies between two numbers that fit
pub between_fits : (y : ℤ) (s t : ℕ) → SFits w32 y → SFits w32 (y +ℤ pos s) → t ≤ s → SFits w32 (y +ℤ pos t)
between_fits (pos y) s t f g h = grind (arith, ints)
between_fits (negsuc y) s t f g h = grind (arith, ints)

-- ---- entries that fit

pub entry_end : (low bits d : ℕ) → d < 2 ^ bits → d * 2 ^ low + (2 ^ low - 1) ≤ 2 ^ (low + bits) - 1
entry_end low bits d h =
    let a : suc d * 2 ^ low ≤ 2 ^ bits * 2 ^ low = mul-le-mul_right (2 ^ low) h in
    let b : suc d * 2 ^ low ≡ d * 2 ^ low + 2 ^ low = suc-mul d (2 ^ low) in
    let e : 2 ^ (low + bits) ≡ 2 ^ bits * 2 ^ low = span_is low bits in
    let p = pow_pos low in
    omega (arith, a, b, e, p)

-- the first number of an entry, and how far it lies from the first of its block
pub entry_first_fits : (low bits : ℕ) (x : ℤ) (d : ℕ) → low ≤ 10 → bits ≤ 5 → d < 2 ^ bits → SFits w32 x
    → SFits w32 (first_of (low + bits) (number_at (low + bits) x) +ℤ pos (d * 2 ^ low)) × (d * 2 ^ low < 32768)
entry_first_fits low bits x d few most h f =
    let all : low + bits ≤ 15 = omega arith in
    let whole : low + bits ≤ 31 = omega arith in
    let e = entry_end low bits d h in
    let small : 2 ^ (low + bits) ≤ 2 ^ 15 = pow_mono all in
    let p = pow_pos (low + bits) in (
      between_fits (first_of (low + bits) (number_at (low + bits) x)) (2 ^ (low + bits) - 1) (d * 2 ^ low) (first_fits (low + bits) x whole f) (last_fits (low + bits) x whole f) (omega (arith, e)),
      omega (arith, e, small, p),
    )

-- the last number of an entry
pub entry_last_fits : (low bits : ℕ) (x : ℤ) (d : ℕ) → low ≤ 10 → bits ≤ 5 → d < 2 ^ bits → SFits w32 x
    → SFits w32 (first_of (low + bits) (number_at (low + bits) x) +ℤ pos (d * 2 ^ low) +ℤ pos (2 ^ low - 1))
entry_last_fits low bits x d few most h f =
    let whole : low + bits ≤ 31 = omega arith in
    let e = entry_end low bits d h in
    let join : (u : ℤ) (s t : ℕ) → u +ℤ pos (s + t) ≡ u +ℤ pos s +ℤ pos t = λ u s t. omega (arith, ints) in
    subst (λ t. SFits w32 t) (join (first_of (low + bits) (number_at (low + bits) x)) (d * 2 ^ low) (2 ^ low - 1))
    (between_fits (first_of (low + bits) (number_at (low + bits) x)) (2 ^ (low + bits) - 1) (d * 2 ^ low + (2 ^ low - 1)) (first_fits (low + bits) x whole f) (last_fits (low + bits) x whole f) e)
