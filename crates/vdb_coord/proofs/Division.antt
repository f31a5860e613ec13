-- Division of whole numbers by a positive one, rounding down.
use Rattle.vdb_coord.proofs.Common.{◌≡◌, ℕ, ℤ, pos, negsuc, suc, ◌+◌, ◌-◌, ◌*◌, ◌<◌, ◌≤◌, ◌%◌, ◌/◌, ◌+ℤ◌, ◌*ℤ◌, ◌≤ℤ◌, arith, ap, sym, ◌∙◌, unsigned_abs, neg_ℤ, mod-lt, suc-mul, div-mul-le_self, ints, div-add-mod'}
use Rattle.std.proofs.Common.{mul_assoc}
use Rattle.std.specs.Int.{int_div_euclid, int_rem_euclid}
use Rattle.std.proofs.Math.Nat.{add-mul, le-div_iff_mul-le}
use Rattle.std.proofs.lemmas.Nat.{div-mul-add, mod-mul-add}

-- the quotient, and what is left
abbrev pub quotient : ℕ → ℤ → ℤ
quotient m x = int_div_euclid x (pos m)

abbrev pub rest : ℕ → ℤ → ℕ
rest m x = unsigned_abs (int_rem_euclid x (pos m))

-- a negative number as a multiple of m and a rest
under : (t s m r : ℕ) → t ≡ s + m → r < m → neg_ℤ (pos t) +ℤ pos r ≡ negsuc (s + (m - suc r))
under t s m r e h = grind (arith, ints)

below_zero : (m a r : ℕ) → r < m → negsuc a *ℤ pos m +ℤ pos r ≡ negsuc (a * m + (m - suc r))
below_zero m a r h = under (suc a * m) (a * m) m r (suc-mul a m) h

other_rest : (m r : ℕ) → r < m → m - 1 - (m - suc r) ≡ r
other_rest m r h = omega arith

other_below : (m r : ℕ) → r < m → m - suc r < m
other_below m r h = omega arith

pub quotient_of : (m : ℕ) (n : ℤ) (r : ℕ) → r < m → quotient m (n *ℤ pos m +ℤ pos r) ≡ n
quotient_of m (pos a) r h = ap pos (div-mul-add a m r h)
quotient_of m (negsuc a) r h =
    ap (quotient m) (below_zero m a r h) ∙ ap negsuc (div-mul-add a m (m - suc r) (other_below m r h))

pub rest_of : (m : ℕ) (n : ℤ) (r : ℕ) → r < m → rest m (n *ℤ pos m +ℤ pos r) ≡ r
rest_of m (pos a) r h = mod-mul-add a m r h
rest_of m (negsuc a) r h =
    ap (rest m) (below_zero m a r h)
    ∙ ap (λ t. m - 1 - t) (mod-mul-add a m (m - suc r) (other_below m r h)) ∙ other_rest m r h

pub rest_below : (m : ℕ) (x : ℤ) → 0 < m → rest m x < m
rest_below m (pos a) h = mod-lt a h
rest_below m (negsuc a) h = let k : a % m < m = mod-lt a h in omega arith

rest_negative : (a b c m : ℕ) → a ≡ b + c → c < m → b + (m - suc (m - 1 - c)) ≡ a
rest_negative a b c m e h = omega arith

rest_is_small : (m c : ℕ) → c < m → m - 1 - c < m
rest_is_small m c h = omega arith

-- a number is its quotient's multiple and the rest
pub parts : (m : ℕ) (x : ℤ) → 0 < m → quotient m x *ℤ pos m +ℤ pos (rest m x) ≡ x
parts m (pos a) h = ap pos (div-add-mod' a m)
parts m (negsuc a) h =
    below_zero m (a / m) (m - 1 - a % m) (rest_is_small m (a % m) (mod-lt a h))
    ∙ ap negsuc (rest_negative a (a / m * m) (a % m) m (sym (div-add-mod' a m)) (mod-lt a h))

-- ---- order

div_mono : (m a b : ℕ) → 0 < m → a ≤ b → a / m ≤ b / m
div_mono m a b h k =
    let below : a / m * m ≤ a = div-mul-le_self a m in
    let through : a / m * m ≤ b = omega arith in
    (le-div_iff_mul-le h).1 through

pub quotient_mono : (m : ℕ) (x y : ℤ) → 0 < m → x ≤ℤ y → quotient m x ≤ℤ quotient m y
quotient_mono m (pos x) (pos y) p h =
    let k : x ≤ y = omega (arith, ints, h) in
    let l = div_mono m x y p k in
    omega (arith, ints, l)
quotient_mono m (pos x) (negsuc y) p h = omega (arith, ints, h)
quotient_mono m (negsuc x) (pos y) p h = omega (arith, ints)
quotient_mono m (negsuc x) (negsuc y) p h =
    let k : y ≤ x = omega (arith, ints, h) in
    let l = div_mono m y x p k in
    omega (arith, ints, l)

-- ---- divisors of two factors

negated : (t s u : ℕ) → t ≡ s + u → neg_ℤ (pos t) +ℤ pos u ≡ neg_ℤ (pos s)
negated t s u e = omega (arith, ints, e)

regrouped : (n b d a : ℕ) → n * (b * a) + d * a ≡ (n * b + d) * a
regrouped n b d a = sym (add-mul (n * b) d a ∙ ap (λ t. t + d * a) (mul_assoc n b a))

-- the d-th entry of a in the n-th block of b entries is the entry number n * b + d
pub entry_start : (b a : ℕ) (n : ℤ) (d : ℕ) → d < b → n *ℤ pos (b * a) +ℤ pos (d * a) ≡ (n *ℤ pos b +ℤ pos d) *ℤ pos a
entry_start b a (pos n) d h = ap pos (regrouped n b d a)
entry_start b a (negsuc n) d h =
    let c = n * b + (b - suc d) in
    let e : suc n * b ≡ suc c + d = let s = suc-mul n b in omega (arith, s) in
    let t : suc n * (b * a) ≡ suc c * a + d * a = sym (mul_assoc (suc n) b a) ∙ ap (λ k. k * a) e ∙ add-mul (suc c) d a in
    negated (suc n * (b * a)) (suc c * a) (d * a) t ∙ ap (λ k. k *ℤ pos a) (sym (below_zero b n d h))
