-- Offsets in the nodes of a tree's levels.
use Rattle.vdb_coord.proofs.Common.{◌≡◌, ℕ, ℤ, pos, suc, ◌+◌, ◌-◌, ◌*◌, ◌<◌, ◌≤◌, ◌%◌, ◌/◌, ◌^◌, ◌+ℤ◌, arith, ap, sym, subst, ◌∙◌, refl, div-div-eq-div-mul, mod-lt, mul-le-mul_right, pow_mono, div-add-mod', div_below, pow-add, pow_pos, block_around, block_bits, entries, entry_bits, node_bits, offset, sub_block, digit, first_of, number_at, AreBits, Box, coord, Bits, Coord, Level, Leaf, Lower, Upper}
use Rattle.std.proofs.Common.{zero-add}
use Rattle.std.proofs.Math.Nat.{mul-le-mul_left, pow-suc, pow-zero}
use Rattle.vdb_coord.proofs.Division.{rest}
use Rattle.vdb_coord.proofs.Digits.{digit_below}

-- ---- bits

pub block_bits_split : (bits : Bits) (level : Level) → block_bits bits level ≡ entry_bits bits level + node_bits bits level
block_bits_split bits Leaf = sym (zero-add bits.leaf)
block_bits_split bits Lower = refl
block_bits_split bits Upper = refl

pub node_bits_fit : (bits : Bits) (level : Level) → AreBits bits → node_bits bits level ≤ 5
node_bits_fit bits Leaf h = h.2.1
node_bits_fit bits Lower h = h.1.1
node_bits_fit bits Upper h = h.0.1

-- ---- entries

cube_is : (w : ℕ) → w ^ 3 ≡ w * w * w
cube_is w =
    pow-suc w 2 ∙ ap (λ t. t * w) (pow-suc w 1 ∙ ap (λ t. t * w) (pow-suc w 0 ∙ ap (λ t. t * w) (pow-zero w) ∙ omega arith))

three_times : (b : ℕ) → 2 ^ (3 * b) ≡ 2 ^ b * 2 ^ b * 2 ^ b
three_times b =
    let e : 3 * b ≡ b + b + b = omega arith in
    rw (e, pow-add 2 (b + b) b, pow-add 2 b b) refl

-- how many entries, as the code finds it
pub entries_power : (bits : Bits) (level : Level) → AreBits bits → 1 * 2 ^ (3 * node_bits bits level) % 65536 ≡ entries bits level
entries_power bits level h =
    let b = node_bits bits level in
    let few : 3 * b ≤ 15 = let five = node_bits_fit bits level h in omega (arith, five) in
    let small : 2 ^ (3 * b) ≤ 2 ^ 15 = pow_mono few in
    let e : 1 * 2 ^ (3 * b) % 65536 ≡ 2 ^ (3 * b) = omega (arith, small) in
    e ∙ three_times b ∙ sym (cube_is (2 ^ b))

-- how many entries, as a power of 2
pub entries_is : (bits : Bits) (level : Level) → entries bits level ≡ 2 ^ (3 * node_bits bits level)
entries_is bits level = let b = node_bits bits level in cube_is (2 ^ b) ∙ sym (three_times b)

-- three positions make an offset
abbrev pub joined : ℕ → ℕ → ℕ → ℕ → ℕ
joined w x y z = (x * w + y) * w + z

pub offset_is : (bits : Bits) (level : Level) (p : Coord) → offset bits level p
    ≡ joined (2 ^ node_bits bits level) (digit (entry_bits bits level) (node_bits bits level) p.x) (digit (entry_bits bits level) (node_bits bits level) p.y) (digit (entry_bits bits level) (node_bits bits level) p.z)
offset_is bits level p =
    ap (λ (k : ℕ). joined (2 ^ node_bits bits level) (rest (2 ^ k) p.x / 2 ^ entry_bits bits level) (rest (2 ^ k) p.y / 2 ^ entry_bits bits level) (rest (2 ^ k) p.z / 2 ^ entry_bits bits level))
    (block_bits_split bits level)

square_below : (x y n : ℕ) → x < n → y < n → x * n + y < n * n
square_below x y n hx hy =
    let a : suc x * n ≤ n * n = mul-le-mul_right n hx in
    omega (arith, a)

cube_below : (x y z n : ℕ) → x < n → y < n → z < n → joined n x y z < n * n * n
cube_below x y z n hx hy hz =
    let a : suc (x * n + y) * n ≤ n * n * n = mul-le-mul_right n (square_below x y n hx hy) in
    omega (arith, a)

-- an offset is one of the node's entries
pub offset_below : (bits : Bits) (level : Level) (p : Coord) → offset bits level p < entries bits level
offset_below bits level p =
    let low = entry_bits bits level in
    let b = node_bits bits level in
    subst (λ t. t < entries bits level) (sym (offset_is bits level p)) (subst (λ t. joined (2 ^ b) (digit low b p.x) (digit low b p.y) (digit low b p.z) < t) (sym (cube_is (2 ^ b)))
    (cube_below (digit low b p.x) (digit low b p.y) (digit low b p.z) (2 ^ b) (digit_below low b p.x) (digit_below low b p.y) (digit_below low b p.z)))

-- ---- the code's sums

small_square : (x n : ℕ) → n ≤ 32 → x < n → x * n < 1024
small_square x n few xn =
    let a : x * n ≤ x * 32 = mul-le-mul_left x few in
    omega (arith, a)

small_cube : (x n : ℕ) → n ≤ 32 → x < 1024 → x * n < 32768
small_cube x n few h =
    let a : x * n ≤ x * 32 = mul-le-mul_left x few in
    omega (arith, a)

small_pair : (x y n : ℕ) → n ≤ 32 → x < n → y < n → x * n + y < 1024
small_pair x y n few xn yn =
    let a : suc x * n ≤ 32 * n = mul-le-mul_right n (omega arith) in
    omega (arith, a)

kept : (n : ℕ) → n < 4294967296 → n % 4294967296 ≡ n
kept n h = omega arith

-- shifts of small positions lose nothing
pub shifted : (x y z n : ℕ) → n ≤ 32 → x < n → y < n → z < n → ((x * n % 4294967296 + y) * n % 4294967296 + z ≡ joined n x y z) × (joined n x y z < 32768) × (x * n % 4294967296 ≡ x * n) × (x * n + y < 1024)
shifted x y z n few xn yn zn =
    let a = small_square x n few xn in
    let b = small_pair x y n few xn yn in
    let c = small_cube (x * n + y) n few b in
    let first : x * n % 4294967296 ≡ x * n = kept (x * n) (omega (arith, a)) in
    let second : (x * n + y) * n % 4294967296 ≡ (x * n + y) * n = kept ((x * n + y) * n) (omega (arith, c)) in
    let last : suc (x * n + y) * n ≤ 1024 * n = mul-le-mul_right n b in
    let bound : 1024 * n ≤ 1024 * 32 = mul-le-mul_left 1024 few in
    (ap (λ t. (t + y) * n % 4294967296 + z) first ∙ ap (λ t. t + z) second, omega (arith, last, bound), first, b)

-- ---- offsets and entries determine each other

field_x : {p q : Coord} → p ≡ q → p.x ≡ q.x
field_x e = ap (λ (t : Coord). t.x) e

field_y : {p q : Coord} → p ≡ q → p.y ≡ q.y
field_y e = ap (λ (t : Coord). t.y) e

field_z : {p q : Coord} → p ≡ q → p.z ≡ q.z
field_z e = ap (λ (t : Coord). t.z) e

-- ---- entries of a block

-- the entry in this position of p's block of entries of 2 ^ low
abbrev pub entry_box : ℕ → ℕ → Coord → ℕ → ℕ → ℕ → Box
entry_box low bits p x y z =
    let first : ℤ → ℕ → ℤ = λ v d. first_of (low + bits) (number_at (low + bits) v) +ℤ pos (d * 2 ^ low) in
    record {
      min = coord (first p.x x) (first p.y y) (first p.z z);
      max = coord (first p.x x +ℤ pos (2 ^ low - 1)) (first p.y y +ℤ pos (2 ^ low - 1)) (first p.z z +ℤ pos (2 ^ low - 1));
    }

abbrev box_by : ℕ → ℕ → Coord → ℕ → ℕ → ℕ → Box
box_by k low p x y z =
    let first : ℤ → ℕ → ℤ = λ v d. first_of k (number_at k v) +ℤ pos (d * 2 ^ low) in
    record {
      min = coord (first p.x x) (first p.y y) (first p.z z);
      max = coord (first p.x x +ℤ pos (2 ^ low - 1)) (first p.y y +ℤ pos (2 ^ low - 1)) (first p.z z +ℤ pos (2 ^ low - 1));
    }

pub sub_block_is : (bits : Bits) (level : Level) (p : Coord) (i : ℕ) → let n = 2 ^ node_bits bits level in
    sub_block bits level (block_around bits level p) i ≡ entry_box (entry_bits bits level) (node_bits bits level) p (i / n / n) (i / n % n) (i % n)
sub_block_is bits level p i =
    let n = 2 ^ node_bits bits level in
    let low = entry_bits bits level in
    ap (λ (k : ℕ). box_by k low p (i / (n * n)) (i / n % n) (i % n)) (block_bits_split bits level)
    ∙ ap (λ (d : ℕ). entry_box low (node_bits bits level) p d (i / n % n) (i % n)) (sym (div-div-eq-div-mul i n n))

-- an index is less than the node's width in each position
pub index_positions : (bits : Bits) (level : Level) (i : ℕ) → i < entries bits level → let n = 2 ^ node_bits bits level in
    (i / n / n < n) × (i / n % n < n) × (i % n < n)
index_positions bits level i h =
    let n = 2 ^ node_bits bits level in
    let p = pow_pos (node_bits bits level) in
    let cube : i < n * n * n = subst (λ t. i < t) (cube_is n) h in
    (div_below (i / n) n n p (div_below i n (n * n) p cube), mod-lt (i / n) p, mod-lt i p)

-- the positions of an index make it again
pub index_joined : (n i : ℕ) → joined n (i / n / n) (i / n % n) (i % n) ≡ i
index_joined n i = ap (λ t. t * n + i % n) (div-add-mod' (i / n) n) ∙ div-add-mod' i n
