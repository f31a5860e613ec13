-- Blocks and the range of coordinates: a block of a coordinate in range lies in the range.
use Rattle.vdb_coord.proofs.Common.{◌≡◌, ℕ, ℤ, pos, negsuc, ◌≤◌, Bool, true, IsTrue, SFits, w32, arith, sym, subst, ints, block, block_bits, block_number, block_numbers, key, first_of, last_of, number_at, AreBits, everywhere, is_between, is_inside, Bits, Coord, Level, Leaf, Lower, Upper}
use Rattle.vdb_coord.proofs.Boxes.{three, together}
use Rattle.vdb_coord.proofs.Digits.{inside_own}
use Rattle.vdb_coord.proofs.Meeting.{number_of_first, number_within, numbered_fits}

-- a block spans at most 2 to the power 15
block_bits_fit : (bits : Bits) (level : Level) → AreBits bits → block_bits bits level ≤ 15
block_bits_fit bits Leaf h = omega arith
block_bits_fit bits Lower h = omega arith
block_bits_fit bits Upper h = omega arith

-- what lies between two numbers that fit 32 bits
between_ends : (a b x : ℤ) → SFits w32 a → SFits w32 b → is_between a b x ≡ true → is_between (negsuc 2147483647) (pos 2147483647) x ≡ true
between_ends a b x f g h = grind (arith, ints)

-- a component whose number is one of the level's
component_in_range : (k : ℕ) (x : ℤ) → k ≤ 15 → is_between (number_at k (negsuc 2147483647)) (number_at k (pos 2147483647)) (number_at k x) ≡ true
    → is_between (negsuc 2147483647) (pos 2147483647) x ≡ true
component_in_range k x few h =
    let fits = numbered_fits k (number_at k x) few h in
    between_ends (first_of k (number_at k x)) (last_of k (number_at k x)) x fits.0 fits.1 (inside_own k x)

-- the number of a block of a coordinate in range is one of the level's
pub number_in_range : (bits : Bits) (level : Level) (p : Coord) → IsTrue (is_inside everywhere p) → IsTrue (is_inside (block_numbers bits level) (block_number bits level p))
number_in_range bits level p h = number_within bits level p h

-- a coordinate whose block's number is one of the level's is in range
pub numbered_in_range : (bits : Bits) (level : Level) → AreBits bits → (p : Coord) → IsTrue (is_inside (block_numbers bits level) (block_number bits level p)) → IsTrue (is_inside everywhere p)
numbered_in_range bits level few p h =
    let k = block_bits bits level in
    let small = block_bits_fit bits level few in
    let least = negsuc 2147483647 in
    let greatest = pos 2147483647 in
    let between : ℤ → Bool = λ x. is_between (number_at k least) (number_at k greatest) (number_at k x) in
    let hs = three (between p.x) (between p.y) (between p.z) h in
    together (is_between least greatest p.x) (is_between least greatest p.y) (is_between least greatest p.z)
    (component_in_range k p.x small hs.0) (component_in_range k p.y small hs.1) (component_in_range k p.z small hs.2)

-- a coordinate whose key is one of the upper extents' is in range
pub key_in_range : (bits : Bits) → AreBits bits → (p : Coord) → IsTrue (is_inside (block_numbers bits Upper) (key bits p)) → IsTrue (is_inside everywhere p)
key_in_range bits few p h = numbered_in_range bits Upper few p h

-- the block of a coordinate in range lies in the range
pub block_in_range : (bits : Bits) (level : Level) → AreBits bits → (p q : Coord) → IsTrue (is_inside everywhere p) → block_number bits level q ≡ block_number bits level p → IsTrue (is_inside everywhere q)
block_in_range bits level few p q h e =
    numbered_in_range bits level few q (subst (λ (n : Coord). is_inside (block_numbers bits level) n ≡ true) (sym e) (number_in_range bits level p h))

-- the first coordinate of a block has its number
pub number_of_corner : (bits : Bits) (level : Level) (n : Coord) → block_number bits level (block bits level n).min ≡ n
number_of_corner bits level n =
    let k = block_bits bits level in
    let x = number_of_first k n.x in
    let y = number_of_first k n.y in
    let z = number_of_first k n.z in
    λ i. record { x = x i; y = y i; z = z i }

-- the first coordinate of a block is in range if the number is one of the level's
pub corner_in_range : (bits : Bits) (level : Level) → AreBits bits → (n : Coord) → IsTrue (is_inside (block_numbers bits level) n) → IsTrue (is_inside everywhere (block bits level n).min)
corner_in_range bits level few n h =
    numbered_in_range bits level few (block bits level n).min (subst (λ (m : Coord). is_inside (block_numbers bits level) m ≡ true) (sym (number_of_corner bits level n)) h)
