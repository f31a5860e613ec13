-- Which entries of a node meet a box, by their positions.
use Rattle.vdb_coord.proofs.Common.{◌≡◌, ℕ, ℤ, pos, ◌+◌, ◌-◌, ◌*◌, ◌<◌, ◌≤◌, ◌%◌, ◌/◌, ◌^◌, ◌+ℤ◌, ◌*ℤ◌, Bool, true, false, ◌&&◌, int_le, to_z, w32, arith, ap, sym, subst, ◌∙◌, refl, int_max, int_min, pow_mono, ints, to_z_pos, div-div-eq-div-mul, block_around, entries, entry_bits, node_bits, sub_block, box_of, meets, digit, first_of, last_of, number_at, AreBits, position, position_of, Box, coord, is_between, is_box, is_inside, Bits, Coord, Level}
use Rattle.vdb_coord.proofs.Boxes.{above_both, below_both, both, le_through, not_true, three, together}
use Rattle.vdb_coord.proofs.Digits.{entry_end, first_of_entry, number_inside, number_split}
use Rattle.vdb_coord.proofs.Meeting.{begins_by, ends_by, le_up, number_le}
use Rattle.vdb_coord.proofs.Positions.{block_bits_split, index_positions, node_bits_fit, sub_block_is}

cancelled : (u : ℤ) (a c : ℕ) → int_le (u +ℤ pos a) (u +ℤ pos c) ≡ int_le (pos a) (pos c)
cancelled u a c = grind (arith, ints)

abbrev entry_start : ℕ → ℕ → ℤ → ℕ → ℤ
entry_start low b n d = first_of (low + b) n +ℤ pos (d * 2 ^ low)

abbrev entry_stop : ℕ → ℕ → ℤ → ℕ → ℤ
entry_stop low b n d = entry_start low b n d +ℤ pos (2 ^ low - 1)

-- a number of block n lies before or in the entry d exactly if its position isn't above d
position_upto : (low b : ℕ) (n x : ℤ) (d : ℕ) → d < 2 ^ b → number_at (low + b) x ≡ n → int_le (pos (digit low b x)) (pos d) ≡ int_le x (entry_stop low b n d)
position_upto low b n x d small e =
    let entry = n *ℤ pos (2 ^ b) +ℤ pos d in
    let split : number_at low x ≡ n *ℤ pos (2 ^ b) +ℤ pos (digit low b x) = number_split low b x ∙ ap (λ (t : ℤ). t *ℤ pos (2 ^ b) +ℤ pos (digit low b x)) e in
    sym (cancelled (n *ℤ pos (2 ^ b)) (digit low b x) d) ∙ ap (λ (t : ℤ). int_le t entry) (sym split) ∙ sym (ends_by low entry x)
    ∙ ap (λ (t : ℤ). int_le x (t +ℤ pos (2 ^ low - 1))) (sym (first_of_entry low b n d small))

-- a number of block n lies in the entry d or behind it exactly if d isn't above its position
position_from : (low b : ℕ) (n x : ℤ) (d : ℕ) → d < 2 ^ b → number_at (low + b) x ≡ n → int_le (pos d) (pos (digit low b x)) ≡ int_le (entry_start low b n d) x
position_from low b n x d small e =
    let entry = n *ℤ pos (2 ^ b) +ℤ pos d in
    let split : number_at low x ≡ n *ℤ pos (2 ^ b) +ℤ pos (digit low b x) = number_split low b x ∙ ap (λ (t : ℤ). t *ℤ pos (2 ^ b) +ℤ pos (digit low b x)) e in
    sym (cancelled (n *ℤ pos (2 ^ b)) d (digit low b x)) ∙ ap (λ (t : ℤ). int_le entry t) (sym split) ∙ sym (begins_by low entry x)
    ∙ ap (λ (t : ℤ). int_le t x) (sym (first_of_entry low b n d small))

-- the order of positions in one block
position_order : (low b : ℕ) (n x y : ℤ) → number_at (low + b) x ≡ n → number_at (low + b) y ≡ n → int_le x y ≡ true → int_le (pos (digit low b x)) (pos (digit low b y)) ≡ true
position_order low b n x y ex ey h =
    let split : (z : ℤ) → number_at (low + b) z ≡ n → number_at low z ≡ n *ℤ pos (2 ^ b) +ℤ pos (digit low b z)
    = λ z e. number_split low b z ∙ ap (λ (t : ℤ). t *ℤ pos (2 ^ b) +ℤ pos (digit low b z)) e in
    sym (cancelled (n *ℤ pos (2 ^ b)) (digit low b x) (digit low b y)) ∙ ap (λ (t : ℤ). int_le t (n *ℤ pos (2 ^ b) +ℤ pos (digit low b y))) (sym (split x ex))
    ∙ ap (λ (t : ℤ). int_le (number_at low x) t) (sym (split y ey)) ∙ number_le low x y h

true_second : (a b : Bool) → b ≡ true → (a && b) ≡ a
true_second true b h = h
true_second false b h = refl

more : (u : ℤ) (s t : ℕ) → s ≤ t → int_le (u +ℤ pos s) (u +ℤ pos t) ≡ true
more u s t h = grind (arith, ints)

two_steps : (u : ℤ) (s t : ℕ) → int_le u (u +ℤ pos s +ℤ pos t) ≡ true
two_steps u s t = grind (arith, ints)

-- an entry lies in its block
starts_in : (low b : ℕ) (n : ℤ) (d : ℕ) → d < 2 ^ b → int_le (entry_start low b n d) (last_of (low + b) n) ≡ true
starts_in low b n d small = let e = entry_end low b d small in more (first_of (low + b) n) (d * 2 ^ low) (2 ^ (low + b) - 1) (omega (arith, e))

stops_in : (low b : ℕ) (n : ℤ) (d : ℕ) → int_le (first_of (low + b) n) (entry_stop low b n d) ≡ true
stops_in low b n d = two_steps (first_of (low + b) n) (d * 2 ^ low) (2 ^ low - 1)

stop_in : (low b : ℕ) (n : ℤ) (d : ℕ) → d < 2 ^ b → int_le (entry_stop low b n d) (last_of (low + b) n) ≡ true
stop_in low b n d small =
    let e = entry_end low b d small in
    let join : (u : ℤ) (s t : ℕ) → u +ℤ pos (s + t) ≡ u +ℤ pos s +ℤ pos t = λ u s t. omega (arith, ints) in
    subst (λ (t : ℤ). int_le t (last_of (low + b) n) ≡ true) (join (first_of (low + b) n) (d * 2 ^ low) (2 ^ low - 1))
    (more (first_of (low + b) n) (d * 2 ^ low + (2 ^ low - 1)) (2 ^ (low + b) - 1) e)

-- ---- along one axis: the range from low to high within block n

-- both ends of what a range and a block have in common lie in the block
ends_in : (k : ℕ) (n least greatest : ℤ) → int_le (int_max least (first_of k n)) (int_min greatest (last_of k n)) ≡ true
    → (number_at k (int_max least (first_of k n)) ≡ n) × (number_at k (int_min greatest (last_of k n)) ≡ n)
ends_in k n least greatest h = (
  number_inside k n (int_max least (first_of k n)) (low_in least greatest (first_of k n) (last_of k n) h),
  number_inside k n (int_min greatest (last_of k n)) (high_in least greatest (first_of k n) (last_of k n) h),
)
  where
    low_in : (a b f l : ℤ) → int_le (int_max a f) (int_min b l) ≡ true → is_between f l (int_max a f) ≡ true
    low_in a b f l e = grind (arith, ints)

    high_in : (a b f l : ℤ) → int_le (int_max a f) (int_min b l) ≡ true → is_between f l (int_min b l) ≡ true
    high_in a b f l e = grind (arith, ints)

meets_along : (low b : ℕ) (n least greatest : ℤ) (d : ℕ) → d < 2 ^ b → let k = low + b in let x = int_max least (first_of k n) in let y = int_min greatest (last_of k n) in
    int_le x y ≡ true → is_between (pos (digit low b x)) (pos (digit low b y)) (pos d) ≡ (int_le least (entry_stop low b n d) && int_le (entry_start low b n d) greatest)
meets_along low b n least greatest d small h =
    let k = low + b in
    let x = int_max least (first_of k n) in
    let y = int_min greatest (last_of k n) in
    let es = ends_in k n least greatest h in
    let lower : int_le (pos (digit low b x)) (pos d) ≡ int_le least (entry_stop low b n d)
    = position_upto low b n x d small es.0 ∙ below_both least (first_of k n) (entry_stop low b n d) ∙ true_second (int_le least (entry_stop low b n d)) (int_le (first_of k n) (entry_stop low b n d)) (stops_in low b n d) in
    let upper : int_le (pos d) (pos (digit low b y)) ≡ int_le (entry_start low b n d) greatest
    = position_from low b n y d small es.1 ∙ above_both greatest (last_of k n) (entry_start low b n d) ∙ true_second (int_le (entry_start low b n d) greatest) (int_le (entry_start low b n d) (last_of k n)) (starts_in low b n d small) in
    ap (λ (t : Bool). t && int_le (pos d) (pos (digit low b y))) lower ∙ ap (λ (t : Bool). int_le least (entry_stop low b n d) && t) upper

-- an entry that meets a range shows that the range and the block have a number in common
common_along : (low b : ℕ) (n least greatest : ℤ) (d : ℕ) → d < 2 ^ b → int_le least greatest ≡ true → (int_le least (entry_stop low b n d) && int_le (entry_start low b n d) greatest) ≡ true
    → int_le (int_max least (first_of (low + b) n)) (int_min greatest (last_of (low + b) n)) ≡ true
common_along low b n least greatest d small ordered h =
    let k = low + b in
    let hs = both (int_le least (entry_stop low b n d)) (int_le (entry_start low b n d) greatest) h in
    let reaches : int_le least (last_of k n) ≡ true = le_through least (entry_stop low b n d) (last_of k n) hs.0 (stop_in low b n d small) in
    let begins : int_le (first_of k n) greatest ≡ true = le_through (first_of k n) (entry_start low b n d) greatest (le_up (first_of k n) (d * 2 ^ low)) hs.1 in
    four least (first_of k n) greatest (last_of k n) ordered reaches begins (le_up (first_of k n) (2 ^ k - 1))
  where
    four : (a f b' l : ℤ) → int_le a b' ≡ true → int_le a l ≡ true → int_le f b' ≡ true → int_le f l ≡ true → int_le (int_max a f) (int_min b' l) ≡ true
    four a f b' l u v w z = grind (arith, ints)

-- ---- boxes

-- the corners of what the box and the block of 2 ^ k around p have in common
abbrev common_by : ℕ → Coord → Box → Box
common_by k p b =
    let low : ℤ → ℤ → ℤ = λ least x. int_max least (first_of k (number_at k x)) in
    let high : ℤ → ℤ → ℤ = λ greatest x. int_min greatest (last_of k (number_at k x)) in
    record { min = coord (low b.min.x p.x) (low b.min.y p.y) (low b.min.z p.z); max = coord (high b.max.x p.x) (high b.max.y p.y) (high b.max.z p.z) }

-- the same for the level's block
abbrev pub common_with : Bits → Level → Coord → Box → Box
common_with bits level p b =
    let block = block_around bits level p in
    record {
      min = coord (int_max b.min.x block.min.x) (int_max b.min.y block.min.y) (int_max b.min.z block.min.z);
      max = coord (int_min b.max.x block.max.x) (int_min b.max.y block.max.y) (int_min b.max.z block.max.z);
    }

common_is : (bits : Bits) (level : Level) (p : Coord) (b : Box) → common_with bits level p b ≡ common_by (entry_bits bits level + node_bits bits level) p b
common_is bits level p b = ap (λ (k : ℕ). common_by k p b) (block_bits_split bits level)

-- the positions of those corners
abbrev pub positions_with : Bits → Level → Coord → Box → Box
positions_with bits level p b = record { min = position bits level (common_with bits level p b).min; max = position bits level (common_with bits level p b).max }

abbrev positions_by : ℕ → ℕ → Box → Box
positions_by low b c =
    let along : ℤ → ℤ = λ x. pos (digit low b x) in
    record { min = coord (along c.min.x) (along c.min.y) (along c.min.z); max = coord (along c.max.x) (along c.max.y) (along c.max.z) }

-- the positions of those corners are in order
pub positions_are_box : (bits : Bits) (level : Level) (p : Coord) (b : Box) → is_box (common_with bits level p b) ≡ true → is_box (positions_with bits level p b) ≡ true
positions_are_box bits level p b h =
    let low = entry_bits bits level in
    let n = node_bits bits level in
    let k = low + n in
    let c = common_by k p b in
    let hs = three (int_le c.min.x c.max.x) (int_le c.min.y c.max.y) (int_le c.min.z c.max.z) (subst (λ (t : Box). is_box t ≡ true) (common_is bits level p b) h) in
    let x = ends_in k (number_at k p.x) b.min.x b.max.x hs.0 in
    let y = ends_in k (number_at k p.y) b.min.y b.max.y hs.1 in
    let z = ends_in k (number_at k p.z) b.min.z b.max.z hs.2 in
    let d : ℤ → ℤ = λ v. pos (digit low n v) in
    subst (λ (t : Box). is_box (positions_by low n t) ≡ true) (sym (common_is bits level p b))
    (together (int_le (d c.min.x) (d c.max.x)) (int_le (d c.min.y) (d c.max.y)) (int_le (d c.min.z) (d c.max.z))
    (position_order low n (number_at k p.x) c.min.x c.max.x x.0 x.1 hs.0)
    (position_order low n (number_at k p.y) c.min.y c.max.y y.0 y.1 hs.1)
    (position_order low n (number_at k p.z) c.min.z c.max.z z.0 z.1 hs.2))

-- the position of an entry in its node
pub position_of_is : (bits : Bits) (level : Level) (i : ℕ) → let n = 2 ^ node_bits bits level in position_of bits level i ≡ coord (pos (i / n / n)) (pos (i / n % n)) (pos (i % n))
position_of_is bits level i =
    let n = 2 ^ node_bits bits level in
    ap (λ (d : ℕ). coord (pos d) (pos (i / n % n)) (pos (i % n))) (sym (div-div-eq-div-mul i n n))

-- the entries that meet the box are those whose positions lie between
pub positions_meet : (bits : Bits) (level : Level) (p : Coord) (b : Box) (i : ℕ) → i < entries bits level → is_box (common_with bits level p b) ≡ true
    → is_inside (positions_with bits level p b) (position_of bits level i) ≡ meets (sub_block bits level (block_around bits level p) i) b
positions_meet bits level p b i small h =
    let low = entry_bits bits level in
    let n = node_bits bits level in
    let k = low + n in
    let w = 2 ^ n in
    let c = common_by k p b in
    let ps = index_positions bits level i small in
    let hs = three (int_le c.min.x c.max.x) (int_le c.min.y c.max.y) (int_le c.min.z c.max.z) (subst (λ (t : Box). is_box t ≡ true) (common_is bits level p b) h) in
    let x = meets_along low n (number_at k p.x) b.min.x b.max.x (i / w / w) ps.0 hs.0 in
    let y = meets_along low n (number_at k p.y) b.min.y b.max.y (i / w % w) ps.1 hs.1 in
    let z = meets_along low n (number_at k p.z) b.min.z b.max.z (i % w) ps.2 hs.2 in
    ap (λ (t : Coord). is_inside (positions_with bits level p b) t) (position_of_is bits level i)
    ∙ ap (λ (t : Box). is_inside (positions_by low n t) (coord (pos (i / w / w)) (pos (i / w % w)) (pos (i % w)))) (common_is bits level p b)
    ∙ (λ j. x j && y j && z j)
    ∙ ap (λ (t : Box). meets t b) (sym (sub_block_is bits level p i))

-- if the box and the block have nothing in common, no entry meets the box
pub none_meets : (bits : Bits) (level : Level) (p : Coord) (b : Box) (i : ℕ) → i < entries bits level → is_box b ≡ true → is_box (common_with bits level p b) ≡ false
    → meets (sub_block bits level (block_around bits level p) i) b ≡ false
none_meets bits level p b i small ordered out =
    not_true (meets (sub_block bits level (block_around bits level p) i) b) (λ h.
    let low = entry_bits bits level in
    let n = node_bits bits level in
    let k = low + n in
    let w = 2 ^ n in
    let c = common_by k p b in
    let ps = index_positions bits level i small in
    let os = three (int_le b.min.x b.max.x) (int_le b.min.y b.max.y) (int_le b.min.z b.max.z) ordered in
    let touch : ℤ → ℤ → ℤ → ℕ → Bool = λ v least greatest d. int_le least (entry_stop low n (number_at k v) d) && int_le (entry_start low n (number_at k v) d) greatest in
    let ms = three (touch p.x b.min.x b.max.x (i / w / w)) (touch p.y b.min.y b.max.y (i / w % w)) (touch p.z b.min.z b.max.z (i % w)) (ap (λ (t : Box). meets t b) (sym (sub_block_is bits level p i)) ∙ h) in
    let inside : is_box c ≡ true = together (int_le c.min.x c.max.x) (int_le c.min.y c.max.y) (int_le c.min.z c.max.z)
    (common_along low n (number_at k p.x) b.min.x b.max.x (i / w / w) ps.0 os.0 ms.0)
    (common_along low n (number_at k p.y) b.min.y b.max.y (i / w % w) ps.1 os.1 ms.1)
    (common_along low n (number_at k p.z) b.min.z b.max.z (i % w) ps.2 os.2 ms.2) in
    let never : false ≡ true = sym out ∙ ap is_box (common_is bits level p b) ∙ inside in cc)

-- ---- for the code

abbrev pub low_corner : Box → Box → Coord
low_corner a b = coord (int_max a.min.x b.min.x) (int_max a.min.y b.min.y) (int_max a.min.z b.min.z)

abbrev pub high_corner : Box → Box → Coord
high_corner a b = coord (int_min a.max.x b.max.x) (int_min a.max.y b.max.y) (int_min a.max.z b.max.z)

pub low_of_same : (a c b d : Box) (r : Coord) → r ≡ low_corner a b → a ≡ c → b ≡ d → r ≡ low_corner c d
low_of_same a c b d r e f g = e ∙ (λ j. low_corner (f j) (g j))

pub high_of_same : (a c b d : Box) (r : Coord) → r ≡ high_corner a b → a ≡ c → b ≡ d → r ≡ high_corner c d
high_of_same a c b d r e f g = e ∙ (λ j. high_corner (f j) (g j))

pub same_box : (p q r s : Coord) → p ≡ r → q ≡ s → let both : Coord → Coord → Box = λ v w. record { min = v; max = w } in both p q ≡ both r s
same_box p q r s e f = λ j. record { min = e j; max = f j }

pub same_answer : (p q r s : Coord) → p ≡ r → q ≡ s → box_of p q ≡ box_of r s
same_answer p q r s e f = λ j. box_of (e j) (f j)

-- the positions of an index are small
pub small_positions : (bits : Bits) (level : Level) (i : ℕ) → AreBits bits → i < entries bits level → let n = 2 ^ node_bits bits level in (i / n / n < 32) × (i / n % n < 32) × (i % n < 32)
small_positions bits level i configured h =
    let ps = index_positions bits level i h in
    let few : 2 ^ node_bits bits level ≤ 2 ^ 5 = pow_mono (node_bits_fit bits level configured) in
    let x = ps.0 in
    let y = ps.1 in
    let z = ps.2 in
    (omega (arith, x, few), omega (arith, y, few), omega (arith, z, few))

pub signed_positions : (bits : Bits) (level : Level) (i : ℕ) → AreBits bits → i < entries bits level → let n = 2 ^ node_bits bits level in
    coord (to_z w32 (i / n / n)) (to_z w32 (i / n % n)) (to_z w32 (i % n)) ≡ position_of bits level i
signed_positions bits level i configured h =
    let n = 2 ^ node_bits bits level in
    let s = small_positions bits level i configured h in
    let sx = s.0 in
    let sy = s.1 in
    let sz = s.2 in
    let x : to_z w32 (i / n / n) ≡ pos (i / n / n) = to_z_pos w32 (i / n / n) (omega (arith, sx)) in
    let y : to_z w32 (i / n % n) ≡ pos (i / n % n) = to_z_pos w32 (i / n % n) (omega (arith, sy)) in
    let z : to_z w32 (i % n) ≡ pos (i % n) = to_z_pos w32 (i % n) (omega (arith, sz)) in
    (λ j. coord (x j) (y j) (z j)) ∙ sym (position_of_is bits level i)
