-- Blocks, entries and offsets of a tree's levels determine each other.
use Rattle.vdb_coord.proofs.Common.{◌≡◌, ℕ, ℤ, pos, ◌+◌, ◌-◌, ◌*◌, ◌<◌, ◌%◌, ◌/◌, ◌^◌, ◌+ℤ◌, ◌*ℤ◌, Bool, true, arith, ap, sym, subst, ◌∙◌, refl, IsTotalOrder, is_eq, nat_cmp, ordering_then, Ordering, Less, Equal, Greater, on_total, then_total, ints, block, block_around, block_bits, block_cmp, block_number, entries, entry_bits, key, node_bits, offset, sub_block, digit, first_of, last_of, number_at, entry_number, Box, coord, coord_cmp, is_between, is_inside, Bits, Coord, Level, Leaf, Lower, Upper}
use Rattle.std.specs.Cmp.{nat_cmp_total}
use Rattle.std.specs.FinMap.{nat_cmp-IsAntisymmetric}
use Rattle.std.proofs.lemmas.Nat.{same_from_place}
use Rattle.vdb_coord.proofs.Boxes.{three, together}
use Rattle.vdb_coord.proofs.Division.{rest, rest_of}
use Rattle.vdb_coord.proofs.Digits.{digit_below, digit_is, first_of_entry, inside_own, number_inside, number_of_entry, number_split, number_up, number_zero, same_entry}
use Rattle.vdb_coord.proofs.Positions.{block_bits_split, index_joined, index_positions, joined, offset_below, offset_is, sub_block_is}
use Rattle.vdb_coord.proofs.Members.{coord_exact, coord_total}

same_coord : (p q : Coord) → p.x ≡ q.x → p.y ≡ q.y → p.z ≡ q.z → p ≡ q
same_coord p q x y z = λ i. record { x = x i; y = y i; z = z i }

field_x : (p q : Coord) → p ≡ q → p.x ≡ q.x
field_x p q e = ap (λ (t : Coord). t.x) e

field_y : (p q : Coord) → p ≡ q → p.y ≡ q.y
field_y p q e = ap (λ (t : Coord). t.y) e

field_z : (p q : Coord) → p ≡ q → p.z ≡ q.z
field_z p q e = ap (λ (t : Coord). t.z) e

-- which block of 2 ^ k along each axis holds p
abbrev numbers : ℕ → Coord → Coord
numbers k p = coord (number_at k p.x) (number_at k p.y) (number_at k p.z)

-- a level's block, by the bits of its entries and of its nodes
block_number_is : (bits : Bits) (level : Level) (p : Coord) → block_number bits level p ≡ numbers (entry_bits bits level + node_bits bits level) p
block_number_is bits level p = ap (λ (k : ℕ). numbers k p) (block_bits_split bits level)

same_numbers : (bits : Bits) (level : Level) (p q : Coord) → block_number bits level p ≡ block_number bits level q → numbers (entry_bits bits level + node_bits bits level) p ≡ numbers (entry_bits bits level + node_bits bits level) q
same_numbers bits level p q e = sym (block_number_is bits level p) ∙ e ∙ block_number_is bits level q

-- the positions of two equal offsets
same_positions : (bits : Bits) (level : Level) (p q : Coord) → offset bits level p ≡ offset bits level q → let d : ℤ → ℕ = digit (entry_bits bits level) (node_bits bits level) in
    (d p.x ≡ d q.x) × (d p.y ≡ d q.y) × (d p.z ≡ d q.z)
same_positions bits level p q e =
    let low = entry_bits bits level in
    let b = node_bits bits level in
    let n = 2 ^ b in
    let d : ℤ → ℕ = digit low b in
    let whole : joined n (d p.x) (d p.y) (d p.z) ≡ joined n (d q.x) (d q.y) (d q.z) = sym (offset_is bits level p) ∙ e ∙ offset_is bits level q in
    let outer = same_from_place (d p.x * n + d p.y) (d p.z) (d q.x * n + d q.y) (d q.z) n (digit_below low b p.z) (digit_below low b q.z) whole in
    let inner = same_from_place (d p.x) (d p.y) (d q.x) (d q.y) n (digit_below low b p.y) (digit_below low b q.y) outer.0 in
    (inner.0, inner.1, outer.1)

-- two coordinates in one block, with one offset in it, are in one entry
pub entry_from_offset : (bits : Bits) (level : Level) (p q : Coord) → block_number bits level p ≡ block_number bits level q → offset bits level p ≡ offset bits level q → entry_number bits level p ≡ entry_number bits level q
entry_from_offset bits level p q e d =
    let low = entry_bits bits level in
    let b = node_bits bits level in
    let n = same_numbers bits level p q e in
    let ds = same_positions bits level p q d in
    same_coord (entry_number bits level p) (entry_number bits level q)
    (same_entry low b p.x q.x (field_x (numbers (low + b) p) (numbers (low + b) q) n) ds.0)
    (same_entry low b p.y q.y (field_y (numbers (low + b) p) (numbers (low + b) q) n) ds.1)
    (same_entry low b p.z q.z (field_z (numbers (low + b) p) (numbers (low + b) q) n) ds.2)

-- coordinates in one entry have one offset
pub offset_from_entry : (bits : Bits) (level : Level) (p q : Coord) → entry_number bits level p ≡ entry_number bits level q → offset bits level p ≡ offset bits level q
offset_from_entry bits level p q e =
    let low = entry_bits bits level in
    let b = node_bits bits level in
    let d : (x y : ℤ) → number_at low x ≡ number_at low y → digit low b x ≡ digit low b y
    = λ x y h. digit_is low b x ∙ ap (λ (t : ℤ). rest (2 ^ b) t) h ∙ sym (digit_is low b y) in
    let dx = d p.x q.x (field_x (entry_number bits level p) (entry_number bits level q) e) in
    let dy = d p.y q.y (field_y (entry_number bits level p) (entry_number bits level q) e) in
    let dz = d p.z q.z (field_z (entry_number bits level p) (entry_number bits level q) e) in
    offset_is bits level p ∙ ap (λ (t : ℕ). joined (2 ^ b) t (digit low b p.y) (digit low b p.z)) dx ∙ ap (λ (t : ℕ). joined (2 ^ b) (digit low b q.x) t (digit low b p.z)) dy
    ∙ ap (λ (t : ℕ). joined (2 ^ b) (digit low b q.x) (digit low b q.y) t) dz ∙ sym (offset_is bits level q)

-- coordinates in one entry are in one block
pub block_from_entry : (bits : Bits) (level : Level) (p q : Coord) → entry_number bits level p ≡ entry_number bits level q → block_number bits level p ≡ block_number bits level q
block_from_entry bits level p q e =
    let low = entry_bits bits level in
    let b = node_bits bits level in
    let up : (x y : ℤ) → number_at low x ≡ number_at low y → number_at (low + b) x ≡ number_at (low + b) y
    = λ x y h. number_up low b x ∙ ap (number_at b) h ∙ sym (number_up low b y) in
    block_number_is bits level p
    ∙ same_coord (numbers (low + b) p) (numbers (low + b) q)
    (up p.x q.x (field_x (entry_number bits level p) (entry_number bits level q) e))
    (up p.y q.y (field_y (entry_number bits level p) (entry_number bits level q) e))
    (up p.z q.z (field_z (entry_number bits level p) (entry_number bits level q) e))
    ∙ sym (block_number_is bits level q)

-- an entry of a leaf node is its coordinate
pub entry_number_leaf : (bits : Bits) (p : Coord) → entry_number bits Leaf p ≡ p
entry_number_leaf bits p = same_coord (entry_number bits Leaf p) p (number_zero p.x) (number_zero p.y) (number_zero p.z)

-- coordinates in one leaf extent are in one lower extent, and those in one lower extent in one upper extent
pub lower_from_leaf : (bits : Bits) (p q : Coord) → block_number bits Leaf p ≡ block_number bits Leaf q → block_number bits Lower p ≡ block_number bits Lower q
lower_from_leaf bits p q e = block_from_entry bits Lower p q e

pub upper_from_lower : (bits : Bits) (p q : Coord) → block_number bits Lower p ≡ block_number bits Lower q → block_number bits Upper p ≡ block_number bits Upper q
upper_from_lower bits p q e = block_from_entry bits Upper p q e

-- coordinates in one upper extent with equal offsets are in one lower or leaf extent
pub lower_from_upper : (bits : Bits) (p q : Coord) → block_number bits Upper p ≡ block_number bits Upper q → offset bits Upper p ≡ offset bits Upper q → block_number bits Lower p ≡ block_number bits Lower q
lower_from_upper bits p q e d = entry_from_offset bits Upper p q e d

pub leaf_from_lower : (bits : Bits) (p q : Coord) → block_number bits Lower p ≡ block_number bits Lower q → offset bits Lower p ≡ offset bits Lower q → block_number bits Leaf p ≡ block_number bits Leaf q
leaf_from_lower bits p q e d = entry_from_offset bits Lower p q e d

pub voxel_from_leaf : (bits : Bits) (p q : Coord) → block_number bits Leaf p ≡ block_number bits Leaf q → offset bits Leaf p ≡ offset bits Leaf q → p ≡ q
voxel_from_leaf bits p q e d = sym (entry_number_leaf bits p) ∙ entry_from_offset bits Leaf p q e d ∙ entry_number_leaf bits q

-- key and offsets tell a coordinate from all others
pub same_by_offsets : (bits : Bits) (p q : Coord) → block_number bits Upper p ≡ block_number bits Upper q → offset bits Upper p ≡ offset bits Upper q → offset bits Lower p ≡ offset bits Lower q → offset bits Leaf p ≡ offset bits Leaf q → p ≡ q
same_by_offsets bits p q key upper lower leaf = voxel_from_leaf bits p q (leaf_from_lower bits p q (lower_from_upper bits p q key upper) lower) leaf

-- ---- coordinates inside a block

-- a coordinate inside a block has its number
pub number_in_block : (bits : Bits) (level : Level) (n p : Coord) → is_inside (block bits level n) p ≡ true → block_number bits level p ≡ n
number_in_block bits level n p h =
    let k = block_bits bits level in
    let hs = three (is_between (first_of k n.x) (last_of k n.x) p.x) (is_between (first_of k n.y) (last_of k n.y) p.y) (is_between (first_of k n.z) (last_of k n.z) p.z) h in
    same_coord (block_number bits level p) n (number_inside k n.x p.x hs.0) (number_inside k n.y p.y hs.1) (number_inside k n.z p.z hs.2)

-- a coordinate is inside its block
pub inside_around : (bits : Bits) (level : Level) (p : Coord) → is_inside (block_around bits level p) p ≡ true
inside_around bits level p =
    let k = block_bits bits level in
    let between : ℤ → Bool = λ x. is_between (first_of k (number_at k x)) (last_of k (number_at k x)) x in
    together (between p.x) (between p.y) (between p.z) (inside_own k p.x) (inside_own k p.y) (inside_own k p.z)

-- a coordinate is inside each block that has its block's number
pub inside_numbered : (bits : Bits) (level : Level) (n p : Coord) → block_number bits level p ≡ n → is_inside (block bits level n) p ≡ true
inside_numbered bits level n p e = subst (λ (m : Coord). is_inside (block bits level m) p ≡ true) e (inside_around bits level p)

-- two blocks that hold one coordinate are equal
pub same_block : (bits : Bits) (level : Level) (n m p : Coord) → is_inside (block bits level n) p ≡ true → is_inside (block bits level m) p ≡ true → n ≡ m
same_block bits level n m p h k = sym (number_in_block bits level n p h) ∙ number_in_block bits level m p k

-- ---- entries by their index

along : (low b : ℕ) (n x : ℤ) (d : ℕ) → d < 2 ^ b → let first = first_of (low + b) n +ℤ pos (d * 2 ^ low) in
    is_between first (first +ℤ pos (2 ^ low - 1)) x ≡ true → (number_at (low + b) x ≡ n) × (digit low b x ≡ d)
along low b n x d small h =
    let entry = n *ℤ pos (2 ^ b) +ℤ pos d in
    let e : number_at low x ≡ entry = number_inside low entry x (subst (λ (t : ℤ). is_between t (t +ℤ pos (2 ^ low - 1)) x ≡ true) (first_of_entry low b n d small) h) in (
      number_up low b x ∙ ap (number_at b) e ∙ number_of_entry b n d small,
      digit_is low b x ∙ ap (λ (t : ℤ). rest (2 ^ b) t) e ∙ rest_of (2 ^ b) n d small,
    )

along_back : (low b : ℕ) (n x : ℤ) (d : ℕ) → d < 2 ^ b → number_at (low + b) x ≡ n → digit low b x ≡ d → let first = first_of (low + b) n +ℤ pos (d * 2 ^ low) in
    is_between first (first +ℤ pos (2 ^ low - 1)) x ≡ true
along_back low b n x d small en ed =
    let entry = n *ℤ pos (2 ^ b) +ℤ pos d in
    let e : number_at low x ≡ entry = number_split low b x ∙ ap (λ (t : ℤ). t *ℤ pos (2 ^ b) +ℤ pos (digit low b x)) en ∙ ap (λ (t : ℕ). n *ℤ pos (2 ^ b) +ℤ pos t) ed in
    subst (λ (t : ℤ). is_between t (t +ℤ pos (2 ^ low - 1)) x ≡ true) (sym (first_of_entry low b n d small))
    (subst (λ (t : ℤ). is_between (first_of low t) (last_of low t) x ≡ true) e (inside_own low x))

-- an offset's positions are those of its index
offset_positions : (bits : Bits) (level : Level) (q : Coord) (i : ℕ) → i < entries bits level → offset bits level q ≡ i → let n = 2 ^ node_bits bits level in
    let d : ℤ → ℕ = digit (entry_bits bits level) (node_bits bits level) in (d q.x ≡ i / n / n) × (d q.y ≡ i / n % n) × (d q.z ≡ i % n)
offset_positions bits level q i small e =
    let low = entry_bits bits level in
    let b = node_bits bits level in
    let n = 2 ^ b in
    let d : ℤ → ℕ = digit low b in
    let ps = index_positions bits level i small in
    let whole : joined n (d q.x) (d q.y) (d q.z) ≡ joined n (i / n / n) (i / n % n) (i % n) = sym (offset_is bits level q) ∙ e ∙ sym (index_joined n i) in
    let outer = same_from_place (d q.x * n + d q.y) (d q.z) (i / n / n * n + i / n % n) (i % n) n (digit_below low b q.z) ps.2 whole in
    let inner = same_from_place (d q.x) (d q.y) (i / n / n) (i / n % n) n (digit_below low b q.y) ps.1 outer.0 in
    (inner.0, inner.1, outer.1)

-- a coordinate inside an entry of the node around p lies in that node, at the entry's index
pub in_entry : (bits : Bits) (level : Level) (p q : Coord) (i : ℕ) → i < entries bits level → is_inside (sub_block bits level (block_around bits level p) i) q ≡ true → (block_number bits level q ≡ block_number bits level p) × (offset bits level q ≡ i)
in_entry bits level p q i small h =
    let low = entry_bits bits level in
    let b = node_bits bits level in
    let n = 2 ^ b in
    let ps = index_positions bits level i small in
    let first : ℤ → ℕ → ℤ = λ v d. first_of (low + b) (number_at (low + b) v) +ℤ pos (d * 2 ^ low) in
    let between : ℤ → ℕ → ℤ → Bool = λ v d x. is_between (first v d) (first v d +ℤ pos (2 ^ low - 1)) x in
    let hs = three (between p.x (i / n / n) q.x) (between p.y (i / n % n) q.y) (between p.z (i % n) q.z) (subst (λ (t : Box). is_inside t q ≡ true) (sub_block_is bits level p i) h) in
    let x = along low b (number_at (low + b) p.x) q.x (i / n / n) ps.0 hs.0 in
    let y = along low b (number_at (low + b) p.y) q.y (i / n % n) ps.1 hs.1 in
    let z = along low b (number_at (low + b) p.z) q.z (i % n) ps.2 hs.2 in (
      block_number_is bits level q ∙ same_coord (numbers (low + b) q) (numbers (low + b) p) x.0 y.0 z.0 ∙ sym (block_number_is bits level p),
      offset_is bits level q ∙ ap (λ (t : ℕ). joined n t (digit low b q.y) (digit low b q.z)) x.1 ∙ ap (λ (t : ℕ). joined n (i / n / n) t (digit low b q.z)) y.1
          ∙ ap (λ (t : ℕ). joined n (i / n / n) (i / n % n) t) z.1 ∙ index_joined n i,
    )

-- a coordinate of the node at this offset is inside the entry
pub entry_holds : (bits : Bits) (level : Level) (p q : Coord) (i : ℕ) → i < entries bits level → block_number bits level q ≡ block_number bits level p → offset bits level q ≡ i → is_inside (sub_block bits level (block_around bits level p) i) q ≡ true
entry_holds bits level p q i small e d =
    let low = entry_bits bits level in
    let b = node_bits bits level in
    let n = 2 ^ b in
    let ps = index_positions bits level i small in
    let ns = same_numbers bits level q p e in
    let ds = offset_positions bits level q i small d in
    let first : ℤ → ℕ → ℤ = λ v k. first_of (low + b) (number_at (low + b) v) +ℤ pos (k * 2 ^ low) in
    let between : ℤ → ℕ → ℤ → Bool = λ v k x. is_between (first v k) (first v k +ℤ pos (2 ^ low - 1)) x in
    subst (λ (t : Box). is_inside t q ≡ true) (sym (sub_block_is bits level p i))
    (together (between p.x (i / n / n) q.x) (between p.y (i / n % n) q.y) (between p.z (i % n) q.z)
    (along_back low b (number_at (low + b) p.x) q.x (i / n / n) ps.0 (field_x (numbers (low + b) q) (numbers (low + b) p) ns) ds.0)
    (along_back low b (number_at (low + b) p.y) q.y (i / n % n) ps.1 (field_y (numbers (low + b) q) (numbers (low + b) p) ns) ds.1)
    (along_back low b (number_at (low + b) p.z) q.z (i % n) ps.2 (field_z (numbers (low + b) q) (numbers (low + b) p) ns) ds.2))

at_first : (y : ℤ) (k : ℕ) → is_between y (y +ℤ pos k) y ≡ true
at_first y k = grind (arith, ints)

-- the least corner of an entry is inside it
pub corner_inside : (bits : Bits) (level : Level) (b : Box) (i : ℕ) → is_inside (sub_block bits level b i) (sub_block bits level b i).min ≡ true
corner_inside bits level b i =
    let k = 2 ^ entry_bits bits level - 1 in
    let c = (sub_block bits level b i).min in
    together (is_between c.x (c.x +ℤ pos k) c.x) (is_between c.y (c.y +ℤ pos k) c.y) (is_between c.z (c.z +ℤ pos k) c.z) (at_first c.x k) (at_first c.y k) (at_first c.z k)

-- the least corner of an entry lies in the node, at the entry's index
pub corner_of_entry : (bits : Bits) (level : Level) (p : Coord) (i : ℕ) → i < entries bits level → let corner = (sub_block bits level (block_around bits level p) i).min in
    (block_number bits level corner ≡ block_number bits level p) × (offset bits level corner ≡ i)
corner_of_entry bits level p i small =
    in_entry bits level p (sub_block bits level (block_around bits level p) i).min i small (corner_inside bits level (block_around bits level p) i)

-- the coordinates of the entry that holds p
abbrev pub entry_around : Bits → Level → Coord → Box
entry_around bits level p =
    let k = entry_bits bits level in
    let first : ℤ → ℤ = λ x. first_of k (number_at k x) in
    let last : ℤ → ℤ = λ x. last_of k (number_at k x) in
    record { min = coord (first p.x) (first p.y) (first p.z); max = coord (last p.x) (last p.y) (last p.z) }

-- the entry that holds p is the entry at p's offset
pub entry_at_offset : (bits : Bits) (level : Level) (p : Coord) → sub_block bits level (block_around bits level p) (offset bits level p) ≡ entry_around bits level p
entry_at_offset bits level p =
    let low = entry_bits bits level in
    let b = node_bits bits level in
    let n = 2 ^ b in
    let i = offset bits level p in
    let small = offset_below bits level p in
    let ds = offset_positions bits level p i small refl in
    let first : ℤ → ℕ → ℤ = λ v d. first_of (low + b) (number_at (low + b) v) +ℤ pos (d * 2 ^ low) in
    let start : (x : ℤ) (d : ℕ) → digit low b x ≡ d → first x d ≡ first_of low (number_at low x)
    = λ x d e. ap (first x) (sym e) ∙ first_of_entry low b (number_at (low + b) x) (digit low b x) (digit_below low b x) ∙ ap (first_of low) (sym (number_split low b x)) in
    let x = start p.x (i / n / n) ds.0 in
    let y = start p.y (i / n % n) ds.1 in
    let z = start p.z (i % n) ds.2 in
    sub_block_is bits level p i ∙ (λ j. record {
      min = coord (x j) (y j) (z j);
      max = coord (x j +ℤ pos (2 ^ low - 1)) (y j +ℤ pos (2 ^ low - 1)) (z j +ℤ pos (2 ^ low - 1));
    })

-- the entry that holds p is the block of the level below
pub lower_block_at_offset : (bits : Bits) (p : Coord) → sub_block bits Upper (block_around bits Upper p) (offset bits Upper p) ≡ block_around bits Lower p
lower_block_at_offset bits p = entry_at_offset bits Upper p

pub leaf_block_at_offset : (bits : Bits) (p : Coord) → sub_block bits Lower (block_around bits Lower p) (offset bits Lower p) ≡ block_around bits Leaf p
leaf_block_at_offset bits p = entry_at_offset bits Lower p

-- ---- block order

-- block order is an order
pub block_total : (bits : Bits) → IsTotalOrder (block_cmp bits)
block_total bits =
    then_total (on_total (key bits) coord_total) (then_total (on_total (offset bits Upper) nat_cmp_total) (then_total (on_total (offset bits Lower) nat_cmp_total) (on_total (offset bits Leaf) nat_cmp_total)))

-- coordinates that block order finds equal are equal
pub block_exact : (bits : Bits) (p q : Coord) → block_cmp bits p q ≡ Equal → p ≡ q
block_exact bits p q h =
    let by : Level → Ordering = λ level. nat_cmp (offset bits level p) (offset bits level q) in
    let keys = both_equal (coord_cmp (key bits p) (key bits q)) (ordering_then (by Upper) (ordering_then (by Lower) (by Leaf))) h in
    let uppers = both_equal (by Upper) (ordering_then (by Lower) (by Leaf)) keys.1 in
    let lowers = both_equal (by Lower) (by Leaf) uppers.1 in
    let same : (m n : ℕ) → nat_cmp m n ≡ Equal → m ≡ n = λ m n e. nat_cmp-IsAntisymmetric m n e in
    same_by_offsets bits p q (coord_exact (key bits p) (key bits q) (ap is_eq keys.0))
    (same (offset bits Upper p) (offset bits Upper q) uppers.0) (same (offset bits Lower p) (offset bits Lower q) lowers.0) (same (offset bits Leaf p) (offset bits Leaf q) lowers.1)
  where
    both_equal : (o r : Ordering) → ordering_then o r ≡ Equal → (o ≡ Equal) × (r ≡ Equal)
    both_equal Less r e = cc
    both_equal Equal r e = (refl, e)
    both_equal Greater r e = cc
