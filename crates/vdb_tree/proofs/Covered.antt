-- Blocks that lie within a box.
use Rattle.vdb_tree.proofs.Common.{◌≡◌, ◌∙◌, ap, ℕ, ℤ, true, sym, subst, IsTrue, block, block_around, block_bits, block_number, Box, is_inside, is_within, Bits, Coord, Level, Leaf, Lower, Upper, and_true, both, number_of_corner, within_each, inside_numbered, lower_from_leaf, upper_from_lower, IsCovered}
use Rattle.vdb_coord.proofs.Boxes.{le_through, three, together}
use Rattle.vdb_coord.proofs.Meeting.{begins_by, ends_by, number_le, number_of_last}
use Rattle.std.specs.Prelude.{int_le}
use Rattle.vdb_coord.specs.Space.{is_between}
use Rattle.vdb_coord.specs.Components.{first_of, last_of, number_at}

-- the last coordinate of a block has the block's number
number_of_end : (bits : Bits) (level : Level) (n : Coord) → block_number bits level (block bits level n).max ≡ n
number_of_end bits level n =
    let k = block_bits bits level in
    let x = number_of_last k n.x in
    let y = number_of_last k n.y in
    let z = number_of_last k n.z in
    λ i. record { x = x i; y = y i; z = z i }

-- along an axis: a number of the same block as p isn't below the minimum, if p isn't and the minimum begins a block; and so for the maximum
not_below : (k : ℕ) (least p x : ℤ) → int_le least (first_of k (number_at k least)) ≡ true → int_le least p ≡ true → number_at k x ≡ number_at k p → int_le least x ≡ true
not_below k least p x begins above same =
    le_through least (first_of k (number_at k least)) x begins
    (begins_by k (number_at k least) x ∙ subst (λ (n : ℤ). int_le (number_at k least) n ≡ true) (sym same) (number_le k least p above))

not_above : (k : ℕ) (greatest p x : ℤ) → int_le (last_of k (number_at k greatest)) greatest ≡ true → int_le p greatest ≡ true → number_at k x ≡ number_at k p → int_le x greatest ≡ true
not_above k greatest p x ends below same =
    le_through x (last_of k (number_at k greatest)) greatest
    (ends_by k (number_at k greatest) x ∙ subst (λ (n : ℤ). int_le n (number_at k greatest) ≡ true) (sym same) (number_le k p greatest below)) ends

between_ends : (k : ℕ) (least greatest p x : ℤ) → is_between least greatest (first_of k (number_at k least)) ≡ true → is_between least greatest (last_of k (number_at k greatest)) ≡ true
    → is_between least greatest p ≡ true → number_at k x ≡ number_at k p → is_between least greatest x ≡ true
between_ends k least greatest p x begins ends inside same =
    let low = both (int_le least (first_of k (number_at k least))) (int_le (first_of k (number_at k least)) greatest) begins in
    let high = both (int_le least (last_of k (number_at k greatest))) (int_le (last_of k (number_at k greatest)) greatest) ends in
    let at = both (int_le least p) (int_le p greatest) inside in
    and_true (int_le least x) (int_le x greatest) (not_below k least p x low.0 at.0 same) (not_above k greatest p x high.1 at.1 same)

module _ (bits : Bits) (box : Box) where
  -- a covered block is covered around each of its coordinates
  pub covered_by_block : (level : Level) (p q : Coord) → block_number bits level q ≡ block_number bits level p → IsCovered bits box level p → IsCovered bits box level q
  covered_by_block level p q same h = subst (λ (n : Coord). IsTrue (is_within (block bits level n) box)) (sym same) h

  -- the box holds each coordinate of a block within it
  pub covered_inside : (level : Level) (p q : Coord) → IsCovered bits box level p → block_number bits level q ≡ block_number bits level p → IsTrue (is_inside box q)
  covered_inside level p q covered same = within_each (block_around bits level p) box q covered (inside_numbered bits level (block_number bits level p) q same)

  -- a block is covered if the box holds each of its coordinates
  pub covered_from : (level : Level) (p : Coord) → ((q : Coord) → block_number bits level q ≡ block_number bits level p → IsTrue (is_inside box q)) → IsCovered bits box level p
  covered_from level p all =
      let b = block_around bits level p in
      let n = block_number bits level p in
      and_true (is_inside box b.min) (is_inside box b.max) (all b.min (number_of_corner bits level n)) (all b.max (number_of_end bits level n))

  -- an inner block of a covered block is covered
  covered_below : (outer inner : Level) → ((q r : Coord) → block_number bits inner q ≡ block_number bits inner r → block_number bits outer q ≡ block_number bits outer r)
      → (p : Coord) → IsCovered bits box outer p → IsCovered bits box inner p
  covered_below outer inner up p covered = covered_from inner p (λ q same. covered_inside outer p q covered (up q p same))

  pub leaf_covered : (p : Coord) → IsCovered bits box Lower p → IsCovered bits box Leaf p
  leaf_covered = covered_below Lower Leaf (lower_from_leaf bits)

  pub lower_covered : (p : Coord) → IsCovered bits box Upper p → IsCovered bits box Lower p
  lower_covered = covered_below Upper Lower (upper_from_lower bits)

  -- if the blocks of both corners are covered, so is each block that meets the box
  pub covered_between : (level : Level) (p : Coord) → IsCovered bits box level box.min → IsCovered bits box level box.max → IsTrue (is_inside box p) → IsCovered bits box level p
  covered_between level p low high inside = covered_from level p (λ q same.
      let k = block_bits bits level in
      let least = both (is_inside box (block_around bits level box.min).min) (is_inside box (block_around bits level box.min).max) low in
      let greatest = both (is_inside box (block_around bits level box.max).min) (is_inside box (block_around bits level box.max).max) high in
      let each : (q : Coord) → is_inside box q ≡ true → (is_between box.min.x box.max.x q.x ≡ true) × (is_between box.min.y box.max.y q.y ≡ true) × (is_between box.min.z box.max.z q.z ≡ true) = λ q h. three (is_between box.min.x box.max.x q.x) (is_between box.min.y box.max.y q.y) (is_between box.min.z box.max.z q.z) h in
      let begins = each (block_around bits level box.min).min least.0 in
      let ends = each (block_around bits level box.max).max greatest.1 in
      let at = each p inside in
      let number : (q r : Coord) → block_number bits level q ≡ block_number bits level r → (number_at k q.x ≡ number_at k r.x) × (number_at k q.y ≡ number_at k r.y) × (number_at k q.z ≡ number_at k r.z) = λ q r e. (ap (λ (n : Coord). n.x) e, ap (λ (n : Coord). n.y) e, ap (λ (n : Coord). n.z) e) in
      let e = number q p same in
      together (is_between box.min.x box.max.x q.x) (is_between box.min.y box.max.y q.y) (is_between box.min.z box.max.z q.z)
      (between_ends k box.min.x box.max.x p.x q.x begins.0 ends.0 at.0 e.0) (between_ends k box.min.y box.max.y p.y q.y begins.1 ends.1 at.1 e.1) (between_ends k box.min.z box.max.z p.z q.z begins.2 ends.2 at.2 e.2))
