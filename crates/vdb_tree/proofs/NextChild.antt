-- The next child of a node, in coordinates.
use Rattle.vdb_tree.proofs.Common.{◌≡◌, inl, inr, ℕ, ℤ, pos, ◌+◌, ◌*◌, ◌<◌, ◌≤◌, ◌^◌, ◌+ℤ◌, true, false, List, length, arith, ap, refl, sym, subst, ◌∙◌, Some, None, IsTrue, slice_index_or, get_or_default, get_or_past, ints, block_number, entries, node_bits, offset, number_at, Box, everywhere, is_inside, Bits, Coord, Level, Leaf, Lower, Upper, corner, corner_of_entry, upper_from_lower, entries_is, offset_below, HasChild, IsNextChildAt, entry_count, Entry, Child, Tile, node_at, Cell, Layout, lower_entry, background_cell, root_entry, upper_entry, in_leaf, is_child, IsFirstLeaf, IsFrom, IsNextLower}
use Rattle.std.proofs.Common.{◌/◌, ◌%◌, ◌*ℤ◌}
use Rattle.std.proofs.lemmas.Nat.{pow_pos}
use Rattle.vdb_coord.specs.Components.{digit, first_of}
use Rattle.vdb_coord.proofs.Digits.{digit_is, first_of_entry, number_zero}
use Rattle.vdb_coord.proofs.Division.{rest, rest_of}
use Rattle.vdb_coord.proofs.Positions.{entry_box, index_positions, joined, offset_is, sub_block_is}
use Rattle.vdb_node.specs.Entries.{IsNextChild}
use Rattle.vdb_coord.proofs.BlockOrder.{later_in_lower}
use Rattle.vdb_tree.proofs.Descents.{lower_node_entry, root_by_block, tile_lower, tile_upper, upper_by_block, upper_node_entry}
use Rattle.vdb_tree.proofs.Levels.{tile_no_child, tile_or_child}
use Rattle.vdb_tree.proofs.Seeking.{from_or_below}

-- ---- the first coordinate of a leaf

-- a multiple of 2 ^ b is the first number of its block
first_digit : (b : ℕ) (n : ℤ) → digit 0 b (first_of b n) ≡ 0
first_digit b n =
    digit_is 0 b (first_of b n) ∙ ap (rest (2 ^ b)) (number_zero (first_of b n) ∙ more (first_of b n)) ∙ rest_of (2 ^ b) n 0 (pow_pos b)
  where
    more : (x : ℤ) → x ≡ x +ℤ pos 0
    more x = grind (arith, ints)

-- the corner of an entry of a lower node is the first coordinate of a leaf extent
pub corner_first : (bits : Bits) (p : Coord) (i : ℕ) → i < entries bits Lower → offset bits Leaf (corner bits Lower p i) ≡ 0
corner_first bits p i small =
    let low = bits.leaf in
    let b = bits.lower in
    let n = 2 ^ b in
    let ps = index_positions bits Lower i small in
    let start : (x : ℤ) (d : ℕ) → d < n → digit 0 low (first_of (low + b) (number_at (low + b) x) +ℤ pos (d * 2 ^ low)) ≡ 0
    = λ x d h. ap (digit 0 low) (first_of_entry low b (number_at (low + b) x) d h) ∙ first_digit low (number_at (low + b) x *ℤ pos (2 ^ b) +ℤ pos d) in
    let at : corner bits Lower p i ≡ (entry_box low b p (i / n / n) (i / n % n) (i % n)).min = ap (λ (t : Box). t.min) (sub_block_is bits Lower p i) in
    ap (offset bits Leaf) at
    ∙ offset_is bits Leaf (entry_box low b p (i / n / n) (i / n % n) (i % n)).min
    ∙ joined_zeros (2 ^ low) _ _ _ (start p.x (i / n / n) ps.0) (start p.y (i / n % n) ps.1) (start p.z (i % n) ps.2)
  where
    joined_zeros : (m x y z : ℕ) → x ≡ 0 → y ≡ 0 → z ≡ 0 → joined m x y z ≡ 0
    joined_zeros m x y z ex ey ez =
        let row : x * m + y ≡ 0 = ap (λ t. t * m + y) ex ∙ omega (arith, ey) in
        ap (λ t. t * m + z) row ∙ omega (arith, ez)

-- ---- children

false_true : false ≡ true → ⊥
false_true e = cc

-- an entry that is a child for one default is a child for each
child_at_any : {V : Type 0} (xs : List (Entry V)) (i : ℕ) (c : Cell V) (s : ℕ) → slice_index_or xs i (Tile c) ≡ Child s → HasChild xs i
child_at_any xs i c s h =
    elim (from_or_below (length xs) i) [
      | inl past ↦ absurd (tile_no_child c s (sym (get_or_past xs i (Tile c) past) ∙ h))
      | inr within ↦ (s, λ d. get_or_default xs i d (Tile c) within ∙ h)
    ]

-- an entry that passes the test is a child
slot_of : {V : Type 0} (e : Entry V) → IsTrue (is_child e) → (s : ℕ) × (e ≡ Child s)
slot_of (Child s) h = (s, refl)
slot_of (Tile c) h = absurd (false_true h)

child_of : {V : Type 0} (e : Entry V) (s : ℕ) → e ≡ Child s → IsTrue (is_child e)
child_of e s h = rw h refl

-- the children of the entries of p's node of the level
module _ {V : Type 0} (bits : Bits) (level : Level) (f : Coord → Entry V) (p : Coord) (node : List (Entry V)) (tile : Cell V)
    (same : (q : Coord) → block_number bits level q ≡ block_number bits level p → f q ≡ slice_index_or node (offset bits level q) (Tile tile)) where
  has_child : (q : Coord) → block_number bits level q ≡ block_number bits level p → IsTrue (is_child (f q)) → HasChild node (offset bits level q)
  has_child q b h =
      let s = slot_of (f q) h in
      child_at_any node (offset bits level q) tile s.0 (sym (same q b) ∙ s.1)

  below_count : (q : Coord) → offset bits level q < entry_count (node_bits bits level)
  below_count q = subst (λ (n : ℕ). offset bits level q < n) (entries_is bits level) (offset_below bits level q)

  -- the next child lies over a coordinate, and each later one has no lower offset
  pub next_found : (from index : ℕ) → IsNextChildAt node (entry_count (node_bits bits level)) from index → (c : Coord) → c ≡ corner bits level p index
      → IsFrom bits level p from c × IsTrue (is_child (f c)) × ((q : Coord) → IsFrom bits level p from q → IsTrue (is_child (f q)) → offset bits level c ≤ offset bits level q)
  next_found from index next c e =
      let small : index < entries bits level = subst (λ (n : ℕ). index < n) (sym (entries_is bits level)) next.within in
      let at = corner_of_entry bits level p index small in
      let b : block_number bits level c ≡ block_number bits level p = ap (block_number bits level) e ∙ at.0 in
      let o : offset bits level c ≡ index = ap (offset bits level) e ∙ at.1 in (
        record { block = b; from_on = subst (λ (n : ℕ). from ≤ n) (sym o) next.from_on },
        child_of (f c) next.here.0 (same c b ∙ ap (λ (n : ℕ). slice_index_or node n (Tile tile)) o ∙ next.here.1 (Tile tile)),
        λ q h child. elim (from_or_below index (offset bits level q)) [
          | inl k ↦ subst (λ (n : ℕ). n ≤ offset bits level q) (sym o) k
          | inr k ↦ absurd (next.before (offset bits level q) h.from_on k (has_child q h.block child))
        ],
      )

  -- no child is left
  pub none_found : (from : ℕ) → IsNextChild node (entry_count (node_bits bits level)) from None → (q : Coord) → IsFrom bits level p from q → IsTrue (is_child (f q)) → ⊥
  none_found from next q h child = next (offset bits level q) h.from_on (below_count q) (has_child q h.block child)

module _ {V : Type 0} (bits : Bits) (t : Layout V) where
  -- a leaf lies below a lower node, and a lower node below an upper one
  pub leaf_below_lower : (q : Coord) → IsTrue (in_leaf bits t q) → IsTrue (is_child (upper_entry bits t q))
  leaf_below_lower q h =
      elim (tile_or_child (upper_entry bits t q)) [
        | inl e ↦ let l = tile_lower bits t e.0 q e.1 in absurd (false_true (rw l at h))
        | inr e ↦ child_of (upper_entry bits t q) e.0 e.1
      ]

  pub leaf_below_upper : (q : Coord) → IsTrue (in_leaf bits t q) → IsTrue (is_child (root_entry bits t q))
  leaf_below_upper q h =
      elim (tile_or_child (root_entry bits t q)) [
        | inl e ↦ let l = tile_upper bits t e.0 q e.1 in let k = leaf_below_lower q h in absurd (false_true (rw l at k))
        | inr e ↦ child_of (root_entry bits t q) e.0 e.1
      ]

  -- no leaf lies in a tile
  pub no_leaf_in_root_tile : (p : Coord) (c : Cell V) → root_entry bits t p ≡ Tile c → (q : Coord) → block_number bits Upper q ≡ block_number bits Upper p → IsTrue (in_leaf bits t q) → ⊥
  no_leaf_in_root_tile p c e q b h =
      let k = leaf_below_upper q h in
      let tile = root_by_block bits t q p b ∙ e in
      false_true (rw tile at k)

  pub no_leaf_in_upper_tile : (p : Coord) (c : Cell V) → upper_entry bits t p ≡ Tile c → (q : Coord) → block_number bits Lower q ≡ block_number bits Lower p → IsTrue (in_leaf bits t q) → ⊥
  no_leaf_in_upper_tile p c e q b h =
      let k = leaf_below_lower q h in
      let tile = upper_by_block bits t q p b ∙ e in
      false_true (rw tile at k)

  -- ---- answers of the calls

  -- the next lower node of an upper node
  pub next_lower_some : (p : Coord) (s from index : ℕ) (node : List (Entry V)) → root_entry bits t p ≡ Child s → node_at t.uppers s ≡ Some node
      → IsNextChildAt node (entry_count bits.upper) from index → (c : Coord) → IsTrue (is_inside everywhere c) → c ≡ corner bits Upper p index → IsNextLower bits t p from (Some c)
  next_lower_some p s from index node child was next c inside e =
      let found = next_found bits Upper (upper_entry bits t) p node (background_cell t) (upper_node_entry bits t p s node child was) from index next c e in
      (inside, found.0, found.2)

  pub next_lower_none : (p : Coord) (s from : ℕ) (node : List (Entry V)) → root_entry bits t p ≡ Child s → node_at t.uppers s ≡ Some node
      → IsNextChild node (entry_count bits.upper) from None → IsNextLower bits t p from None
  next_lower_none p s from node child was next = none_found bits Upper (upper_entry bits t) p node (background_cell t) (upper_node_entry bits t p s node child was) from next

  -- the next leaf of a lower node
  pub next_leaf_some : (p : Coord) (s from index : ℕ) (node : List (Entry V)) → upper_entry bits t p ≡ Child s → node_at t.lowers s ≡ Some node
      → IsNextChildAt node (entry_count bits.lower) from index → (c : Coord) → IsTrue (is_inside everywhere c) → c ≡ corner bits Lower p index → IsFirstLeaf bits t (IsFrom bits Lower p from) (Some c)
  next_leaf_some p s from index node child was next c inside e =
      let found = next_found bits Lower (lower_entry bits t) p node (background_cell t) (lower_node_entry bits t p s node child was) from index next c e in
      let small : index < entries bits Lower = subst (λ (n : ℕ). index < n) (sym (entries_is bits Lower)) next.within in
      let first : offset bits Leaf c ≡ 0 = ap (offset bits Leaf) e ∙ corner_first bits p index small in (
        record { inside = inside; first = first; leaf = found.1 },
        found.0,
        λ q corner h. later_in_lower bits c q (h.block ∙ sym found.0.block) first (found.2 q h corner.leaf),
      )

  pub next_leaf_none : (p : Coord) (s from : ℕ) (node : List (Entry V)) → upper_entry bits t p ≡ Child s → node_at t.lowers s ≡ Some node
      → IsNextChild node (entry_count bits.lower) from None → IsFirstLeaf bits t (IsFrom bits Lower p from) None
  next_leaf_none p s from node child was next =
      λ q corner h. none_found bits Lower (lower_entry bits t) p node (background_cell t) (lower_node_entry bits t p s node child was) from next q h corner.leaf

  -- no leaf is next in a tile
  pub no_leaf_root : (p : Coord) (from : ℕ) (c : Cell V) → root_entry bits t p ≡ Tile c → IsFirstLeaf bits t (IsFrom bits Lower p from) None
  no_leaf_root p from c e = λ q corner h. no_leaf_in_root_tile p c e q (upper_from_lower bits q p h.block) corner.leaf

  pub no_leaf_upper : (p : Coord) (from : ℕ) (c : Cell V) → upper_entry bits t p ≡ Tile c → IsFirstLeaf bits t (IsFrom bits Lower p from) None
  no_leaf_upper p from c e = λ q corner h. no_leaf_in_upper_tile p c e q h.block corner.leaf
