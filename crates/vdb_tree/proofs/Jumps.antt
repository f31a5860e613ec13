-- The next start in a node: by its entries, and by the box alone.
use Rattle.vdb_tree.proofs.Common.{◌≡◌, ◌⊎◌, inl, inr, ℕ, ◌+◌, ◌<◌, ◌≤◌, true, false, List, arith, ap, refl, sym, subst, ◌∙◌, ◌&&◌, Option, Some, None, IsTrue, block_around, block_number, entries, node_bits, offset, sub_block, ComesBefore, IsFirstPast, IsNextCoord, IsUpToBlock, Box, is_box, is_inside, Bits, Coord, Level, Leaf, Lower, Upper, contiguous, from_lower, from_upper, not_before_min, not_both, not_itself, and_true, both, entry_holds, in_entry, leaf_from_lower, lower_from_leaf, lower_from_upper, offset_from_entry, upper_from_lower, entries_is, offset_below, min_inside, IsFirstWithout, IsInactiveTile, IsTileOf, entry_count, Entry, Child, Tile, node_at, Cell, IsJumpAt, IsLast, Layout, background_cell, root_entry, upper_entry, IsSkipped, Skip, Background, Inactive}
use Rattle.vdb_tree.specs.internal.Jumps.{ArePassed, IsJump, IsNextEntryAt, IsNextPartAt}
use Rattle.vdb_tree.specs.Parts.{IsNextAbove}
use Rattle.vdb_tree.proofs.Descents.{lower_node_entry, upper_node_entry}
use Rattle.vdb_tree.proofs.PartWalks.{background_skipped, inactive_skipped}

-- ---- entries

-- a node of the outer level has entries over the blocks of the other
record AreEntries (bits : Bits) (outer level : Level) : Type 0 where
  up : (q n : Coord) → block_number bits level q ≡ block_number bits level n → block_number bits outer q ≡ block_number bits outer n
  index : (q n : Coord) → block_number bits level q ≡ block_number bits level n → offset bits outer q ≡ offset bits outer n
  one : (q n : Coord) → block_number bits outer q ≡ block_number bits outer n → offset bits outer q ≡ offset bits outer n → block_number bits level q ≡ block_number bits level n
  ahead : (q n : Coord) → block_number bits outer q ≡ block_number bits outer n → offset bits outer q < offset bits outer n → ComesBefore bits q n

upper_entries : (bits : Bits) → AreEntries bits Upper Lower
upper_entries bits = record {
  up = upper_from_lower bits;
  index = offset_from_entry bits Upper;
  one = lower_from_upper bits;
  ahead = from_upper bits;
}

lower_entries : (bits : Bits) → AreEntries bits Lower Leaf
lower_entries bits = record {
  up = lower_from_leaf bits;
  index = offset_from_entry bits Lower;
  one = leaf_from_lower bits;
  ahead = λ q n e h. from_lower bits q n (upper_from_lower bits q n e) (offset_from_entry bits Upper q n e) h;
}

entries_of : (bits : Bits) (outer level : Level) → IsNextAbove outer level → AreEntries bits outer level
entries_of bits Upper Lower above = upper_entries bits
entries_of bits Lower Leaf above = lower_entries bits
entries_of bits Upper Upper above = absurd above
entries_of bits Upper Leaf above = absurd above
entries_of bits Lower Upper above = absurd above
entries_of bits Lower Lower above = absurd above
entries_of bits Leaf level above = none level above
  where
    none : {A : Type 0} (l : Level) → IsNextAbove Leaf l → A
    none Upper h = absurd h
    none Lower h = absurd h
    none Leaf h = absurd h

below_same_or_past : (m n : ℕ) → (m < n) ⊎ ((m ≡ n) ⊎ (n < m))
below_same_or_past m n = grind arith

-- ---- the next start

module _ {V : Type 0} (bits : Bits) (t : Layout V) (box : Box) (skip : Skip) (outer level : Level) (is : AreEntries bits outer level) (p : Coord) (here : IsTrue (is_inside box p)) where
  -- a coordinate of the node is up to the block around p, or in a later entry
  in_node : (q : Coord) → block_number bits outer q ≡ block_number bits outer p → IsUpToBlock bits level p q ⊎ (offset bits outer p < offset bits outer q)
  in_node q e = elim (below_same_or_past (offset bits outer q) (offset bits outer p)) [
    | inl a ↦ inl (inl (is.ahead q p e a))
    | inr r ↦ elim r [ inl s ↦ inl (inr (is.one q p e s)) | inr b ↦ inr b ]
  ]

  -- the next start, by an entry that the box meets
  jump_at : (index : ℕ) → IsNextEntryAt bits t skip outer p index → (n : Coord) → IsTrue (is_inside box n) → block_number bits outer n ≡ block_number bits outer p → offset bits outer n ≡ index
      → ((q : Coord) → IsTrue (is_inside box q) → block_number bits level q ≡ block_number bits level n → ComesBefore bits q n → ⊥) → IsJumpAt bits t skip box outer level p n
  jump_at index next n inside same at least = record {
    inside = inside;
    outer_block = same;
    past = λ q i e.
        let o : offset bits outer q ≡ offset bits outer p = is.index q p e in
        let h : offset bits outer p < index = next.past in
        is.ahead q n (is.up q p e ∙ sym same) (omega (arith, o, h, at));
    between = λ q i e b. elim (in_node q e) [
      | inl u ↦ inl u
      | inr later ↦ elim (below_same_or_past (offset bits outer q) index) [
        | inl low ↦ inr (next.between.passed q e later low)
        | inr r ↦ elim r [
          | inl s ↦ absurd (least q i (is.one q n (e ∙ sym same) (s ∙ sym at)) b)
          | inr high ↦ absurd (not_both bits q n b (is.ahead n q (same ∙ sym e) (subst (λ (k : ℕ). k < offset bits outer q) (sym at) high)))
        ]
      ]
    ];
    first = least;
  }

  -- no entry is left: the walk may pass over the rest
  jump_none : ArePassed bits t skip outer p (entries bits outer) → IsLast bits t skip box outer level p
  jump_none none = record {
    passed = λ q i e. elim (in_node q e) [ inl u ↦ inl u | inr later ↦ inr (none.passed q e later (offset_below bits outer q)) ];
  }

  -- the next start, by the box alone
  module _ (part : Box) (within : (q : Coord) → IsTrue (is_inside part q) → IsTrue (is_inside box q) × (block_number bits outer q ≡ block_number bits outer p))
      (all : (q : Coord) → IsTrue (is_inside box q) → block_number bits outer q ≡ block_number bits outer p → IsTrue (is_inside part q)) where
    first_within : (n : Coord) → IsFirstPast bits level part p n → (q : Coord) → IsTrue (is_inside box q) → block_number bits level q ≡ block_number bits level n → ComesBefore bits q n → ⊥
    first_within n found q i e b =
        let there : IsTrue (is_inside part p) = all p here refl in
        let again : block_number bits level n ≡ block_number bits level p → ⊥ = λ s. not_itself bits n (found.past n found.inside s) in
        elim (found.between q (all q i (is.up q n e ∙ (within n found.inside).1)) b) [
          | inl c ↦
              let next : ComesBefore bits p n = found.past p there refl in
              again (sym e ∙ sym (contiguous bits level q p n (not_both bits q p c) (not_both bits p n next) e))
          | inr s ↦ again (sym e ∙ s)
        ]

    jump_within : (found : Option Coord) → IsNextCoord bits level part p found → IsJump bits t skip box outer level p found
    jump_within None none = record { passed = λ q i e. inl (none q (all q i e)) }
    jump_within (Some n) found = record {
      inside = (within n found.inside).0;
      outer_block = (within n found.inside).1;
      past = λ q i e. found.past q (all q i (is.up q p e)) e;
      between = λ q i e b. inl (found.between q (all q i e) b);
      first = first_within n found;
    }

module _ {V : Type 0} (bits : Bits) (t : Layout V) (box : Box) (skip : Skip) (outer level : Level) (above : IsNextAbove outer level) (p : Coord) (here : IsTrue (is_inside box p)) where
  pub by_box : (part : Box) → ((q : Coord) → IsTrue (is_inside part q) → IsTrue (is_inside box q) × (block_number bits outer q ≡ block_number bits outer p))
      → ((q : Coord) → IsTrue (is_inside box q) → block_number bits outer q ≡ block_number bits outer p → IsTrue (is_inside part q))
      → (found : Option Coord) → IsNextCoord bits level part p found → IsJump bits t skip box outer level p found
  by_box part within all found next = jump_within bits t box skip outer level (entries_of bits outer level above) p here part within all found next

  pub none_left : ArePassed bits t skip outer p (entries bits outer) → IsLast bits t skip box outer level p
  none_left none = jump_none bits t box skip outer level (entries_of bits outer level above) p here none

  -- the least corner of the box in the next entry is a start
  by_entry : (index : ℕ) → IsNextEntryAt bits t skip outer p index → (part : Box)
      → ((q : Coord) → is_inside part q ≡ (is_inside box q && is_inside (sub_block bits outer (block_around bits outer p) index) q)) → is_box part ≡ true
      → IsJumpAt bits t skip box outer level p part.min
  by_entry index next part both_of boxed =
      let entry = sub_block bits outer (block_around bits outer p) index in
      let is = entries_of bits outer level above in
      let parts = both (is_inside box part.min) (is_inside entry part.min) (sym (both_of part.min) ∙ min_inside part boxed) in
      let at = in_entry bits outer p part.min index next.within parts.1 in
      jump_at bits t box skip outer level is p here index next part.min parts.0 at.0 at.1
      (λ q i e b.
      let there : is_inside entry q ≡ true = entry_holds bits outer p q index next.within (is.up q part.min e ∙ at.0) (is.index q part.min e ∙ at.1) in
      not_before_min bits part q (both_of q ∙ and_true (is_inside box q) (is_inside entry q) i there) b)

  pub by_part : (entry : Box) → IsNextPartAt bits t skip outer p entry → (part : Box) → ((q : Coord) → is_inside part q ≡ (is_inside box q && is_inside entry q)) → is_box part ≡ true
      → IsJumpAt bits t skip box outer level p part.min
  by_part entry next part both_of boxed =
      by_entry next.index next.entry part (subst (λ (e : Box). (q : Coord) → is_inside part q ≡ (is_inside box q && is_inside e q)) next.block both_of) boxed

-- ---- the next entry

abbrev IsNextEntry : {V : Type 0} → Bits → Layout V → Skip → Level → Coord → Option ℕ → Type 0
IsNextEntry bits t skip outer p None = ArePassed bits t skip outer p (entries bits outer)
IsNextEntry bits t skip outer p (Some index) = IsNextEntryAt bits t skip outer p index

module _ {V : Type 0} (bits : Bits) (t : Layout V) (skip : Skip) (outer : Level) (p : Coord) (Has : ℕ → Type 0)
    (skips : (q : Coord) → block_number bits outer q ≡ block_number bits outer p → Has (offset bits outer q) → IsSkipped bits skip t q) where
  next_entry : (from : ℕ) → from ≡ offset bits outer p + 1 → (found : Option ℕ) → IsFirstWithout Has (entry_count (node_bits bits outer)) from found → IsNextEntry bits t skip outer p found
  next_entry from e None h = record {
    passed = λ q b past within. skips q b (h (offset bits outer q) (omega (arith, e, past)) (subst (λ (n : ℕ). offset bits outer q < n) (entries_is bits outer) within));
  }
  next_entry from e (Some index) h = record {
    within = subst (λ (n : ℕ). index < n) (sym (entries_is bits outer)) h.within;
    past = let k : from ≤ index = h.from_on in omega (arith, e, k);
    between = record { passed = λ q b past low. skips q b (h.before (offset bits outer q) (omega (arith, e, past)) low) };
  }

module _ {V : Type 0} (bits : Bits) (t : Layout V) (p : Coord) (s : ℕ) (node : List (Entry V)) (from : ℕ) (found : Option ℕ) where
  -- the next entry of a lower node
  module _ (child : upper_entry bits t p ≡ Child s) (was : node_at t.lowers s ≡ Some node) (is : from ≡ offset bits Lower p + 1) where
    pub lower_unlike : (cell : Cell V) → cell ≡ background_cell t → IsFirstWithout (IsTileOf cell node) (entry_count bits.lower) from found → IsNextEntry bits t Background Lower p found
    lower_unlike cell same h = next_entry bits t Background Lower p (IsTileOf cell node)
        (λ q b tile. background_skipped bits t Leaf q cell (lower_node_entry bits t p s node child was q b ∙ tile (Tile (background_cell t))) same q refl) from is found h

    pub lower_active : IsFirstWithout (IsInactiveTile node) (entry_count bits.lower) from found → IsNextEntry bits t Inactive Lower p found
    lower_active h = next_entry bits t Inactive Lower p (IsInactiveTile node)
        (λ q b tile. inactive_skipped bits t Leaf q (record { value = tile.0; on = false }) (lower_node_entry bits t p s node child was q b ∙ tile.1 (Tile (background_cell t))) refl q refl) from is found h

  -- the next entry of an upper node
  module _ (child : root_entry bits t p ≡ Child s) (was : node_at t.uppers s ≡ Some node) (is : from ≡ offset bits Upper p + 1) where
    pub upper_unlike : (cell : Cell V) → cell ≡ background_cell t → IsFirstWithout (IsTileOf cell node) (entry_count bits.upper) from found → IsNextEntry bits t Background Upper p found
    upper_unlike cell same h = next_entry bits t Background Upper p (IsTileOf cell node)
        (λ q b tile. background_skipped bits t Lower q cell (upper_node_entry bits t p s node child was q b ∙ tile (Tile (background_cell t))) same q refl) from is found h

    pub upper_active : IsFirstWithout (IsInactiveTile node) (entry_count bits.upper) from found → IsNextEntry bits t Inactive Upper p found
    upper_active h = next_entry bits t Inactive Upper p (IsInactiveTile node)
        (λ q b tile. inactive_skipped bits t Lower q (record { value = tile.0; on = false }) (upper_node_entry bits t p s node child was q b ∙ tile.1 (Tile (background_cell t))) refl q refl) from is found h

-- the block of an entry, with the tree's bits
pub part_at : {V : Type 0} (bits : Bits) (t : Layout V) (skip : Skip) (outer : Level) (p : Coord) (index : ℕ) → IsNextEntryAt bits t skip outer p index → (same_bits : Bits) → same_bits ≡ bits
    → (part : Box) → part ≡ sub_block same_bits outer (block_around same_bits outer p) index → IsNextPartAt bits t skip outer p part
part_at bits t skip outer p index entry same_bits same part is = record {
  index = index;
  entry = entry;
  block = is ∙ ap (λ (b : Bits). sub_block b outer (block_around b outer p) index) same;
}
