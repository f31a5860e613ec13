-- The entries of a node that aren't tiles of a cell, and blocks of one cell.
use Rattle.vdb_tree.proofs.Common.{◌≡◌, ◌⊎◌, inl, inr, ℕ, ◌+◌, ◌-◌, ◌<◌, ◌≤◌, Bool, true, false, List, arith, refl, sym, ap, subst, ◌∙◌, ◌^◌, IsTrue, ◌↔◌, Option, Some, None, slice_index_or, block_around, block_number, entries, node_bits, offset, AreBits, everywhere, is_inside, Bits, Coord, Level, block_in_range, corner, corner_of_entry, entries_is, offset_below, IsFirstWithout, IsTileOf, entry_count, Entry, Tile, Cell, IsConstantAt, IsConstantBlock, Layout, cell_at, field_of, is_constant}
use Rattle.vdb_node.specs.Entries.{IsFirstWithoutAt}
use Rattle.vdb_tree.specs.Unlike.{IsCellFrom, IsNextUnlike, IsNextUnlikeAt, IsOneCell}
use Rattle.vdb_tree.proofs.BlockTests.{IsConstantBelow}
use Rattle.vdb_tree.proofs.Blocks.{constant_from, non_constant_from, never}
use Rattle.vdb_tree.proofs.Fields.{cell_inside}

same_some : {A : Type 0} (x y : A) → ◌≡◌ {A = Option A} (Some x) (Some y) → x ≡ y
same_some x y e = cc

none_is_some : {A : Type 0} (x : A) → ◌≡◌ {A = Option A} None (Some x) → ⊥
none_is_some x e = cc

pub from_or_below : (a i : ℕ) → (a < i) ⊎ (i ≤ a)
from_or_below a i = grind arith

pub here_or_later : (a i : ℕ) → i ≤ a → a < i + 1 → a ≡ i
here_or_later a i h k = omega (arith, h, k)

module _ {V : Type 0} (bits : Bits) (t : Layout V) (level : Level) (p : Coord) (cell : Cell V) where
  -- what a node says about the tiles of a cell, its block says about the cell
  module _ (entry : Coord → Entry V) (tiled : (q : Coord) → entry q ≡ Tile cell → cell_at bits t q ≡ cell) (node : List (Entry V)) (x : Cell V)
      (by : (q : Coord) → block_number bits level q ≡ block_number bits level p → entry q ≡ slice_index_or node (offset bits level q) (Tile x)) where
    pub unlike_at : (from index : ℕ) → IsFirstWithoutAt (IsTileOf cell node) (entry_count (node_bits bits level)) from index → IsNextUnlikeAt bits (cell_at bits t) level p cell from index
    unlike_at from index next = record {
      within = rw (entries_is bits level) next.within;
      from_on = next.from_on;
      before = λ q b more less. tiled q (by q b ∙ next.before (offset bits level q) more less (Tile x));
    }

    pub unlike_none : (from : ℕ) → ((i : ℕ) → from ≤ i → i < entry_count (node_bits bits level) → IsTileOf cell node i) → IsCellFrom bits (cell_at bits t) level p cell from (entries bits level)
    unlike_none from none q b more less = tiled q (by q b ∙ none (offset bits level q) more (rw (← entries_is bits level) less) (Tile x))

    pub unlike : (from : ℕ) (o : Option ℕ) → IsFirstWithout (IsTileOf cell node) (entry_count (node_bits bits level)) from o → IsNextUnlike bits (cell_at bits t) level p cell from o
    unlike from (Some index) next = unlike_at from index next
    unlike from None none = unlike_none from none

  -- an entry of the cell extends the entries of the cell before it
  pub below_next : (from index : ℕ) → IsConstantBelow bits t level p cell from → IsNextUnlikeAt bits (cell_at bits t) level p cell from index → IsConstantAt bits level t p index cell → IsConstantBelow bits t level p cell (index + 1)
  below_next from index below next here q b h =
      elim (from_or_below (offset bits level q) from) [
        | inl k ↦ below q b k
        | inr k ↦ elim (from_or_below (offset bits level q) index) [
          | inl l ↦ next.before q b k l
          | inr l ↦ here q b (here_or_later (offset bits level q) index l h)
        ]
      ]

  -- if the entries up to the last have the cell, the block has it
  pub below_all : (from : ℕ) → IsConstantBelow bits t level p cell from → IsCellFrom bits (cell_at bits t) level p cell from (entries bits level) → IsConstantBlock bits level t p cell
  below_all from below rest q b =
      elim (from_or_below (offset bits level q) from) [
        | inl k ↦ below q b k
        | inr k ↦ rest q b k (offset_below bits level q)
      ]

-- the first coordinate of an entry lies in the node, at that entry
pub entry_at : (bits : Bits) (level : Level) (p c : Coord) (i : ℕ) (used : Bits) → c ≡ corner used level p i → used ≡ bits → i < entries bits level
    → (block_number bits level c ≡ block_number bits level p) × (offset bits level c ≡ i)
entry_at bits level p c i used is same small =
    let one : c ≡ corner bits level p i = is ∙ ap (λ (b : Bits). corner b level p i) same in
    let at = corner_of_entry bits level p i small in
    (ap (block_number bits level) one ∙ at.0, ap (offset bits level) one ∙ at.1)

-- the index after an entry's index is within the node, and fits 32 bits
pub index_after : (index n : ℕ) → index < n → index + 1 ≤ n
index_after index n h = omega (arith, h)

pub index_fits : (index n : ℕ) → index < n → n ≤ 32768 → index + 1 < 2 ^ 32
index_fits index n h k = omega (arith, h, k)

-- past an entry, fewer entries of the node are left
pub nearer : (from index n : ℕ) → from ≤ index → index < n → n - (index + 1) < n - from
nearer from index n h k = omega (arith, h, k)

pub least : (n : ℕ) → 0 ≤ n
least n = omega arith

-- ---- the one cell of a block

module _ {V : Type 0} (bits : Bits) (configured : AreBits bits) (level : Level) (t : Layout V) (p : Coord) (inside : IsTrue (is_inside everywhere p)) where
  cell_is : (q : Coord) → block_number bits level q ≡ block_number bits level p → (field_of bits t).cell q ≡ cell_at bits t q
  cell_is q b = cell_inside t.background (cell_at bits t) q (block_in_range bits level configured p q inside b)

  one_from : (c : Cell V) → IsConstantBlock bits level t p c → IsOneCell bits level (field_of bits t) p c
  one_from c h q within b = cell_is q b ∙ h q b

  block_from : (c : Cell V) → IsOneCell bits level (field_of bits t) p c → IsConstantBlock bits level t p c
  block_from c h q b = sym (cell_is q b) ∙ h q (block_in_range bits level configured p q inside b) b

  -- the field's entries are the tree's
  pub unlike_in_field : (cell : Cell V) (from : ℕ) (o : Option ℕ) → IsNextUnlike bits (cell_at bits t) level p cell from o → IsNextUnlike bits (field_of bits t).cell level p cell from o
  unlike_in_field cell from (Some index) next = record { within = next.within; from_on = next.from_on; before = λ q b more less. cell_is q b ∙ next.before q b more less }
  unlike_in_field cell from None none = λ q b more less. cell_is q b ∙ none q b more less

  -- a block of one cell has it at each entry
  pub unlike_in_tile : (cell : Cell V) (from : ℕ) → IsConstantBlock bits level t p cell → IsNextUnlike bits (field_of bits t).cell level p cell from None
  unlike_in_tile cell from h q b more less = cell_is q b ∙ h q b

  -- the cell at p is the only candidate for the one cell
  module _ (c : Cell V) (at : cell_at bits t p ≡ c) (same : Bool) (test : IsTrue same ↔ IsConstantBlock bits level t p c) where
    only : (d : Cell V) → IsOneCell bits level (field_of bits t) p d → c ≡ d
    only d h = sym at ∙ block_from d h p refl

    pub one_some : same ≡ true → (d : Cell V) → (◌≡◌ {A = Option (Cell V)} (Some c) (Some d)) ↔ IsOneCell bits level (field_of bits t) p d
    one_some h d = (
      (λ e. let s = same_some c d e in one_from d (subst (IsConstantBlock bits level t p) s (test.0 h))),
      (λ k. ap (λ (e : Cell V). Some e) (only d k)),
    )

    pub one_none : same ≡ false → (d : Cell V) → (◌≡◌ {A = Option (Cell V)} None (Some d)) ↔ IsOneCell bits level (field_of bits t) p d
    one_none h d = (
      (λ e. absurd (none_is_some d e)),
      (λ k. absurd (never h (test.1 (subst (IsConstantBlock bits level t p) (sym (only d k)) (block_from d k))))),
    )

    module _ (eq : V → V → Bool) (exact : (x y : V) → eq x y ≡ true → x ≡ y) (itself : (x : V) → eq x x ≡ true) where
      pub one_constant : same ≡ true → true ≡ is_constant eq (field_of bits t) (block_around bits level p)
      one_constant h = sym (constant_from eq exact itself bits configured level t p inside c (test.0 h))

      pub one_non_constant : same ≡ false → false ≡ is_constant eq (field_of bits t) (block_around bits level p)
      one_non_constant h = sym (non_constant_from eq exact itself bits configured level t p inside (λ d k.
          never h (test.1 (subst (IsConstantBlock bits level t p) (sym (sym at ∙ k p refl)) k))))
