-- What follows a coordinate in block order, within one node.
use Rattle.vdb_walk.proofs.Common.{◌≡◌, ◌⊎◌, inl, inr, sym, ap, ◌∙◌, refl, subst, ℕ, ℤ, ◌≤ℤ◌, ◌<ℤ◌, true, arith, IfSome, IsTrue, None, Option, Some, ints, block_around, block_bits, block_number, first_of, last_of, number_at, ComesBefore, IsNextCoord, IsUpToBlock, Box, coord, everywhere, is_inside, is_within, IsBefore, IsBlockBefore, Bits, Coord, Level, Leaf, Lower, Upper, contiguous, not_both, both, begins_by, le_from_test, test_from_le, within_each, inside_around, inside_numbered, lower_from_leaf, number_in_block, upper_from_lower, inside_from, inside_parts, IsCoveredUpTo, node_of}
use Rattle.vdb_coord.proofs.BlockOrder.{before_not_same, by_leaf, by_lower, by_upper}
use Rattle.vdb_coord.proofs.Meeting.{ends_by}
use Rattle.vdb_walk.specs.internal.Covered.{IsCoveredTo}

-- ---- numbers

which_less : (x y : ℤ) → (x <ℤ y) ⊎ (y ≤ℤ x)
which_less x y = grind (arith, ints)

from_not : (x y : ℤ) → (x <ℤ y → ⊥) → y ≤ℤ x
from_not x y h = elim (which_less x y) [ inl a ↦ absurd (h a) | inr b ↦ b ]

both_ways : (x y : ℤ) → x ≤ℤ y → y ≤ℤ x → x ≡ y
both_ways x y h k = omega (arith, ints, h, k)

through : (x y z : ℤ) → x ≤ℤ y → y ≤ℤ z → x ≤ℤ z
through x y z h k = omega (arith, ints, h, k)

-- n comes neither before m nor past l
module _ (m n l : Coord) (from : IsBefore n m → ⊥) (to : IsBefore l n → ⊥) (x : l.x ≡ m.x) where
  same_x : n.x ≡ m.x
  same_x = both_ways n.x m.x (subst (λ (t : ℤ). n.x ≤ℤ t) x (from_not l.x n.x (λ h. to (inl h)))) (from_not n.x m.x (λ h. from (inl h)))

-- x lies past the first number of a block if its block does, and before the last one likewise
from_first : (k : ℕ) (low n x : ℤ) → low ≤ℤ first_of k n → n ≤ℤ number_at k x → low ≤ℤ x
from_first k low n x h at = through low (first_of k n) x h (le_from_test (first_of k n) x (begins_by k n x ∙ test_from_le n (number_at k x) at))

to_last : (k : ℕ) (high n x : ℤ) → last_of k n ≤ℤ high → number_at k x ≤ℤ n → x ≤ℤ high
to_last k high n x h at = through x (last_of k n) high (le_from_test x (last_of k n) (ends_by k n x ∙ test_from_le (number_at k x) n at)) h

same_le : (x y : ℤ) → x ≡ y → (x ≤ℤ y) × (y ≤ℤ x)
same_le x y e = (omega (arith, ints, e), omega (arith, ints, e))

-- x lies within a block's numbers if the block is its own
within_own : (k : ℕ) (low high n x : ℤ) → low ≤ℤ first_of k n → last_of k n ≤ℤ high → number_at k x ≡ n → (low ≤ℤ x) × (x ≤ℤ high)
within_own k low high n x a b e = let s = same_le (number_at k x) n e in (from_first k low n x a s.1, to_last k high n x b s.0)

module _ (bits : Bits) where
  -- ---- in one node

  node_holds : (level : Level) (p : Coord) → is_inside everywhere p ≡ true → is_inside (node_of bits level p) p ≡ true
  node_holds Leaf p i = inside_around bits Lower p
  node_holds Lower p i = inside_around bits Upper p
  node_holds Upper p i = i

  -- in a node, blocks come one before another by their numbers
  ahead : (level : Level) (p r s : Coord) → is_inside (node_of bits level p) r ≡ true → is_inside (node_of bits level p) s ≡ true → IsBlockBefore bits level r s → ComesBefore bits r s
  ahead Leaf p r s i j b = by_leaf bits r s (number_in_block bits Lower (block_number bits Lower p) r i ∙ sym (number_in_block bits Lower (block_number bits Lower p) s j)) b
  ahead Lower p r s i j b = by_lower bits r s (number_in_block bits Upper (block_number bits Upper p) r i ∙ sym (number_in_block bits Upper (block_number bits Upper p) s j)) b
  ahead Upper p r s i j b = by_upper bits r s b

  -- what lies between two coordinates of a block lies in it
  in_outer : (outer : Level) (p last q : Coord) → (ComesBefore bits q p → ⊥) → is_inside (block_around bits outer p) last ≡ true → ComesBefore bits q last ⊎ (block_number bits outer q ≡ block_number bits outer last)
      → is_inside (block_around bits outer p) q ≡ true
  in_outer outer p last q from i up =
      let same = number_in_block bits outer (block_number bits outer p) last i in
      inside_numbered bits outer (block_number bits outer p) q (elim up [
        | inl before ↦ contiguous bits outer p q last from (λ back. not_both bits q last before back) (sym same)
        | inr e ↦ e ∙ same
      ])

  in_node : (level : Level) (p last q : Coord) → is_inside everywhere q ≡ true → (ComesBefore bits q p → ⊥) → is_inside (node_of bits level p) last ≡ true → IsUpToBlock bits level last q → is_inside (node_of bits level p) q ≡ true
  in_node Leaf p last q e from i up = in_outer Lower p last q from i (elim up [ inl b ↦ inl b | inr s ↦ inr (lower_from_leaf bits q last s) ])
  in_node Lower p last q e from i up = in_outer Upper p last q from i (elim up [ inl b ↦ inl b | inr s ↦ inr (upper_from_lower bits q last s) ])
  in_node Upper p last q e from i up = e

  -- ---- a run of blocks from p's on, which a box holds

  module _ (level : Level) (p : Coord) (inside : is_inside everywhere p ≡ true) (box : Box) (held : is_within (block_around bits level p) box ≡ true) where
    abbrev k : ℕ
    k = block_bits bits level

    abbrev block : Box
    block = block_around bits level p

    abbrev node : Box
    node = node_of bits level p

    least : is_inside box block.min ≡ true
    least = (both (is_inside box block.min) (is_inside box block.max) held).0

    most : is_inside box block.max ≡ true
    most = (both (is_inside box block.min) (is_inside box block.max) held).1

    -- p's own block
    pub block_covered : (last : Coord) → is_inside block last ≡ true → IsCoveredUpTo bits box level p last
    block_covered last own = λ q there from up. within_each block box q held (in_outer level p last q from own up)

    module _ (last q : Coord) (x : last.x ≡ p.x) (in_last : is_inside node last ≡ true) (there : is_inside everywhere q ≡ true) (from : ComesBefore bits q p → ⊥) (up : IsUpToBlock bits level last q) where
      own_node : is_inside node q ≡ true
      own_node = in_node level p last q there from in_last up

      abbrev n : Coord → Coord
      n r = block_number bits level r

      not_earlier : IsBefore (n q) (n p) → ⊥
      not_earlier b = from (ahead level p q p own_node (node_holds level p inside) b)

      not_later : IsBefore (n last) (n q) → ⊥
      not_later b = elim up [
        | inl before ↦ not_both bits q last before (ahead level p last q in_last own_node b)
        | inr e ↦ before_not_same (n last) (n q) b (sym e)
      ]

      along_x : (box.min.x ≤ℤ q.x) × (q.x ≤ℤ box.max.x)
      along_x = within_own k box.min.x box.max.x (n p).x q.x (inside_parts box block.min least).0.0 (inside_parts box block.max most).0.1 (same_x (n p) (n q) (n last) not_earlier not_later (ap (number_at k) x))

    -- the rest of the node's layer
    pub layer_covered : is_inside box (coord p.x node.min.y node.min.z) ≡ true → is_inside box (coord p.x node.max.y node.max.z) ≡ true → IsCoveredUpTo bits box level p (coord p.x node.max.y node.max.z)
    layer_covered first end = λ q there from up.
        let last : Coord = coord p.x node.max.y node.max.z in
        let low = inside_parts box (coord p.x node.min.y node.min.z) first in
        let high = inside_parts box last end in
        let own = inside_parts node p (node_holds level p inside) in
        let in_last : is_inside node last ≡ true =
        inside_from node last own.0.0 own.0.1 (through node.min.y p.y node.max.y own.1.0 own.1.1) (same_le node.max.y node.max.y refl).0 (through node.min.z p.z node.max.z own.2.0 own.2.1) (same_le node.max.z node.max.z refl).0 in
        let at = inside_parts node q (own_node last q refl in_last there from up) in
        let x = along_x last q refl in_last there from up in
        inside_from box q x.0 x.1 (through box.min.y node.min.y q.y low.1.0 at.1.0) (through q.y node.max.y box.max.y at.1.1 high.1.1) (through box.min.z node.min.z q.z low.2.0 at.2.0) (through q.z node.max.z box.max.z at.2.1 high.2.1)

  -- the corner of a layer lies everywhere if p and the node's corner do
  pub layer_inside : (p corner last : Coord) → is_inside everywhere p ≡ true → is_inside everywhere corner ≡ true → last ≡ coord p.x corner.y corner.z → is_inside everywhere last ≡ true
  layer_inside p corner last i j e =
      let a = inside_parts everywhere p i in
      let b = inside_parts everywhere corner j in
      subst (λ (t : Coord). is_inside everywhere t ≡ true) (sym e) (inside_from everywhere (coord p.x corner.y corner.z) a.0.0 a.0.1 b.1.0 b.1.1 b.2.0 b.2.1)

  -- ---- what comes past a run

  module _ (level : Level) (box : Box) (p last : Coord) where
    -- the box holds everything before the first coordinate past the run
    pub covered_next : IsCoveredUpTo bits box level p last → (next : Option Coord) → IsNextCoord bits level everywhere last next → IfSome next (IsCoveredTo bits box p)
    covered_next up None n = tt
    covered_next up (Some next) n = λ q there from before. up q there from (n.between q there before)

  pub next_inside : (level : Level) (last : Coord) (next : Option Coord) → IsNextCoord bits level everywhere last next → IfSome next (λ q. IsTrue (is_inside everywhere q))
  next_inside level last None n = tt
  next_inside level last (Some next) n = n.inside
