-- The next coordinate of a box in block order.
use Rattle.vdb_coord.proofs.Common.{◌≡◌, ◌⊎◌, inl, inr, ℤ, ◌<◌, ◌≤ℤ◌, true, ◌&&◌, arith, refl, sym, ◌∙◌, Some, None, IsTrue, IfSome, int_max, ints, block_around, block_number, ComesBefore, IsFirstInBlock, coordinates_past, Box, coord, everywhere, is_inside, IsBlockBefore, IsNextBlock, Bits, Coord, Level, Leaf, Lower, Upper}
use Rattle.std.specs.Prelude.{Option}
use Rattle.vdb_coord.specs.Order.{IsFirstPast, IsNextCoord, IsUpToBlock}
use Rattle.vdb_coord.proofs.BlockOrder.{AreAll, AreNone, InLower, InUpper, IsLowerEarlier, IsNested, before_not_past, before_not_same, fewer_past, first_or_same, leaf_nested, lower_nested, moved_before, moved_past, not_both, not_same, upper_nested, which_before}
use Rattle.vdb_coord.proofs.Boxes.{and_true, both}
use Rattle.vdb_coord.proofs.Nesting.{inside_around, inside_numbered, lower_from_leaf, number_in_block, upper_from_lower}
use Rattle.vdb_coord.proofs.Walk.{inside_from, inside_parts}

-- ---- the next block's first coordinate

module _ (bits : Bits) (level : Level) (Shares Earlier : Coord → Coord → Type 0) (nested : IsNested bits level Shares Earlier) where
  module _ (box part : Box) (p : Coord) (each : (q : Coord) → is_inside box q ≡ true → Shares q p → is_inside part q ≡ true) where
    -- the first coordinate of the next block in the part
    found_coord : (next first : Coord) → Shares next p → IsNextBlock bits level part p (Some next) → IsFirstInBlock bits level box next first → IsFirstPast bits level box p first
    found_coord next first shared found least =
        let n : Coord → Coord = block_number bits level in
        let p_first : Shares p first = nested.turn first p (nested.join first next p (nested.from_block first next least.same) shared) in
        let later : IsBlockBefore bits level p first = moved_past bits level p next first found.1 (sym least.same) in
        record {
          inside = least.inside;
          past = λ q i e. nested.within q first (nested.join q p first (nested.from_block q p e) p_first) (moved_before bits level p first q later (sym e));
          between = λ q i c. elim (nested.ways q p) [
            | inl a ↦ inl (nested.ahead q p a)
            | inr w ↦ elim w [
              | inr b ↦ absurd (not_both bits q first c (nested.ahead first q (nested.moved p q first b p_first)))
              | inl s ↦ elim (which_before (n q) (n p)) [
                | inl a ↦ inl (nested.within q p s a)
                | inr v ↦ elim v [
                  | inl e ↦ inr e
                  | inr b ↦ absurd (elim (which_before (n q) (n next)) [
                    | inl a ↦ elim (found.2 q (each q i s) a) [ inl d ↦ before_not_past (n p) (n q) b d | inr e ↦ before_not_same (n p) (n q) b (sym e) ]
                    | inr u ↦ elim u [
                      | inl e ↦ elim (least.least q i e) [ inl d ↦ not_both bits q first c d | inr f ↦ not_same bits q first c (sym f) ]
                      | inr a ↦ not_both bits q first c (nested.within first q (nested.turn q first (nested.join q p first s p_first)) (moved_before bits level next q first a (sym least.same)))
                    ]
                  ])
                ]
              ]
            ]
          ];
        }

    -- if the part has no further block, what comes up to its end comes up to the block
    narrowed : IsNextBlock bits level part p None → (q : Coord) → is_inside box q ≡ true → ComesBefore bits q p ⊎ Shares q p → IsUpToBlock bits level p q
    narrowed none q i h =
        elim h [
          | inl a ↦ inl a
          | inr s ↦ elim (none q (each q i s)) [ inl b ↦ inl (nested.within q p s b) | inr e ↦ inr e ]
        ]

-- ---- what a box has of a block

-- the part has what the box has of the block around p
abbrev pub IsPart : Bits → Level → Box → Coord → Box → Type 0
IsPart bits level box p part = (q : Coord) → is_inside part q ≡ (is_inside box q && is_inside (block_around bits level p) q)

module _ (bits : Bits) (level : Level) (box : Box) (p : Coord) (part : Box) (parts : IsPart bits level box p part) where
  pub in_part : (q : Coord) → is_inside box q ≡ true → block_number bits level q ≡ block_number bits level p → is_inside part q ≡ true
  in_part q i e = parts q ∙ and_true _ _ i (inside_numbered bits level (block_number bits level p) q e)

  pub part_inside : (q : Coord) → is_inside part q ≡ true → is_inside box q ≡ true
  part_inside q i = (both (is_inside box q) (is_inside (block_around bits level p) q) (sym (parts q) ∙ i)).0

  pub part_same : (q : Coord) → is_inside part q ≡ true → block_number bits level q ≡ block_number bits level p
  part_same q i = number_in_block bits level (block_number bits level p) q (both (is_inside box q) (is_inside (block_around bits level p) q) (sym (parts q) ∙ i)).1

module _ (bits : Bits) (box part : Box) (p : Coord) where
  -- past a leaf extent, in the lower extent around it
  pub leaf_found : IsPart bits Lower box p part → (next first : Coord) → IsNextBlock bits Leaf part p (Some next) → IsFirstInBlock bits Leaf box next first → IsNextCoord bits Leaf box p (Some first)
  leaf_found parts next first found least =
      found_coord bits Leaf (InLower bits) (IsLowerEarlier bits) (leaf_nested bits) box part p (in_part bits Lower box p part parts) next first (part_same bits Lower box p part parts next found.0) found least

  -- past the lower extent around a leaf extent, if that has no further coordinate
  pub leaf_none : IsPart bits Lower box p part → IsNextBlock bits Leaf part p None → (found : Option Coord) → IsNextCoord bits Lower box p found → IsNextCoord bits Leaf box p found
  leaf_none parts none found h = by found h
    where
      narrow : (q : Coord) → is_inside box q ≡ true → IsUpToBlock bits Lower p q → IsUpToBlock bits Leaf p q
      narrow q i u = narrowed bits Leaf (InLower bits) (IsLowerEarlier bits) (leaf_nested bits) box part p (in_part bits Lower box p part parts) none q i u

      by : (found : Option Coord) → IsNextCoord bits Lower box p found → IsNextCoord bits Leaf box p found
      by None h = λ q i. narrow q i (h q i)
      by (Some next) h = record { inside = h.inside; past = λ q i e. h.past q i (lower_from_leaf bits q p e); between = λ q i c. narrow q i (h.between q i c) }

  -- past a lower extent, in the upper extent around it
  pub lower_found : IsPart bits Upper box p part → (next first : Coord) → IsNextBlock bits Lower part p (Some next) → IsFirstInBlock bits Lower box next first → IsNextCoord bits Lower box p (Some first)
  lower_found parts next first found least =
      found_coord bits Lower (InUpper bits) (IsBlockBefore bits Upper) (lower_nested bits) box part p (in_part bits Upper box p part parts) next first (part_same bits Upper box p part parts next found.0) found least

  -- past the upper extent around a lower extent
  pub lower_none : IsPart bits Upper box p part → IsNextBlock bits Lower part p None → (found : Option Coord) → IsNextCoord bits Upper box p found → IsNextCoord bits Lower box p found
  lower_none parts none found h = by found h
    where
      narrow : (q : Coord) → is_inside box q ≡ true → IsUpToBlock bits Upper p q → IsUpToBlock bits Lower p q
      narrow q i u = narrowed bits Lower (InUpper bits) (IsBlockBefore bits Upper) (lower_nested bits) box part p (in_part bits Upper box p part parts) none q i u

      by : (found : Option Coord) → IsNextCoord bits Upper box p found → IsNextCoord bits Lower box p found
      by None h = λ q i. narrow q i (h q i)
      by (Some next) h = record { inside = h.inside; past = λ q i e. h.past q i (upper_from_lower bits q p e); between = λ q i c. narrow q i (h.between q i c) }

module _ (bits : Bits) (box : Box) (p : Coord) where
  -- past an upper extent
  pub upper_found : (next first : Coord) → IsNextBlock bits Upper box p (Some next) → IsFirstInBlock bits Upper box next first → IsNextCoord bits Upper box p (Some first)
  upper_found next first found least = found_coord bits Upper (AreAll bits) (AreNone bits) (upper_nested bits) box box p (λ q i s. i) next first tt found least

  pub upper_none : IsNextBlock bits Upper box p None → IsNextCoord bits Upper box p None
  upper_none none = λ q i. narrowed bits Upper (AreAll bits) (AreNone bits) (upper_nested bits) box box p (λ q i s. i) none q i (inr tt)

-- ---- the first coordinate of a block

left_up_to : (a b : ℤ) → a ≤ℤ int_max a b
left_up_to a b = grind (arith, ints)

right_up_to : (a b : ℤ) → b ≤ℤ int_max a b
right_up_to a b = grind (arith, ints)

up_to_both : (a b x : ℤ) → a ≤ℤ x → b ≤ℤ x → int_max a b ≤ℤ x
up_to_both a b x h k = grind (arith, ints)

le_through : (x y z : ℤ) → x ≤ℤ y → y ≤ℤ z → x ≤ℤ z
le_through x y z h k = omega (arith, ints, h, k)

-- the least corner of what two boxes have in common
abbrev pub corner : Box → Box → Coord
corner a b = coord (int_max a.min.x b.min.x) (int_max a.min.y b.min.y) (int_max a.min.z b.min.z)

corner_inside : (a b : Box) (p : Coord) → is_inside a p ≡ true → is_inside b p ≡ true → (is_inside a (corner a b) ≡ true) × (is_inside b (corner a b) ≡ true)
corner_inside a b p h k =
    let u = inside_parts a p h in
    let v = inside_parts b p k in
    let x = up_to_both a.min.x b.min.x p.x u.0.0 v.0.0 in
    let y = up_to_both a.min.y b.min.y p.y u.1.0 v.1.0 in
    let z = up_to_both a.min.z b.min.z p.z u.2.0 v.2.0 in (
      inside_from a (corner a b) (left_up_to _ _) (le_through _ _ _ x u.0.1) (left_up_to _ _) (le_through _ _ _ y u.1.1) (left_up_to _ _) (le_through _ _ _ z u.2.1),
      inside_from b (corner a b) (right_up_to _ _) (le_through _ _ _ x v.0.1) (right_up_to _ _) (le_through _ _ _ y v.1.1) (right_up_to _ _) (le_through _ _ _ z v.2.1),
    )

-- the least corner is the first coordinate of what the box has of a block
pub first_at_corner : (bits : Bits) (level : Level) (box : Box) (p : Coord) → is_inside box p ≡ true → IsFirstInBlock bits level box p (corner box (block_around bits level p))
first_at_corner bits level box p i =
    let around = block_around bits level p in
    let both = corner_inside box around p i (inside_around bits level p) in
    record {
      inside = both.0;
      same = number_in_block bits level (block_number bits level p) (corner box around) both.1;
      least = λ q j e.
          let u = inside_parts box q j in
          let v = inside_parts around q (inside_numbered bits level (block_number bits level p) q e) in
          first_or_same bits (corner box around) q (up_to_both _ _ _ u.0.0 v.0.0) (up_to_both _ _ _ u.1.0 v.1.0) (up_to_both _ _ _ u.2.0 v.2.0);
    }

-- ---- fewer coordinates come past the next coordinate

module _ (bits : Bits) where
  -- fewer coordinates come past the next coordinate
  pub nearer_coord : (level : Level) (box : Box) (p : Coord) → is_inside box p ≡ true → (found : Option Coord) → IfSome found (λ next. IsTrue (is_inside everywhere next)) → IsNextCoord bits level box p found
      → IfSome found (λ next. coordinates_past bits next < coordinates_past bits p)
  nearer_coord level box p i None within h = tt
  nearer_coord level box p i (Some next) within h = fewer_past bits p next within (h.past p i refl)
