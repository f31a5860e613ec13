-- Leaf blocks whose cells differ, counted from leaf to leaf.
use Rattle.vdb_walk.proofs.Common.{◌≡◌, inl, inr, sym, ap, ◌∙◌, refl, subst, ℕ, ℤ, pos, ◌*◌, ◌+◌, ◌^◌, ◌+ℤ◌, ◌<◌, Bool, true, false, not, ◌&&◌, cond, [], ◌∷◌, arith, ints, pow_pos, IfSome, Option, Some, None, is_lt, block, block_around, block_cmp, block_number, block_numbers, offset, digit, first_of, AreBits, ComesBefore, coordinates_past, coord_eq, everywhere, is_inside, Bits, Coord, Leaf, comes_on, fewer_past, not_before_min, not_itself, not_true, same_truth, digit_is, number_zero, rest, rest_of, corner_in_range, number_in_range, number_of_corner, numbered_in_range, coord_equiv, coord_exact, inside_numbered, number_in_block, joined, offset_is, Entry, Child, Tile, Field, Layout, field_of, lower_entry, is_left, is_constant, one_more, uniform_from, IsBoxStart, non_constant_from}
use Rattle.vdb_coord.proofs.BlockOrder.{first_unless, same_from_neither}
use Rattle.vdb_tree.specs.Leaves.{IsLeafPast, IsNextLeaf}
use Rattle.vdb_tree.specs.Paths.{in_leaf, is_child}
use Rattle.vdb_tree.proofs.LeafBlocks.{tile_around}
use Rattle.vdb_walk.proofs.Counts.{nothing_apart}
use Rattle.vdb_walk.proofs.LeafSeeks.{later_in_leaf}
use Rattle.vdb_walk.proofs.NonConstantBlocks.{denied, false_true, from_on, left_from, no_more, one_of, other_of, with_same}
use Rattle.vdb_walk.proofs.PartCounts.{count_alike, count_split}

-- ---- the first coordinate of a leaf block

first_digit : (b : ℕ) (n : ℤ) → digit 0 b (first_of b n) ≡ 0
first_digit b n =
    digit_is 0 b (first_of b n) ∙ ap (rest (2 ^ b)) (number_zero (first_of b n) ∙ more (first_of b n)) ∙ rest_of (2 ^ b) n 0 (pow_pos b)
  where
    more : (x : ℤ) → x ≡ x +ℤ pos 0
    more x = grind (arith, ints)

joined_zeros : (m x y z : ℕ) → x ≡ 0 → y ≡ 0 → z ≡ 0 → joined m x y z ≡ 0
joined_zeros m x y z ex ey ez =
    let row : x * m + y ≡ 0 = ap (λ t. t * m + y) ex ∙ omega (arith, ey) in
    ap (λ t. t * m + z) row ∙ omega (arith, ez)

-- the first coordinate of a leaf block has the first entry
pub first_entry_of_leaf : (bits : Bits) (n : Coord) → offset bits Leaf (block bits Leaf n).min ≡ 0
first_entry_of_leaf bits n =
    offset_is bits Leaf (block bits Leaf n).min
    ∙ joined_zeros (2 ^ bits.leaf) _ _ _ (first_digit bits.leaf n.x) (first_digit bits.leaf n.y) (first_digit bits.leaf n.z)

module _ {V : Type 0} (eq : V → V → Bool) (exact : (x y : V) → eq x y ≡ true → x ≡ y) (itself : (x : V) → eq x x ≡ true) (bits : Bits) (configured : AreBits bits) (t : Layout V) where
  abbrev f : Field V
  f = field_of bits t

  abbrev begin : Coord → Coord
  begin n = (block bits Leaf n).min

  abbrev differs_at : Coord → Bool
  differs_at n = not (is_constant eq f (block bits Leaf n))

  begin_inside : (n : Coord) → is_inside (block_numbers bits Leaf) n ≡ true → is_inside everywhere (begin n) ≡ true
  begin_inside n i = corner_in_range bits Leaf configured n i

  of_block : (n : Coord) → is_inside (block_numbers bits Leaf) n ≡ true → (r : Coord) → is_inside (block bits Leaf n) r ≡ true → is_inside everywhere r ≡ true
  of_block n i r j = numbered_in_range bits Leaf configured r (subst (λ (m : Coord). is_inside (block_numbers bits Leaf) m ≡ true) (sym (number_in_block bits Leaf n r j)) i)

  -- a block whose cells differ has a leaf
  has_leaf : (n : Coord) → is_inside (block_numbers bits Leaf) n ≡ true → differs_at n ≡ true → in_leaf bits t (begin n) ≡ true
  has_leaf n i m = by (lower_entry bits t (begin n)) refl
    where
      by : (e : Entry V) → lower_entry bits t (begin n) ≡ e → in_leaf bits t (begin n) ≡ true
      by (Child slot) e = ap is_child e
      by (Tile cell) e = absurd (denied (is_constant eq f (block bits Leaf n)) m (uniform_from eq exact itself f (block bits Leaf n) (f.cell (begin n)) (λ r j.
          tile_around bits t (begin n) cell e (begin_inside n i) r (of_block n i r j) (number_in_block bits Leaf n r j ∙ sym (number_of_corner bits Leaf n)))))

  module _ (p : Coord) (starts : IsBoxStart bits Leaf everywhere p) where
    abbrev here : Coord
    here = block_number bits Leaf p

    here_inside : is_inside (block_numbers bits Leaf) here ≡ true
    here_inside = number_in_range bits Leaf p starts.inside

    begins_here : begin here ≡ p
    begins_here = same_from_neither bits (begin here) p
        (λ h. starts.first (begin here) (begin_inside here here_inside) h (number_of_corner bits Leaf here))
        (λ h. not_before_min bits (block bits Leaf here) p (inside_numbered bits Leaf here p refl) h)

    module _ (next : Option Coord) (found : IsNextLeaf bits t (Some p) next) where
      -- a block that differs and begins past p is left
      stays : (n : Coord) → is_inside (block_numbers bits Leaf) n ≡ true → differs_at n ≡ true → ComesBefore bits p (begin n) → is_left bits next (begin n) ≡ true
      stays n i m past = by next found
        where
          leaf : IsLeafPast bits t (Some p) (begin n)
          leaf = record { inside = begin_inside n i; first = first_entry_of_leaf bits n; leaf = has_leaf n i m; past = past }

          by : (o : Option Coord) → IsNextLeaf bits t (Some p) o → is_left bits o (begin n) ≡ true
          by None h = absurd (h (begin n) leaf)
          by (Some k) h = ap not (h.1 (begin n) leaf)

      -- a block that is left past the next leaf was left before
      was_left : (c : Coord) → is_left bits next c ≡ true → is_left bits (Some p) c ≡ true
      was_left c left = by next found left
        where
          by : (o : Option Coord) → IsNextLeaf bits t (Some p) o → is_left bits o c ≡ true → is_left bits (Some p) c ≡ true
          by None h l = absurd (false_true refl l)
          by (Some k) h l = left_from bits p c (λ b. from_on bits k c l (comes_on bits c p k b h.0.past))

      gone : is_left bits next p ≡ false
      gone = by next found
        where
          by : (o : Option Coord) → IsNextLeaf bits t (Some p) o → is_left bits o p ≡ false
          by None h = refl
          by (Some k) h = ap not h.0.past

      others : (n : Coord) → is_inside (block_numbers bits Leaf) n ≡ true → (n ≡ here → ⊥) → differs_at n ≡ true → is_left bits (Some p) (begin n) ≡ is_left bits next (begin n)
      others n i apart m = same_truth (is_left bits (Some p) (begin n)) (is_left bits next (begin n)) on (was_left (begin n))
        where
          on : is_left bits (Some p) (begin n) ≡ true → is_left bits next (begin n) ≡ true
          on left = elim (first_unless bits p (begin n) (not_true (is_lt (block_cmp bits (begin n) p)) (from_on bits p (begin n) left))) [
            | inl past ↦ stays n i m past
            | inr e ↦ absurd (apart (sym (number_of_corner bits Leaf n) ∙ ap (block_number bits Leaf) (sym e)))
          ]

      none_here : differs_at here ≡ false → non_constant_from eq bits Leaf f next ≡ non_constant_from eq bits Leaf f (Some p)
      none_here equal =
          sym (count_alike (block_numbers bits Leaf) (λ n. differs_at n && is_left bits (Some p) (begin n)) (λ n. differs_at n && is_left bits next (begin n))
          (λ n i. with_same (differs_at n) (is_left bits (Some p) (begin n)) (is_left bits next (begin n)) (λ m.
          others n i (λ e. false_true (subst (λ (k : Coord). differs_at k ≡ false) (sym e) equal) m) m)))

      one_here : differs_at here ≡ true → 1 + non_constant_from eq bits Leaf f next ≡ non_constant_from eq bits Leaf f (Some p)
      one_here d =
          count_split (block_numbers bits Leaf) (λ n. differs_at n && is_left bits (Some p) (begin n)) (λ n. coord_eq n here) (λ n. differs_at n && is_left bits next (begin n)) (here ∷ [])
          (one_more here [] nothing_apart refl)
          (λ n. one_of (coord_eq n here) (is_inside (block_numbers bits Leaf) n) (differs_at n) (is_left bits (Some p) (begin n)) (λ e. was n (coord_exact n here e)))
          (λ n. other_of (coord_eq n here) (is_inside (block_numbers bits Leaf) n) (differs_at n) (is_left bits (Some p) (begin n)) (is_left bits next (begin n))
          (λ e. now n (coord_exact n here e))
          (λ i o m. others n i (λ e. false_true o (subst (λ (k : Coord). coord_eq n k ≡ true) e (coord_equiv.refl n))) m))
        where
          was : (n : Coord) → n ≡ here → (is_inside (block_numbers bits Leaf) n ≡ true) × (differs_at n ≡ true) × (is_left bits (Some p) (begin n) ≡ true)
          was n e = subst (λ (k : Coord). (is_inside (block_numbers bits Leaf) k ≡ true) × (differs_at k ≡ true) × (is_left bits (Some p) (begin k) ≡ true)) (sym e)
              (here_inside, d, subst (λ (c : Coord). is_left bits (Some p) c ≡ true) (sym begins_here) (left_from bits p p (not_itself bits p)))

          now : (n : Coord) → n ≡ here → is_left bits next (begin n) ≡ false
          now n e = subst (λ (k : Coord). is_left bits next (begin k) ≡ false) (sym e) (subst (λ (c : Coord). is_left bits next c ≡ false) (sym begins_here) gone)

      pub leaves_next : (differs : Bool) → differs ≡ not (is_constant eq f (block_around bits Leaf p)) → cond differs 1 0 + non_constant_from eq bits Leaf f next ≡ non_constant_from eq bits Leaf f (Some p)
      leaves_next true h = one_here (sym h)
      leaves_next false h = no_more (none_here (sym h))

      -- a leaf begins its block
      pub leaf_start : IfSome next (IsBoxStart bits Leaf everywhere)
      leaf_start = by next found
        where
          by : (o : Option Coord) → IsNextLeaf bits t (Some p) o → IfSome o (IsBoxStart bits Leaf everywhere)
          by None h = tt
          by (Some k) h = record {
            inside = h.0.inside;
            first = λ q i before same. false_true (later_in_leaf bits k q (sym same) (let e = h.0.first in omega (arith, e))) before;
          }

      pub leaf_nearer : IfSome next (λ k. coordinates_past bits k < coordinates_past bits p)
      leaf_nearer = by next found
        where
          by : (o : Option Coord) → IsNextLeaf bits t (Some p) o → IfSome o (λ k. coordinates_past bits k < coordinates_past bits p)
          by None h = tt
          by (Some k) h = fewer_past bits p k h.0.inside h.0.past
