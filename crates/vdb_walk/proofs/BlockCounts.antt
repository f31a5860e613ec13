-- Counts the active voxels of a box block by block.
use Rattle.vdb_walk.proofs.Common.{◌≡◌, ◌⊎◌, inl, inr, sym, ap, ◌∙◌, refl, subst, ℕ, ◌+◌, ◌<◌, ◌≤◌, ◌^◌, Bool, true, false, not, ◌&&◌, arith, [], IfSome, Option, Some, None, filter, length-filter, block_around, block_number, is_bounds, ComesBefore, IsNextCoord, IsUpToBlock, coordinates_past, Box, coord_eq, coordinates, everywhere, is_box, is_inside, is_within, Bits, Coord, Level, comes_on, contiguous, fewer_past, not_before_min, not_both, not_itself, both, member_passing, distinct_filter, distinct_coordinates, within_each, inside_numbered, number_in_block, min_inside, Layout, field_of, is_left, count, Inactive, gone_before, IsBoxStart, IsSkippedTo, active_from}
use Rattle.vdb_walk.specs.internal.BlocksFrom.{active_around}
use Rattle.vdb_walk.proofs.Counts.{count_few, none_on, nothing_apart, volume_few}
use Rattle.vdb_walk.proofs.NonConstantBlocks.{false_true, from_on, left_from, past_both, true_or_false}
use Rattle.vdb_walk.proofs.PartCounts.{count_listed, count_split, left_first}

-- ---- booleans: inside the box, active, left before, left now, inside the block

never_and : (b : Bool) → (b && false) ≡ false
never_and true = refl
never_and false = refl

first_of : (i o l c : Bool) → (i ≡ true → c ≡ true → l ≡ true) → (i && (o && c)) ≡ ((i && (o && l)) && c)
first_of false o l c h = refl
first_of true false l c h = refl
first_of true true l true h = sym (h refl refl)
    ∙ step l
  where
    step : (x : Bool) → x ≡ (x && true)
    step true = refl
    step false = refl
first_of true true l false h = sym (never_and l)

others_of : (i o l n c : Bool) → (i ≡ true → c ≡ true → n ≡ false) → (n ≡ true → l ≡ true) → (i ≡ true → l ≡ true → n ≡ false → c ≡ false → o ≡ false) → ((i && (o && l)) && not c) ≡ (i && (o && n))
others_of false o l n c gone later passed = refl
others_of true false l n c gone later passed = refl
others_of true true true true true gone later passed = sym (gone refl refl)
others_of true true true true false gone later passed = refl
others_of true true true false true gone later passed = refl
others_of true true true false false gone later passed = passed refl refl refl refl
others_of true true false true c gone later passed = absurd (let never : false ≡ true = later refl in cc)
others_of true true false false c gone later passed = refl

within_of : (i o c : Bool) → (c ≡ true → i ≡ true) → (c && o) ≡ (i && (o && c))
within_of i true true h = rw (h refl) refl
within_of i false true h = sym (never_and i)
within_of true true false h = refl
within_of true false false h = refl
within_of false o false h = refl

part_of : (i o c d : Bool) → d ≡ (i && c) → (d && o) ≡ (i && (o && c))
part_of true true true d h = rw h refl
part_of true true false d h = rw h refl
part_of true false c d h = rw h (never_and c)
part_of false o c d h = rw h refl

module _ {V : Type 0} (bits : Bits) (t : Layout V) (box : Box) where
  abbrev on : Coord → Bool
  on p = ((field_of bits t).cell p).on

  -- ---- the box's part of a block

  module _ (level : Level) (q : Coord) where
    abbrev block : Box
    block = block_around bits level q

    pub around_covered : is_within block box ≡ true → count (field_of bits t) block ≡ active_around bits t box level q
    around_covered within =
        sym (count_listed box (λ p. on p && is_inside block p) (filter on (coordinates block)) (distinct_filter coord_eq on (coordinates block) (distinct_coordinates block))
        (λ p. member_passing block on p ∙ within_of (is_inside box p) (on p) (is_inside block p) (within_each block box p within))
        ∙ length-filter on (coordinates block))

    pub around_part : (part : Box) → ((p : Coord) → is_inside part p ≡ (is_inside box p && is_inside block p)) → count (field_of bits t) part ≡ active_around bits t box level q
    around_part part same =
        sym (count_listed box (λ p. on p && is_inside block p) (filter on (coordinates part)) (distinct_filter coord_eq on (coordinates part) (distinct_coordinates part))
        (λ p. member_passing part on p ∙ part_of (is_inside box p) (on p) (is_inside block p) (is_inside part p) (same p))
        ∙ length-filter on (coordinates part))

    pub around_none : ((p : Coord) → (is_inside box p && is_inside block p) ≡ false) → 0 ≡ active_around bits t box level q
    around_none none = sym (count_listed box (λ p. on p && is_inside block p) [] nothing_apart (λ p. part_of (is_inside box p) (on p) (is_inside block p) false (sym (none p))))

  -- ---- the loop's start and its end

  pub least_start : is_box box ≡ true → (level : Level) → IsBoxStart bits level box box.min
  least_start h level = record { inside = min_inside box h; first = λ q inside before same. not_before_min bits box q inside before }

  pub from_first : active_from bits t box (Some box.min) ≡ count (field_of bits t) box
  from_first = left_first bits t box

  pub from_none : active_from bits t box None ≡ 0
  from_none = count_listed box (λ p. on p && is_left bits None p) [] nothing_apart (λ p. none_on (is_inside box p) (on p && is_left bits None p) (λ i. never_and (on p)))

  module _ (p : Coord) where
    -- if no voxel is active from the coordinate on
    pub inactive_end : IsSkippedTo bits t box Inactive p None → 0 + active_from bits t box None ≡ active_from bits t box (Some p)
    inactive_end inactive =
        let none = from_none in
        let all = count_listed box (λ r. on r && is_left bits (Some p) r) [] nothing_apart
        (λ r. none_on (is_inside box r) (on r && is_left bits (Some p) r) (λ i. step (on r) (is_left bits (Some p) r) (inactive r i))) in
        omega (arith, none, all)
      where
        step : (o l : Bool) → (l ≡ true → o ≡ false) → (o && l) ≡ false
        step true true h = h refl
        step true false h = refl
        step false l h = refl

    module _ (level : Level) (starts : IsBoxStart bits level box p) (q : Coord) (inactive : IsSkippedTo bits t box Inactive p (Some q)) (next : Option Coord) (is_next : IsNextCoord bits level box q next) where
      q_from : ComesBefore bits q p → ⊥
      q_from = from_on bits p q inactive.1

      numbered : (r : Coord) → is_inside (block_around bits level q) r ≡ true → block_number bits level r ≡ block_number bits level q
      numbered r c = number_in_block bits level (block_number bits level q) r c

      -- the block is left before
      block_left : (r : Coord) → is_inside box r ≡ true → is_inside (block_around bits level q) r ≡ true → is_left bits (Some p) r ≡ true
      block_left r i c = left_from bits p r (λ h.
          let same = contiguous bits level r p q (not_both bits r p h) q_from (numbered r c) in
          starts.first r i h (sym same))

      -- the block is not left any more
      block_gone : (r : Coord) → is_inside box r ≡ true → is_inside (block_around bits level q) r ≡ true → is_left bits next r ≡ false
      block_gone r i c = by next is_next
        where
          by : (o : Option Coord) → IsNextCoord bits level box q o → is_left bits o r ≡ false
          by None h = refl
          by (Some m) h = ap not (h.past r i (numbered r c))

      left_before : (r : Coord) → is_left bits next r ≡ true → is_left bits (Some p) r ≡ true
      left_before r left = by next is_next left
        where
          by : (o : Option Coord) → IsNextCoord bits level box q o → is_left bits o r ≡ true → is_left bits (Some p) r ≡ true
          by None h l = absurd (false_true refl l)
          by (Some m) h l = left_from bits p r (λ k. from_on bits m r l (comes_on bits r p m k (past_both bits p q m q_from (h.past q inactive.0 refl))))

      up_to : (r : Coord) → is_inside box r ≡ true → is_left bits next r ≡ false → IsUpToBlock bits level q r
      up_to r i gone = by next is_next gone
        where
          by : (o : Option Coord) → IsNextCoord bits level box q o → is_left bits o r ≡ false → IsUpToBlock bits level q r
          by None h g = h r i
          by (Some m) h g = h.between r i (gone_before bits m r g)

      passed : (r : Coord) → is_inside box r ≡ true → is_left bits (Some p) r ≡ true → is_left bits next r ≡ false → is_inside (block_around bits level q) r ≡ false → on r ≡ false
      passed r i left gone out =
          elim (up_to r i gone) [
            | inl before ↦ inactive.2 r i left before
            | inr same ↦ absurd (false_true out (inside_numbered bits level (block_number bits level q) r same))
          ]

      pub from_next : active_around bits t box level q + active_from bits t box next ≡ active_from bits t box (Some p)
      from_next =
          let mine = filter (λ r. on r && is_inside (block_around bits level q) r) (coordinates box) in
          let split =
          count_split box (λ r. on r && is_left bits (Some p) r) (is_inside (block_around bits level q)) (λ r. on r && is_left bits next r) mine
          (distinct_filter coord_eq (λ r. on r && is_inside (block_around bits level q) r) (coordinates box) (distinct_coordinates box))
          (λ r. member_passing box (λ s. on s && is_inside (block_around bits level q) s) r
          ∙ first_of (is_inside box r) (on r) (is_left bits (Some p) r) (is_inside (block_around bits level q) r) (block_left r))
          (λ r. others_of (is_inside box r) (on r) (is_left bits (Some p) r) (is_left bits next r) (is_inside (block_around bits level q) r) (block_gone r) (left_before r) (passed r)) in
          let few = length-filter (λ r. on r && is_inside (block_around bits level q) r) (coordinates box) in
          omega (arith, split, few)

      -- the next coordinate begins the box's part of a block
      pub starts_next : IfSome next (IsBoxStart bits level box)
      starts_next = by next is_next
        where
          by : (o : Option Coord) → IsNextCoord bits level box q o → IfSome o (IsBoxStart bits level box)
          by None h = tt
          by (Some m) h = record {
            inside = h.inside;
            first = λ r i before same.
                elim (h.between r i before) [
                  | inl a ↦
                      let past = h.past q inactive.0 refl in
                      let one = contiguous bits level r q m (not_both bits r q a) (not_both bits q m past) same in
                      not_itself bits m (h.past m h.inside (sym same ∙ sym one))
                  | inr e ↦ not_itself bits m (h.past m h.inside (sym same ∙ e))
                ];
          }

      pub nearer_from : is_bounds box ≡ true → IfSome next (λ m. coordinates_past bits m < coordinates_past bits p)
      nearer_from bounds = by next is_next
        where
          by : (o : Option Coord) → IsNextCoord bits level box q o → IfSome o (λ m. coordinates_past bits m < coordinates_past bits p)
          by None h = tt
          by (Some m) h = fewer_past bits p m (within_each box everywhere m (both (is_box box) (is_within box everywhere) bounds).1 h.inside) (past_both bits p q m q_from (h.past q inactive.0 refl))

  -- ---- sums

  pub first_counted : is_bounds box ≡ true → (level : Level) (p : Coord) → p ≡ box.min → IsBoxStart bits level box p × (0 + active_from bits t box (Some p) ≡ count (field_of bits t) box)
  first_counted bounds level p e =
      let all = from_first in
      let sum : 0 + active_from bits t box (Some box.min) ≡ count (field_of bits t) box = omega (arith, all) in
      subst (λ (q : Coord). IsBoxStart bits level box q × (0 + active_from bits t box (Some q) ≡ count (field_of bits t) box)) (sym e)
      (least_start (both (is_box box) (is_within box everywhere) bounds).0 level, sum)

  pub sum_more : (total more rest before all : ℕ) → more + rest ≡ before → total + before ≡ all → total + more + rest ≡ all
  sum_more total more rest before all h k = omega (arith, h, k)

  pub sum_fits : (total rest : ℕ) → total + rest ≡ count (field_of bits t) box → is_bounds box ≡ true → total ≤ 2 ^ 96
  sum_fits total rest h bounds =
      let few = count_few (field_of bits t) box in
      let bound = volume_few box bounds in
      omega (arith, h, few, bound)

  pub sum_all : (total : ℕ) (at : Option Coord) → ((p : Coord) → at ≡ Some p → ⊥) → total + active_from bits t box at ≡ count (field_of bits t) box → total ≡ count (field_of bits t) box
  sum_all total None none h = let e = from_none in omega (arith, e, h)
  sum_all total (Some p) none h = absurd (none p refl)
