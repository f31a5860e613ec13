-- The active voxels of a block, counted entry by entry.
use Rattle.vdb_tree.proofs.Common.{◌≡◌, ◌⊎◌, inl, inr, sym, ap, ◌∙◌, refl, ℕ, ◌+◌, ◌<◌, ◌≤◌, ◌^◌, Bool, true, false, not, ◌&&◌, List, [], length, arith, IsTrue, Option, Some, None, slice_index_or, count_by, filter, is_member, length-filter, length-le_from_is_member, block_around, block_number, entries, node_bits, offset, sub_block, AreBits, Box, coord_eq, coordinates, everywhere, is_inside, volume, Bits, Coord, Level, Leaf, Lower, Upper, not_true, member_passing, count_by_members, distinct_filter, distinct_coordinates, block_in_range, coord_equiv, coord_exact, entry_holds, in_entry, inside_numbered, number_in_block, entries_is, offset_below, IsFirstWithout, IsInactiveTile, entry_count, Entry, Tile, Cell, IsCountTo, IsInactiveFrom, IsNextActive, IsConstantBlock, Field, Layout, cell_at, field_of, count}
use Rattle.std.proofs.Common.{ltb}
use Rattle.std.specs.List.{IsDistinct}
use Rattle.std.proofs.lemmas.Bool.{lt-ltb, ltb-true}
use Rattle.std.proofs.lemmas.List.Filters.{length-filter_both}
use Rattle.std.proofs.lemmas.List.Sums.{count_by-le-length}
use Rattle.std.proofs.lemmas.Map.Made.{is_member-filter, length-from_same_keys}
use Rattle.vdb_coord.specs.Blocks.{block as block_at}
use Rattle.vdb_coord.proofs.Members.{member_coordinates}
use Rattle.vdb_coord.proofs.Nesting.{leaf_block_at_offset, lower_block_at_offset}
use Rattle.vdb_coord.proofs.Volume.{length_coordinates}
use Rattle.vdb_tree.proofs.Fields.{cell_inside}

-- ---- any test

nothing_apart : IsDistinct coord_eq []
unfolding IsDistinct
nothing_apart = tt

-- a box has as many coordinates that pass a test as a list has that pass another, if these are the same coordinates
count_listed : (b : Box) (t : Coord → Bool) (keys : List Coord) → IsDistinct coord_eq keys → ((p : Coord) → is_member coord_eq keys p ≡ (is_inside b p && t p)) → count_by t (coordinates b) ≡ length keys
count_listed b t keys apart same = sym (length-filter t (coordinates b)) ∙ count_by_members b t keys apart same

-- the coordinates of a box that pass a test are those of a list, which pass a second test too, and the others
count_split : (b : Box) (t s v : Coord → Bool) (keys : List Coord) → IsDistinct coord_eq keys → ((p : Coord) → is_member coord_eq keys p ≡ ((is_inside b p && t p) && s p))
    → ((p : Coord) → ((is_inside b p && t p) && not (s p)) ≡ (is_inside b p && v p)) → length keys + count_by v (coordinates b) ≡ count_by t (coordinates b)
count_split b t s v keys apart first others =
    let one = alike s keys apart (λ p. sym (first p)) in
    let two = alike (λ p. not (s p)) (filter v (coordinates b)) (distinct_filter coord_eq v (coordinates b) (distinct_coordinates b)) (λ p. others p ∙ sym (member_passing b v p)) in
    let both = length-filter_both s (λ p. not (s p)) (λ p. refl) (filter t (coordinates b)) in
    let whole = length-filter t (coordinates b) in
    let rest = length-filter v (coordinates b) in
    omega (arith, one, two, both, whole, rest)
  where
    alike : (r : Coord → Bool) (ks : List Coord) → IsDistinct coord_eq ks → ((p : Coord) → ((is_inside b p && t p) && r p) ≡ is_member coord_eq ks p) → length (filter r (filter t (coordinates b))) ≡ length ks
    alike r ks distinct same =
        length-from_same_keys coord_equiv (filter r (filter t (coordinates b))) ks
        (distinct_filter coord_eq r (filter t (coordinates b)) (distinct_filter coord_eq t (coordinates b) (distinct_coordinates b))) distinct
        (λ q. is_member-filter coord_equiv r q (λ x e. ap r (coord_exact q x e)) (filter t (coordinates b)) ∙ ap (λ i. i && r q) (member_passing b t q) ∙ same q)

-- ---- booleans: inside the block, active, before the next entry, before this entry, inside the entry

first_way : (i o l c : Bool) → (c ≡ true → i ≡ true) → (c ≡ true → l ≡ true) → ((i && (o && l)) && c) ≡ (c && o)
first_way i o l true h k = rw (h refl, k refl) (step o)
  where
    step : (x : Bool) → ((true && (x && true)) && true) ≡ (true && x)
    step true = refl
    step false = refl
first_way i o l false h k = never (i && (o && l))
  where
    never : (x : Bool) → (x && false) ≡ false
    never true = refl
    never false = refl

other_way : (i o l n c : Bool) → (c ≡ true → n ≡ false) → (n ≡ true → l ≡ true) → (i ≡ true → l ≡ true → n ≡ false → c ≡ false → o ≡ false) → ((i && (o && l)) && not c) ≡ (i && (o && n))
other_way false o l n c gone later passed = refl
other_way true false l n c gone later passed = refl
other_way true true true true true gone later passed = sym (gone refl)
other_way true true true true false gone later passed = refl
other_way true true true false true gone later passed = refl
other_way true true true false false gone later passed = passed refl refl refl refl
other_way true true false true c gone later passed = absurd (let never : false ≡ true = later refl in cc)
other_way true true false false c gone later passed = refl

all_on : (i t : Bool) → (i ≡ true → t ≡ true) → i ≡ (i && t)
all_on true t h = sym (h refl)
all_on false t h = refl

none_on : (i t : Bool) → (i ≡ true → t ≡ false) → false ≡ (i && t)
none_on true t h = sym (h refl)
none_on false t h = refl

never_and : (b : Bool) → (b && false) ≡ false
never_and true = refl
never_and false = refl

false_true : {b : Bool} → b ≡ false → b ≡ true → ⊥
false_true {b} h k = let e : false ≡ true = sym h ∙ k in cc

-- tests of numbers
not_below : (a n : ℕ) → n ≤ a → ltb a n ≡ false
not_below a n h = not_true (ltb a n) (λ k. let less = ltb-true a n k in omega (arith, h, less))

from_or_below : (a n : ℕ) → (a < n) ⊎ (n ≤ a)
from_or_below a n = grind arith

from_test : (a n : ℕ) → ltb a n ≡ false → n ≤ a
from_test a n h =
    elim (from_or_below a n) [
      | inl k ↦ absurd (false_true h (lt-ltb a n k))
      | inr k ↦ k
    ]

-- a count of all doesn't stop
pub all_counted : (enough all counted : ℕ) → counted ≡ all → IsCountTo enough all counted
all_counted enough all counted h = (omega (arith, h), λ less. h)

-- ---- the entries of a block

module _ {V : Type 0} (f : Field V) (bits : Bits) (level : Level) (p : Coord) where
  abbrev on : Coord → Bool
  on q = (f.cell q).on

  abbrev block : Box
  block = block_around bits level p

  -- how many active voxels the block has at entries below an index
  abbrev pub active_below : ℕ → ℕ
  active_below n = count_by (λ q. on q && ltb (offset bits level q) n) (coordinates block)

  in_block : (q : Coord) → is_inside block q ≡ true → block_number bits level q ≡ block_number bits level p
  in_block q i = number_in_block bits level (block_number bits level p) q i

  pub below_none : 0 ≡ active_below 0
  below_none =
      sym (count_listed block (λ q. on q && ltb (offset bits level q) 0) [] nothing_apart
      (λ q. none_on (is_inside block q) (on q && ltb (offset bits level q) 0) (λ i. ap (λ b. on q && b) (not_below (offset bits level q) 0 (omega arith)) ∙ never_and (on q))))

  module _ (from index : ℕ) (order : from ≤ index) (small : index < entries bits level) (inactive : IsInactiveFrom bits f level p from index) where
    abbrev part : Box
    part = sub_block bits level block index

    in_part : (q : Coord) → is_inside part q ≡ true → (block_number bits level q ≡ block_number bits level p) × (offset bits level q ≡ index)
    in_part q i = in_entry bits level p q index small i

    inside : (q : Coord) → is_inside part q ≡ true → is_inside block q ≡ true
    inside q i = inside_numbered bits level (block_number bits level p) q (in_part q i).0

    before_next : (q : Coord) → is_inside part q ≡ true → ltb (offset bits level q) (index + 1) ≡ true
    before_next q i = let at = (in_part q i).1 in lt-ltb (offset bits level q) (index + 1) (omega (arith, at))

    not_before : (q : Coord) → is_inside part q ≡ true → ltb (offset bits level q) from ≡ false
    not_before q i = let at = (in_part q i).1 in not_below (offset bits level q) from (omega (arith, at, order))

    later : (q : Coord) → ltb (offset bits level q) from ≡ true → ltb (offset bits level q) (index + 1) ≡ true
    later q h = let less = ltb-true (offset bits level q) from h in lt-ltb (offset bits level q) (index + 1) (omega (arith, less, order))

    passed : (q : Coord) → is_inside block q ≡ true → ltb (offset bits level q) (index + 1) ≡ true → ltb (offset bits level q) from ≡ false → is_inside part q ≡ false → on q ≡ false
    passed q i next gone out =
        let less = ltb-true (offset bits level q) (index + 1) next in
        elim (from_or_below (offset bits level q) index) [
          | inl k ↦ inactive q (in_block q i) (from_test (offset bits level q) from gone) k
          | inr k ↦ absurd (false_true out (entry_holds bits level p q index small (in_block q i) (omega (arith, less, k))))
        ]

    -- an entry adds its own active voxels
    pub below_more : count f part + active_below from ≡ active_below (index + 1)
    below_more =
        let mine = filter on (coordinates part) in
        let split =
        count_split block (λ q. on q && ltb (offset bits level q) (index + 1)) (is_inside part) (λ q. on q && ltb (offset bits level q) from) mine
        (distinct_filter coord_eq on (coordinates part) (distinct_coordinates part))
        (λ q. member_passing part on q ∙ sym (first_way (is_inside block q) (on q) (ltb (offset bits level q) (index + 1)) (is_inside part q) (inside q) (before_next q)))
        (λ q. other_way (is_inside block q) (on q) (ltb (offset bits level q) (index + 1)) (ltb (offset bits level q) from) (is_inside part q) (not_before q) (later q) (passed q)) in
        let few = length-filter on (coordinates part) in
        omega (arith, split, few)

    pub below_next : (enough total more : ℕ) (b : Box) → part ≡ b → IsCountTo enough (active_below from) total → IsCountTo enough (count f b) more → IsCountTo enough (active_below (index + 1)) (total + more)
    below_next enough total more b same h k =
        let sum = ap (λ (x : Box). count f x + active_below from) (sym same) ∙ below_more in
        let most = h.0 in
        let mine = k.0 in (
          omega (arith, sum, most, mine),
          λ less.
              let first = h.1 (omega (arith, less)) in
              let rest = k.1 (omega (arith, less)) in
              omega (arith, sum, first, rest),
        )

  -- entries below an index have no more active voxels than all
  below_le : (n : ℕ) → active_below n ≤ count f block
  below_le n =
      let first = filter (λ q. on q && ltb (offset bits level q) n) (coordinates block) in
      let split =
      count_split block on (λ q. ltb (offset bits level q) n) (λ q. on q && not (ltb (offset bits level q) n)) first
      (distinct_filter coord_eq (λ q. on q && ltb (offset bits level q) n) (coordinates block) (distinct_coordinates block))
      (λ q. member_passing block (λ r. on r && ltb (offset bits level r) n) q ∙ grouped (is_inside block q) (on q) (ltb (offset bits level q) n))
      (λ q. sym (grouped (is_inside block q) (on q) (not (ltb (offset bits level q) n)))) in
      let few = length-filter (λ q. on q && ltb (offset bits level q) n) (coordinates block) in
      omega (arith, split, few)
    where
      grouped : (i o l : Bool) → (i && (o && l)) ≡ ((i && o) && l)
      grouped true o l = refl
      grouped false o l = refl

  -- a count of the entries below an index that stops is one of all
  pub below_enough : (enough n total : ℕ) → IsCountTo enough (active_below n) total → enough ≤ total → IsCountTo enough (count f block) total
  below_enough enough n total h stops = let most = h.0 in let few = below_le n in (omega (arith, most, few), λ less. absurd (omega (arith, stops, less)))

  -- if the remaining entries are inactive, all active voxels are counted
  pub below_all : (from : ℕ) → IsInactiveFrom bits f level p from (entries bits level) → active_below from ≡ count f block
  below_all from inactive = count_listed block (λ q. on q && ltb (offset bits level q) from) (filter on (coordinates block)) (distinct_filter coord_eq on (coordinates block) (distinct_coordinates block))
      (λ q. member_passing block on q ∙ step (is_inside block q) (on q) (ltb (offset bits level q) from) (λ i gone. inactive q (in_block q i) (from_test (offset bits level q) from gone) (offset_below bits level q)))
      ∙ length-filter on (coordinates block)
    where
      step : (i o l : Bool) → (i ≡ true → l ≡ false → o ≡ false) → (i && o) ≡ (i && (o && l))
      step true true true h = refl
      step true true false h = h refl refl
      step true false l h = refl
      step false o l h = refl

  -- ---- how many active voxels there can be

  module _ (configured : AreBits bits) (here : IsTrue (is_inside everywhere p)) where
    pub block_few : length (coordinates block) ≤ 2 ^ 96
    block_few =
        let few = length-le_from_is_member coord_equiv (coordinates block) (coordinates everywhere) (distinct_coordinates block)
        (λ q m. member_coordinates everywhere q ∙ block_in_range bits level configured p q here (in_block q (sym (member_coordinates block q) ∙ m))) in
        let all : length (coordinates everywhere) ≡ 2 ^ 96 = length_coordinates everywhere in
        omega (arith, few, all)

    pub below_few : (n total : ℕ) → total ≤ active_below n → total ≤ 2 ^ 96
    below_few n total h =
        let few = count_by-le-length (λ q. on q && ltb (offset bits level q) n) (coordinates block) in
        let size = block_few in
        omega (arith, few, size, h)

-- ---- a block of one cell

module _ {V : Type 0} (bits : Bits) (configured : AreBits bits) (t : Layout V) (level : Level) (p : Coord) (here : IsTrue (is_inside everywhere p)) where
  abbrev f : Field V
  f = field_of bits t

  abbrev around : Box
  around = block_around bits level p

  cell_is : (q : Coord) → block_number bits level q ≡ block_number bits level p → f.cell q ≡ cell_at bits t q
  cell_is q b = cell_inside t.background (cell_at bits t) q (block_in_range bits level configured p q here b)

  module _ (cell : Cell V) (one : IsConstantBlock bits level t p cell) where
    state : (q : Coord) → is_inside around q ≡ true → (f.cell q).on ≡ cell.on
    state q i =
        let b = number_in_block bits level (block_number bits level p) q i in
        ap (λ (c : Cell V). c.on) (cell_is q b ∙ one q b)

    pub tile_all : cell.on ≡ true → volume around ≡ count f around
    tile_all h =
        sym (sym (length-filter (λ q. (f.cell q).on) (coordinates around))
        ∙ count_by_members around (λ q. (f.cell q).on) (coordinates around) (distinct_coordinates around) (λ q. member_coordinates around q ∙ all_on (is_inside around q) (f.cell q).on (λ i. state q i ∙ h))
        ∙ length_coordinates around)

    pub tile_none : cell.on ≡ false → 0 ≡ count f around
    tile_none h = sym (count_listed around (λ q. (f.cell q).on) [] nothing_apart (λ q. none_on (is_inside around q) (f.cell q).on (λ i. state q i ∙ h)))

  -- ---- what a node says about its inactive tiles

  module _ (entry : Coord → Entry V) (tiled : (c : Cell V) (q : Coord) → entry q ≡ Tile c → cell_at bits t q ≡ c) (node : List (Entry V)) (x : Cell V)
      (by : (q : Coord) → block_number bits level q ≡ block_number bits level p → entry q ≡ slice_index_or node (offset bits level q) (Tile x)) where
    inactive_at : (q : Coord) → block_number bits level q ≡ block_number bits level p → IsInactiveTile node (offset bits level q) → (f.cell q).on ≡ false
    inactive_at q b h = ap (λ (c : Cell V). c.on) (cell_is q b ∙ tiled (record { value = h.0; on = false }) q (by q b ∙ h.1 (Tile x)))

    pub next_active : (from : ℕ) (o : Option ℕ) → IsFirstWithout (IsInactiveTile node) (entry_count (node_bits bits level)) from o → IsNextActive bits f level p from o
    next_active from (Some index) next = record {
      within = rw (entries_is bits level) next.within;
      from_on = next.from_on;
      before = λ q b more less. inactive_at q b (next.before (offset bits level q) more less);
    }
    next_active from None none = λ q b more less. inactive_at q b (none (offset bits level q) more (rw (← entries_is bits level) less))

-- the block of an entry, by its corner
pub leaf_part : (bits : Bits) (p c : Coord) (i : ℕ) → block_number bits Lower c ≡ block_number bits Lower p → offset bits Lower c ≡ i → sub_block bits Lower (block_around bits Lower p) i ≡ block_around bits Leaf c
leaf_part bits p c i b o = ap (λ n. sub_block bits Lower (block_at bits Lower n) i) (sym b) ∙ ap (λ j. sub_block bits Lower (block_around bits Lower c) j) (sym o) ∙ leaf_block_at_offset bits c

pub lower_part : (bits : Bits) (p c : Coord) (i : ℕ) → block_number bits Upper c ≡ block_number bits Upper p → offset bits Upper c ≡ i → sub_block bits Upper (block_around bits Upper p) i ≡ block_around bits Lower c
lower_part bits p c i b o = ap (λ n. sub_block bits Upper (block_at bits Upper n) i) (sym b) ∙ ap (λ j. sub_block bits Upper (block_around bits Upper c) j) (sym o) ∙ lower_block_at_offset bits c
