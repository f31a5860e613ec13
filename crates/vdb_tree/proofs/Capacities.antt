-- Fills of a box, counted in upper extents: those of the table with those that meet the box.
use Rattle.vdb_tree.proofs.Common.{◌≡◌, ◌≢◌, ◌⊎◌, inl, inr, ℕ, ◌+◌, ◌<◌, ◌≤◌, Bool, true, false, List, [], ◌∷◌, length, refl, sym, subst, ◌∙◌, arith, IsTrue, IsSome, Err, Ok, OnOk, Result, IsDistinct, keys_of, is_member, length-keys_of, length-le_from_is_member, block, block_number, block_numbers, key, meets, AreBits, blocks_meeting, Box, coord_eq, coordinates, everywhere, is_box, is_inside, is_within, Bits, Coord, Upper, both, not_true, member_passing, distinct_filter, distinct_coordinates, corner_in_range, number_in_range, number_of_corner, numbered_in_range, within_each, coord_equiv, coord_exact, inside_numbered, number_in_block, Cell, IsSwept, Field, fill, Layout, cell_at, field_of, background_cell, root_at, ObeysLimit, is_background, roots, HasCapacityFor, LacksCapacityFor, MeetsRootBlock, IsSound, HasCapacity, TreeRefusal, Memory, RootLimit}
use Rattle.std.specs.Prelude.{◌++◌, filter, IfErr}
use Rattle.vdb_coord.proofs.Boxes.{box_from_inside}
use Rattle.std.proofs.lemmas.List.{length-append}
use Rattle.vdb_coord.proofs.Meeting.{common_from_meets, meets_from_common}
use Rattle.vdb_tree.proofs.Blocks.{never, uniform_block, uniform_block_from, non_background_from}
use Rattle.vdb_tree.proofs.Fields.{cell_inside}
use Rattle.vdb_tree.proofs.Levels.{bool_cases, coord_cases}
use Rattle.vdb_tree.proofs.Needed.{absent_block, is_some_from, some_or_none}
use Rattle.vdb_tree.proofs.Rooted.{or_first, or_second, absent_key, key_member, member_entry, one_more, or_cases, roots_at_least, roots_at_most}

-- the cells of a filled box, and those around it
module _ {V : Type 0} (box : Box) (cell : Cell V) (f : Field V) (q : Coord) (within : IsTrue (is_inside everywhere q)) where
  fill_inside : is_inside box q ≡ true → (fill box cell f).cell q ≡ cell
  fill_inside h = rw (within, h) refl

  fill_outside : is_inside box q ≡ false → (fill box cell f).cell q ≡ f.cell q
  fill_outside h = rw (within, h) refl

-- a coordinate of an existing upper extent lies within the range
pub in_root : (bits : Bits) → AreBits bits → (k q : Coord) → IsTrue (is_inside (block_numbers bits Upper) k) → block_number bits Upper q ≡ k → IsTrue (is_inside everywhere q)
in_root bits configured k q within at = numbered_in_range bits Upper configured q (subst (λ (n : Coord). is_inside (block_numbers bits Upper) n ≡ true) (sym at) within)

-- a block is a box
block_is_box : (bits : Bits) (k : Coord) → is_box (block bits Upper k) ≡ true
block_is_box bits k = box_from_inside (block bits Upper k) (block bits Upper k).min (inside_numbered bits Upper k (block bits Upper k).min (number_of_corner bits Upper k))

module _ {V : Type 0} (eq : V → V → Bool) (exact : (x y : V) → eq x y ≡ true → x ≡ y) (itself : (x : V) → eq x x ≡ true) (bits : Bits) (configured : AreBits bits) (t : Layout V) (box : Box) (cell : Cell V) where
  abbrev was : Field V
  was = field_of bits t

  abbrev filled : Field V
  filled = fill box cell was

  -- the roots are at most as many as these keys, if the keys of the table are among them, and the keys of the box, too, unless
  -- the cell is the background
  pub fill_at_most : (keys : List Coord) → ((k : Coord) → IsSome (root_at t.root k) → is_member coord_eq keys k ≡ true)
      → ((p : Coord) → IsTrue (is_inside box p) → (cell ≡ background_cell t) ⊎ (is_member coord_eq keys (key bits p) ≡ true)) → roots eq bits filled ≤ length keys
  fill_at_most keys entered met = roots_at_most eq bits filled keys each
    where
      outside : (k : Coord) → is_member coord_eq keys k ≡ false → (q : Coord) → IsTrue (is_inside everywhere q) → block_number bits Upper q ≡ k → was.cell q ≡ background_cell t
      outside k out q range at =
          elim (some_or_none (root_at t.root (key bits q))) [
            | inl x ↦ absurd (never (subst (λ (n : Coord). is_member coord_eq keys n ≡ false) (sym at) out) (entered (key bits q) (is_some_from _ x.0 x.1)))
            | inr none ↦ cell_inside t.background (cell_at bits t) q range ∙ absent_block bits t q none q refl
          ]

      still : (k : Coord) → is_member coord_eq keys k ≡ false → (q : Coord) → IsTrue (is_inside everywhere q) → block_number bits Upper q ≡ k → filled.cell q ≡ background_cell t
      still k out q range at =
          elim (bool_cases (is_inside box q)) [
            | inl i ↦ elim (met q i) [
              | inl same ↦ fill_inside box cell was q range i ∙ same
              | inr m ↦ absurd (never (subst (λ (n : Coord). is_member coord_eq keys n ≡ false) (sym at) out) m)
            ]
            | inr o ↦ fill_outside box cell was q range o ∙ outside k out q range at
          ]

      each : (k : Coord) → IsTrue (is_inside (block_numbers bits Upper) k) → is_background eq filled (block bits Upper k) ≡ false → is_member coord_eq keys k ≡ true
      each k within h =
          elim (bool_cases (is_member coord_eq keys k)) [
            | inl m ↦ m
            | inr out ↦ absurd (never h (uniform_block_from eq exact itself bits Upper filled k (background_cell t) (λ q at. still k out q (in_root bits configured k q within at) at)))
          ]

  -- filling a box with the background cell adds no root
  pub fill_background : IsSound bits t → cell ≡ background_cell t → roots eq bits filled ≤ t.limit
  fill_background sound same =
      let a = fill_at_most (keys_of t.root) (key_member t) (λ p i. inl same) in
      omega (arith, a, length-keys_of t.root, sound.limit)

  -- if the table has capacity for the box, the filled field keeps to the limit
  pub fill_within : HasCapacityFor bits t box → roots eq bits filled ≤ t.limit
  fill_within capacity = let a = fill_at_most capacity.keys capacity.entered (λ p i. inr (capacity.met p i)) in let b = capacity.few in omega (arith, a, b)

  module _ (in_range : is_within box everywhere ≡ true) (other : cell ≢ background_cell t) where
    range_of : (p : Coord) → IsTrue (is_inside box p) → IsTrue (is_inside everywhere p)
    range_of p i = within_each box everywhere p in_range i

    -- an upper extent that held anything but the background, or that meets the box, holds anything but the background
    still_non_background : (k : Coord) → IsTrue (is_inside (block_numbers bits Upper) k) → ((is_background eq was (block bits Upper k) ≡ false) ⊎ MeetsRootBlock bits box k) → is_background eq filled (block bits Upper k) ≡ false
    still_non_background k within h = not_true _ (λ u. elim h [
      | inl before ↦ never before (uniform_block_from eq exact itself bits Upper was k (background_cell t) (λ q at. kept u q at (in_root bits configured k q within at)))
      | inr p ↦ other (sym (fill_inside box cell was p.0 (range_of p.0 p.1) p.1) ∙ uniform_block eq exact itself bits Upper filled k (background_cell t) u p.0 p.2)
    ])
      where
        kept : is_background eq filled (block bits Upper k) ≡ true → (q : Coord) → block_number bits Upper q ≡ k → IsTrue (is_inside everywhere q) → was.cell q ≡ background_cell t
        kept u q at range =
            let now = uniform_block eq exact itself bits Upper filled k (background_cell t) u q at in
            elim (bool_cases (is_inside box q)) [
              | inl i ↦ absurd (other (sym (fill_inside box cell was q range i) ∙ now))
              | inr o ↦ sym (fill_outside box cell was q range o) ∙ now
            ]

    -- distinct keys of such upper extents are at most as many as the roots
    pub fill_at_least : (keys : List Coord) → IsDistinct coord_eq keys
        → ((k : Coord) → is_member coord_eq keys k ≡ true → IsTrue (is_inside (block_numbers bits Upper) k) × ((is_background eq was (block bits Upper k) ≡ false) ⊎ MeetsRootBlock bits box k)) → length keys ≤ roots eq bits filled
    fill_at_least keys apart each = roots_at_least eq bits filled keys apart (λ k m. let h = each k m in (h.0, still_non_background k h.0 h.1))

    -- the upper extent of a key of a swept table isn't all background
    swept_non_background : IsSwept bits t → (k : Coord) → IsTrue (is_inside (block_numbers bits Upper) k) → IsSome (root_at t.root k) → is_background eq was (block bits Upper k) ≡ false
    swept_non_background swept k within held =
        let corner = (block bits Upper k).min in
        let number : key bits corner ≡ k = number_of_corner bits Upper k in
        subst (λ (n : Coord). is_background eq was (block bits Upper n) ≡ false) number
        (non_background_from eq exact itself bits configured Upper t corner (corner_in_range bits Upper configured k within) (λ const.
        elim (some_or_none (root_at t.root (key bits corner))) [
          | inl entry ↦ swept corner entry.0 entry.1 const
          | inr empty ↦ never (rw (← number, empty) refl) held
        ]))

    -- if a swept table has no capacity for the box, the filled field exceeds the limit
    pub fill_exceeds : IsSound bits t → IsSwept bits t → LacksCapacityFor bits t box → t.limit < roots eq bits filled
    fill_exceeds sound swept lacks =
        let a = fill_at_least lacks.keys lacks.apart each in
        let b = lacks.many in
        omega (arith, a, b)
      where
        each : (k : Coord) → is_member coord_eq lacks.keys k ≡ true → IsTrue (is_inside (block_numbers bits Upper) k) × ((is_background eq was (block bits Upper k) ≡ false) ⊎ MeetsRootBlock bits box k)
        each k m =
            elim (lacks.each k m) [
              | inl held ↦ let within = sound.keys k held in (within, inl (swept_non_background swept k within held))
              | inr p ↦ (subst (λ (n : Coord). is_inside (block_numbers bits Upper) n ≡ true) p.2 (number_in_range bits Upper p.0 (range_of p.0 p.1)), inr p)
            ]

    -- each upper extent that meets the box becomes a root
    pub fill_meeting : is_box box ≡ true → blocks_meeting bits Upper box ≤ roots eq bits filled
    fill_meeting is =
        let test : Coord → Bool = λ n. meets (block bits Upper n) box in
        let all = block_numbers bits Upper in
        fill_at_least (filter test (coordinates all)) (distinct_filter coord_eq test (coordinates all) (distinct_coordinates all))
        (λ k m.
        let hs = both (is_inside all k) (test k) (sym (member_passing all test k) ∙ m) in
        let p = common_from_meets (block bits Upper k) box (block_is_box bits k) is hs.1 in
        (hs.0, inr (p.0, p.2, number_in_block bits Upper k p.0 p.1)))

    -- a box that meets more upper extents than the limit exceeds it
    pub fill_too_wide : is_box box ≡ true → t.limit < blocks_meeting bits Upper box → t.limit < roots eq bits filled
    fill_too_wide is wide = let a = fill_meeting is in omega (arith, a, wide)

-- a table doesn't both have capacity for a box and lack it
pub capacity_or_lack : {V : Type 0} (bits : Bits) (t : Layout V) (box : Box) → HasCapacityFor bits t box → LacksCapacityFor bits t box → ⊥
capacity_or_lack bits t box capacity lacks =
    let among = length-le_from_is_member coord_equiv lacks.keys capacity.keys lacks.apart (λ k m. elim (lacks.each k m) [
      | inl held ↦ capacity.entered k held
      | inr p ↦ subst (λ (n : Coord). is_member coord_eq capacity.keys n ≡ true) p.2 (capacity.met p.0 p.1)
    ]) in
    let few = capacity.few in
    let many = lacks.many in
    omega (arith, among, few, many)

-- ---- adding entries to the table

module _ {V : Type 0} (t : Layout V) (keys : List Coord) (entered : (k : Coord) → IsSome (root_at t.root k) → is_member coord_eq keys k ≡ true) (k : Coord) (listed : is_member coord_eq keys k ≡ true) where
  -- if a key has no entry, and is among as many keys as the limit with those of the table, the table has capacity for one more
  pub capacity_from : length keys ≤ t.limit → IsDistinct coord_eq (keys_of t.root) → HasCapacity t k
  capacity_from few apart =
      elim (some_or_none (root_at t.root k)) [
        | inl x ↦ inl (is_some_from _ x.0 x.1)
        | inr none ↦
            let a = length-le_from_is_member coord_equiv (k ∷ keys_of t.root) keys (one_more k (keys_of t.root) apart (absent_key t k none)) each in
            inr (omega (arith, a, few, length-keys_of t.root))
      ]
    where
      each : (j : Coord) → is_member coord_eq (k ∷ keys_of t.root) j ≡ true → is_member coord_eq keys j ≡ true
      each j m =
          elim (or_cases (coord_eq j k) (is_member coord_eq (keys_of t.root) j) m) [
            | inl s ↦ subst (λ (n : Coord). is_member coord_eq keys n ≡ true) (sym (coord_exact j k s)) listed
            | inr s ↦ entered j (member_entry t j s)
          ]

  -- once the key has its entry, the keys of the table are still among those keys
  pub entered_still : (n : Layout V) → ((j : Coord) → j ≢ k → root_at n.root j ≡ root_at t.root j) → (j : Coord) → IsSome (root_at n.root j) → is_member coord_eq keys j ≡ true
  entered_still n table j held = elim (coord_cases j k) [
    | inl e ↦ subst (λ (i : Coord). is_member coord_eq keys i ≡ true) (sym e) listed
    | inr d ↦ entered j (subst (λ o. IsSome o) (table j d) held)
  ]

module _ {V : Type 0} (bits : Bits) (t : Layout V) (box : Box) (capacity : HasCapacityFor bits t box) (p : Coord) (inside : IsTrue (is_inside box p)) where
  -- if an upper extent of the box has no entry, the table has capacity for one
  pub capacity_at : IsDistinct coord_eq (keys_of t.root) → HasCapacity t (key bits p)
  capacity_at apart = capacity_from t capacity.keys capacity.entered (key bits p) (capacity.met p inside) capacity.few apart

  -- once an upper extent has its entry, the table still has capacity for the others
  pub capacity_stays : (n : Layout V) → n.limit ≡ t.limit → ((k : Coord) → k ≢ key bits p → root_at n.root k ≡ root_at t.root k) → HasCapacityFor bits n box
  capacity_stays n same table = record {
    keys = capacity.keys;
    few = rw same capacity.few;
    entered = entered_still t capacity.keys capacity.entered (key bits p) (capacity.met p inside) n table;
    met = capacity.met;
  }

-- ---- results of calls

module _ {V : Type 0} (eq : V → V → Bool) (bits : Bits) (limit : ℕ) (changed : Field V) where
  -- `RootLimit` if the limit would be exceeded
  pub obeys_full : (result : Result (Unit {0}) TreeRefusal) → result ≡ Err RootLimit → limit < roots eq bits changed → ObeysLimit eq bits limit changed result
  obeys_full result refused h = rw refused h

  -- only `Memory` if the limit would not be exceeded
  pub obeys_within : (result : Result (Unit {0}) TreeRefusal) → IfErr result (λ refusal. refusal ≡ Memory) → roots eq bits changed ≤ limit → ObeysLimit eq bits limit changed result
  obeys_within (Ok _) memory h = h
  obeys_within (Err refusal) memory h = rw memory h

-- either the plain fact, or the entries of the box
pub or_entered : {E : Type 0} (box : Box) (Plain : Type 0) (Entered : Coord → Type 0) (result : Result (Unit {0}) E) → OnOk result ((p : Coord) → IsTrue (is_inside box p) → Entered p)
    → OnOk result ((p : Coord) → IsTrue (is_inside box p) → Plain ⊎ Entered p)
or_entered box Plain Entered (Ok _) h = λ p inside. inr (h p inside)
or_entered box Plain Entered (Err _) h = tt

-- what one of two lists has, both have together
pub member_first : (xs ys : List Coord) (k : Coord) → is_member coord_eq xs k ≡ true → is_member coord_eq (xs ++ ys) k ≡ true
member_first [] ys k h = cc
member_first (x ∷ xs) ys k h = elim (or_cases (coord_eq k x) (is_member coord_eq xs k) h) [ inl e ↦ or_first (coord_eq k x) _ e | inr m ↦ or_second (coord_eq k x) _ (member_first xs ys k m) ]

pub member_second : (xs ys : List Coord) (k : Coord) → is_member coord_eq ys k ≡ true → is_member coord_eq (xs ++ ys) k ≡ true
member_second [] ys k h = h
member_second (x ∷ xs) ys k h = or_second (coord_eq k x) _ (member_second xs ys k h)

-- a table with room for as many entries as upper extents meet the box has capacity for it
pub capacity_of_few : {V : Type 0} (bits : Bits) (t : Layout V) (box : Box) → is_within box everywhere ≡ true → blocks_meeting bits Upper box + length t.root ≤ t.limit → HasCapacityFor bits t box
capacity_of_few bits t box range few =
    let test : Coord → Bool = λ n. meets (block bits Upper n) box in
    let met = filter test (coordinates (block_numbers bits Upper)) in
    record {
      keys = keys_of t.root ++ met;
      few = let a = length-keys_of t.root in let b = length-append (keys_of t.root) met in omega (arith, a, b, few);
      entered = λ k h. member_first (keys_of t.root) met k (key_member t k h);
      met = λ p i.
          let within = number_in_range bits Upper p (within_each box everywhere p range i) in
          let meets_it = meets_from_common (block bits Upper (key bits p)) box p (inside_numbered bits Upper (key bits p) p refl) i in
          member_second (keys_of t.root) met (key bits p) (member_passing (block_numbers bits Upper) test (key bits p) ∙ rw (within, meets_it) refl);
    }
