-- Bounding boxes: of two boxes, and found part by part.
use Rattle.vdb_walk.proofs.Common.{◌≡◌, ◌⊎◌, sym, ap, ◌∙◌, refl, subst, ℕ, ◌+◌, ◌<◌, ◌≤◌, ℤ, ◌-ℤ◌, unsigned_abs, Bool, true, false, not, ◌&&◌, ◌||◌, inl, inr, int_le, List, Option, Some, None, arith, IsTrue, int_min, is_lt, IfSome, ints, block_cmp, offset, ComesBefore, Box, coord, everywhere, is_between, is_box, is_inside, Bits, Coord, Leaf, not_before_min, and_true, both, three, together, Field, off, Layout, field_of, IsSkipped, Passes, TreeWalk, YieldsBox, is_left, Skip, Inactive, bool_cases, or_cases, or_first, or_second, Cell, is_set, IsInFirstBlock, IsNextSet, IsNextSetAt, IsFoundTo}
use Rattle.std.specs.Int.{int_max}
use Rattle.std.specs.Prelude.{if◌then◌else◌}
use Rattle.vdb_coord.specs.Boxes.{box_of}
use Rattle.vdb_coord.proofs.Boxes.{box_of_none, box_of_some}
use Rattle.vdb_tree.specs.Layout.{cell_at}
use Rattle.vdb_walk.specs.Reports.{IsActiveBounds}
use Rattle.vdb_walk.specs.internal.Surround.{IsFoundBetween, Surrounds, is_in, is_wanted, is_wanted_by}
use Rattle.vdb_walk.proofs.SkippedParts.{earlier_gone}
use Rattle.vdb_walk.proofs.VoxelRows.{run_inside}

-- ---- the bounding box of two boxes

first_along : (l h m k x : ℤ) → is_between l h x ≡ true → is_between (int_min l m) (int_max h k) x ≡ true
first_along l h m k x i = grind (arith, ints)

second_along : (l h m k x : ℤ) → is_between m k x ≡ true → is_between (int_min l m) (int_max h k) x ≡ true
second_along l h m k x i = grind (arith, ints)

least_along : (a b l h m k x : ℤ) → is_between a b l ≡ true → is_between a b h ≡ true → is_between a b m ≡ true → is_between a b k ≡ true
    → is_between (int_min l m) (int_max h k) x ≡ true → is_between a b x ≡ true
least_along a b l h m k x p q r s i = grind (arith, ints)

ordered_along : (l h m k : ℤ) → int_le l h ≡ true → int_le (int_min l m) (int_max h k) ≡ true
ordered_along l h m k i = grind (arith, ints)

same_le : (x : ℤ) → int_le x x ≡ true
same_le x = grind (arith, ints)

-- a box in order holds its corners
module _ (b : Box) (order : is_box b ≡ true) where
  pub min_inside : is_inside b b.min ≡ true
  min_inside =
      let t = three (int_le b.min.x b.max.x) (int_le b.min.y b.max.y) (int_le b.min.z b.max.z) order in
      together _ _ _ (and_true _ _ (same_le b.min.x) t.0) (and_true _ _ (same_le b.min.y) t.1) (and_true _ _ (same_le b.min.z) t.2)

  pub max_inside : is_inside b b.max ≡ true
  max_inside =
      let t = three (int_le b.min.x b.max.x) (int_le b.min.y b.max.y) (int_le b.min.z b.max.z) order in
      together _ _ _ (and_true _ _ t.0 (same_le b.max.x)) (and_true _ _ t.1 (same_le b.max.y)) (and_true _ _ t.2 (same_le b.max.z))

module _ (a b : Box) where
  abbrev pub least_corner : Coord
  least_corner = coord (int_min a.min.x b.min.x) (int_min a.min.y b.min.y) (int_min a.min.z b.min.z)

  abbrev pub greatest_corner : Coord
  greatest_corner = coord (int_max a.max.x b.max.x) (int_max a.max.y b.max.y) (int_max a.max.z b.max.z)

  abbrev pub joined : Box
  joined = record { min = least_corner; max = greatest_corner }

  pub joined_ordered : is_box a ≡ true → is_box joined ≡ true
  joined_ordered order =
      let t = three (int_le a.min.x a.max.x) (int_le a.min.y a.max.y) (int_le a.min.z a.max.z) order in
      together _ _ _ (ordered_along a.min.x a.max.x b.min.x b.max.x t.0) (ordered_along a.min.y a.max.y b.min.y b.max.y t.1) (ordered_along a.min.z a.max.z b.min.z b.max.z t.2)

  first_inside : (p : Coord) → is_inside a p ≡ true → is_inside joined p ≡ true
  first_inside p i =
      let t = three (is_between a.min.x a.max.x p.x) (is_between a.min.y a.max.y p.y) (is_between a.min.z a.max.z p.z) i in
      together _ _ _ (first_along a.min.x a.max.x b.min.x b.max.x p.x t.0) (first_along a.min.y a.max.y b.min.y b.max.y p.y t.1) (first_along a.min.z a.max.z b.min.z b.max.z p.z t.2)

  second_inside : (p : Coord) → is_inside b p ≡ true → is_inside joined p ≡ true
  second_inside p i =
      let t = three (is_between b.min.x b.max.x p.x) (is_between b.min.y b.max.y p.y) (is_between b.min.z b.max.z p.z) i in
      together _ _ _ (second_along a.min.x a.max.x b.min.x b.max.x p.x t.0) (second_along a.min.y a.max.y b.min.y b.max.y p.y t.1) (second_along a.min.z a.max.z b.min.z b.max.z p.z t.2)

  joined_least : (c : Box) → is_inside c a.min ≡ true → is_inside c a.max ≡ true → is_inside c b.min ≡ true → is_inside c b.max ≡ true → (p : Coord) → is_inside joined p ≡ true → is_inside c p ≡ true
  joined_least c h k l m p i =
      let parts : (q : Coord) → is_inside c q ≡ true → (is_between c.min.x c.max.x q.x ≡ true) × (is_between c.min.y c.max.y q.y ≡ true) × (is_between c.min.z c.max.z q.z ≡ true)
      = λ q. three (is_between c.min.x c.max.x q.x) (is_between c.min.y c.max.y q.y) (is_between c.min.z c.max.z q.z) in
      let u = parts a.min h in
      let v = parts a.max k in
      let w = parts b.min l in
      let x = parts b.max m in
      let t = three (is_between joined.min.x joined.max.x p.x) (is_between joined.min.y joined.max.y p.y) (is_between joined.min.z joined.max.z p.z) i in
      together _ _ _ (least_along c.min.x c.max.x a.min.x a.max.x b.min.x b.max.x p.x u.0 v.0 w.0 x.0 t.0)
      (least_along c.min.y c.max.y a.min.y a.max.y b.min.y b.max.y p.y u.1 v.1 w.1 x.1 t.1)
      (least_along c.min.z c.max.z a.min.z a.max.z b.min.z b.max.z p.z u.2 v.2 w.2 x.2 t.2)

  pub joined_surrounds : is_box a ≡ true → is_box b ≡ true → Surrounds (λ p. is_inside a p || is_inside b p) (Some joined)
  joined_surrounds order other = record {
    holds = λ p w. elim (or_cases (is_inside a p) (is_inside b p) w) [
      | inl i ↦ first_inside p i
      | inr i ↦ second_inside p i
    ];
    least = λ c h. joined_least c (h a.min (or_first (is_inside a a.min) (is_inside b a.min) (min_inside a order))) (h a.max (or_first (is_inside a a.max) (is_inside b a.max) (max_inside a order)))
        (h b.min (or_second (is_inside a b.min) (is_inside b b.min) (min_inside b other))) (h b.max (or_second (is_inside a b.max) (is_inside b b.max) (max_inside b other)));
  }

  never : true ≡ false → ⊥
  never e = cc

  -- the corners of the two boxes always give a box
  pub joined_never : is_box a ≡ true → box_of least_corner greatest_corner ≡ None → ⊥
  joined_never order e = never (sym (joined_ordered order) ∙ box_of_none least_corner greatest_corner e)

  pub joined_found : is_box a ≡ true → is_box b ≡ true → (c : Box) → box_of least_corner greatest_corner ≡ Some c → Surrounds (λ p. is_inside a p || is_inside b p) (Some c)
  joined_found order other c e = rw (box_of_some least_corner greatest_corner c e).1 (joined_surrounds order other)

-- ---- part by part

-- a box that surrounds coordinates also surrounds the same ones given by another test
pub same_wanted : (v w : Coord → Bool) (found : Option Box) → ((p : Coord) → v p ≡ true → w p ≡ true) → ((p : Coord) → w p ≡ true → v p ≡ true) → Surrounds v found → Surrounds w found
same_wanted v w found there back s = record {
  holds = λ p h. s.holds p (back p h);
  least = λ other h p i. s.least other (λ q k. h q (there q k)) p i;
}

module _ {V : Type 0} (f : Field V) where
  abbrev on : Coord → Bool
  on p = (f.cell p).on

  module _ (found : Option Box) (part : Box) where
    -- a part that adds no coordinate
    pub kept : ((p : Coord) → is_inside part p ≡ true → on p ≡ true → is_in found p ≡ true) → Surrounds (is_wanted f found part) found
    kept h = record {
      holds = λ p w. elim (or_cases (is_in found p) (is_inside part p && on p) w) [
        | inl i ↦ i
        | inr a ↦ let t = both (is_inside part p) (on p) a in h p t.0 t.1
      ];
      least = λ other k p i. k p (or_first (is_in found p) (is_inside part p && on p) i);
    }

    no_state : (p : Coord) → on p ≡ false → on p ≡ true → is_in found p ≡ true
    no_state p e h = absurd (let never : false ≡ true = sym e ∙ h in cc)

    -- an inactive part adds no coordinate
    pub kept_off : ((p : Coord) → is_inside part p ≡ true → on p ≡ false) → Surrounds (is_wanted f found part) found
    kept_off h = kept (λ p i e. no_state p (h p i) e)

    -- an active part extends the box
    pub grown : (result : Option Box) → Surrounds (λ p. is_in found p || is_inside part p) result → ((p : Coord) → is_inside part p ≡ true → on p ≡ true) → Surrounds (is_wanted f found part) result
    grown result s h =
        same_wanted (λ p. is_in found p || is_inside part p) (is_wanted f found part) result
        (λ p w. elim (or_cases (is_in found p) (is_inside part p) w) [
          | inl i ↦ or_first (is_in found p) (is_inside part p && on p) i
          | inr i ↦ or_second (is_in found p) (is_inside part p && on p) (and_true (is_inside part p) (on p) i (h p i))
        ])
        (λ p w. elim (or_cases (is_in found p) (is_inside part p && on p) w) [
          | inl i ↦ or_first (is_in found p) (is_inside part p) i
          | inr a ↦ or_second (is_in found p) (is_inside part p) (both (is_inside part p) (on p) a).0
        ])
        s

-- ---- all of a field

module _ {V : Type 0} (bits : Bits) (t : Layout V) where
  abbrev whole_field : Field V
  whole_field = field_of bits t

  -- no voxel outside the range is active
  in_space : (p : Coord) → (whole_field.cell p).on ≡ true → is_inside everywhere p ≡ true
  in_space p = either (is_inside everywhere p) (cell_at bits t p)
    where
      either : (i : Bool) (c : Cell V) → (if i then c else off t.background).on ≡ true → i ≡ true
      either true c e = refl
      either false c e = cc

  was_off : (b : Bool) → (b ≡ true → ⊥) → b ≡ false
  was_off true h = absurd (h refl)
  was_off false h = refl

  bounds_of_all : (result : Option Box) → IsFoundTo bits whole_field None result → IsActiveBounds whole_field result
  bounds_of_all None s = λ p. was_off (whole_field.cell p).on (λ e. let never : false ≡ true = s.holds p e refl in cc)
  bounds_of_all (Some box) s = (
    λ p e. s.holds p e refl,
    λ other h. and_true (is_inside other box.min) (is_inside other box.max) (s.least other h box.min (min_inside box s.order)) (s.least other h box.max (max_inside box s.order)),
  )

  pub active_bounds : (result : Option Box) (at : Option Coord) → ((p : Coord) → at ≡ Some p → ⊥) → IsFoundTo bits whole_field at result → IsActiveBounds whole_field result
  active_bounds result None none s = bounds_of_all result s
  active_bounds result (Some p) none s = absurd (none p refl)

-- ---- a walk that skips inactive parts

apart : (b : Bool) → b ≡ false → b ≡ true → ⊥
apart b h k = let never : false ≡ true = sym h ∙ k in cc

module _ {V : Type 0} (bits : Bits) (t : Layout V) where
  abbrev f : Field V
  f = field_of bits t

  abbrev active : Coord → Bool
  active p = (f.cell p).on

  before : (b : Bool) → not b ≡ false → b ≡ true
  before true h = refl
  before false h = cc

  -- before the first coordinate of all, no voxel is active
  pub found_first : IsFoundTo bits f (Some everywhere.min) None
  found_first = record {
    holds = λ p on gone. absurd (not_before_min bits everywhere p (in_space bits t p on) (before (is_lt (block_cmp bits p everywhere.min)) gone));
    least = λ other h p i. absurd (apart false refl i);
    order = tt;
  }

  -- a walk that begins at the coordinate or before it
  pub found_from : (start : Coord) (at : Option Coord) (found : Option Box) → ((q : Coord) → is_inside everywhere q ≡ true → is_left bits at q ≡ false → ComesBefore bits q start) → IsFoundTo bits f (Some start) found → IsFoundTo bits f at found
  found_from start at found earlier s = record { holds = λ p on gone. s.holds p on (ap not (earlier p (in_space bits t p on) gone)); least = s.least; order = s.order }

  module _ (old new : TreeWalk V) (box : old.box ≡ everywhere) (skip : old.skip ≡ Inactive) where
    off_now : (but : Coord → Bool) → Passes bits t old new but → (p : Coord) → is_inside everywhere p ≡ true → is_left bits old.at p ≡ true → is_left bits new.at p ≡ false → but p ≡ false → active p ≡ false
    off_now but passes p i l gone out =
        subst (λ (s : Skip). IsSkipped bits s t p) skip (passes.passed p (subst (λ (b : Box). is_inside b p ≡ true) (sym box) i) l gone out)

    module _ (part : Box) (y : YieldsBox bits t old new part) (found : Option Box) (first : IsFoundTo bits f old.at found) where
      -- a part adds its own coordinates
      pub found_more : (result : Option Box) → Surrounds (is_wanted f found part) result → IfSome result (λ b. IsTrue (is_box b)) → IsFoundTo bits f new.at result
      found_more result second order = record {
        holds = λ p on gone. elim (bool_cases (is_left bits old.at p)) [
          | inl l ↦ elim (bool_cases (is_inside part p)) [
            | inl i ↦ second.holds p (or_second (is_in found p) (is_inside part p && active p) (and_true (is_inside part p) (active p) i on))
            | inr out ↦ absurd (apart (active p) (off_now (is_inside part) y.passes p (in_space bits t p on) l gone out) on)
          ]
          | inr l ↦ second.holds p (or_first (is_in found p) (is_inside part p && active p) (first.holds p on l))
        ];
        least = λ other h p i. second.least other (λ q w. elim (or_cases (is_in found q) (is_inside part q && active q) w) [
          | inl j ↦ first.least other h q j
          | inr a ↦ h q (both (is_inside part q) (active q) a).1
        ]) p i;
        order = order;
      }

      -- nothing is to be added before a coordinate if the box found so far holds everything from the part on and before it
      pub found_past : is_box part ≡ true → (next : Coord) → IsFoundBetween bits part.min next found → IsFoundTo bits f (Some next) found
      found_past ordered next covered = record {
        holds = λ p on gone.
            let here : (ComesBefore bits p part.min → ⊥) → is_in found p ≡ true = λ from. covered p (in_space bits t p on) from (before (is_lt (block_cmp bits p next)) gone) in
            elim (bool_cases (is_left bits old.at p)) [
              | inl l ↦ elim (bool_cases (is_left bits new.at p)) [
                | inl still ↦ here (λ b. apart (is_left bits new.at p) (earlier_gone bits new.at part.min (y.gone part.min (min_inside part ordered)) p b) still)
                | inr passed ↦ elim (bool_cases (is_inside part p)) [
                  | inl i ↦ here (not_before_min bits part p i)
                  | inr out ↦ absurd (apart (active p) (off_now (is_inside part) y.passes p (in_space bits t p on) l passed out) on)
                ]
              ]
              | inr l ↦ first.holds p on l
            ];
        least = first.least;
        order = first.order;
      }

    -- at the walk's end all coordinates are found
    pub found_all : Passes bits t old new (λ q. false) → new.at ≡ None → (found : Option Box) → IsFoundTo bits f old.at found → IsFoundTo bits f None found
    found_all passes none found s = record {
      holds = λ p on gone. elim (bool_cases (is_left bits old.at p)) [
        | inl l ↦ absurd (apart (active p) (off_now (λ q. false) passes p (in_space bits t p on) l (ap (λ (o : Option Coord). is_left bits o p) none) refl) on)
        | inr l ↦ s.holds p on l
      ];
      least = s.least;
      order = s.order;
    }

-- ---- the voxels of a leaf

below_or_from : (i n : ℕ) → (i < n) ⊎ (n ≤ i)
below_or_from i n = grind arith

self_between : (x y : ℤ) → is_between x x y ≡ true → y ≡ x
self_between x y h = grind (arith, ints)

-- the box of one coordinate holds no other
only_self : (p : Coord) (box : Box) → box ≡ record { min = p; max = p } → (q : Coord) → is_inside box q ≡ true → q ≡ p
only_self p box is q inside =
    let hs = three (is_between p.x p.x q.x) (is_between p.y p.y q.y) (is_between p.z p.z q.z) (subst (λ (b : Box). is_inside b q ≡ true) is inside) in
    let x = self_between p.x q.x hs.0 in
    let y = self_between p.y q.y hs.1 in
    let z = self_between p.z q.z hs.2 in
    λ i. record { x = x i; y = y i; z = z i }

module _ (bits : Bits) (states : List Bool) (found : Option Box) (part : Box) where
  -- the bounding box of what was found and of the part's voxels before an entry
  pub record Reaches (from : ℕ) (around : Option Box) : Type 0 where
    pub former : (p : Coord) → is_in found p ≡ true → is_in around p ≡ true
    pub passed : (p : Coord) → is_inside part p ≡ true → is_set bits states p ≡ true → offset bits Leaf p < from → is_in around p ≡ true
    pub least : (other : Box) → ((p : Coord) → is_wanted_by bits states found part p ≡ true → is_inside other p ≡ true) → (p : Coord) → is_in around p ≡ true → is_inside other p ≡ true

  -- the next voxel, and voxels of the box that follow it
  pub reaches_next : IsInFirstBlock bits part → (from entry : ℕ) (p : Coord) (voxel : Box) (around : Option Box) (grown : Box) (past : ℕ) → Reaches from around → IsNextSetAt bits states part from entry p
      → voxel ≡ record { min = p; max = p } → Surrounds (λ q. is_in around q || is_inside voxel q) (Some grown)
      → past ≤ entry + unsigned_abs (int_min part.max.z grown.max.z -ℤ p.z) + 1 → Reaches past (Some grown)
  reaches_next block from entry p voxel around grown past old next one s run = record {
    former = λ q i. s.holds q (or_first (is_in around q) (is_inside voxel q) (old.former q i));
    passed = λ q i o below. step q i o below (below_or_from (offset bits Leaf q) from) (below_or_from (offset bits Leaf q) entry);
    least = λ other h q i. s.least other (λ r w. elim (or_cases (is_in around r) (is_inside voxel r) w) [
      | inl j ↦ old.least other h r j
      | inr j ↦ subst (λ (a : Coord). is_inside other a ≡ true) (sym (only_self p voxel one r j)) (h p (or_second (is_in found p) (is_inside part p && is_set bits states p) (and_true (is_inside part p) (is_set bits states p) next.inside next.here)))
    ]) q i;
  }
    where
      there : is_inside grown p ≡ true
      there = s.holds p (or_second (is_in around p) (is_inside voxel p) (subst (λ (b : Box). is_inside b p ≡ true) (sym one)
          (together _ _ _ (and_true _ _ (same_le p.x) (same_le p.x)) (and_true _ _ (same_le p.y) (same_le p.y)) (and_true _ _ (same_le p.z) (same_le p.z)))))

      step : (q : Coord) → is_inside part q ≡ true → is_set bits states q ≡ true → offset bits Leaf q < past → (offset bits Leaf q < from) ⊎ (from ≤ offset bits Leaf q) → (offset bits Leaf q < entry) ⊎ (entry ≤ offset bits Leaf q)
          → is_inside grown q ≡ true
      step q i o to (inl below) later = s.holds q (or_first (is_in around q) (is_inside voxel q) (old.passed q i o below))
      step q i o to (inr from_on) (inl between) = absurd (apart (is_set bits states q) (next.before q i from_on between) o)
      step q i o to (inr from_on) (inr later) =
          let at = next.at in
          run_inside bits part grown block p next.inside there q i (omega (arith, at, later)) (omega (arith, at, to, run))

  -- no voxel is left
  pub reaches_all : (from : ℕ) (around : Option Box) → Reaches from around → IsNextSet bits states part from None → Surrounds (is_wanted_by bits states found part) around
  reaches_all from around old none = record {
    holds = λ p w. elim (or_cases (is_in found p) (is_inside part p && is_set bits states p) w) [
      | inl i ↦ old.former p i
      | inr a ↦
          let t = both (is_inside part p) (is_set bits states p) a in
          elim (below_or_from (offset bits Leaf p) from) [
            | inl below ↦ old.passed p t.0 t.1 below
            | inr further ↦ absurd (apart (is_set bits states p) (none p t.0 further) t.1)
          ]
    ];
    least = old.least;
  }

  -- the active voxels of a field with these states
  pub by_states : {V : Type 0} (f : Field V) (around : Option Box) → ((p : Coord) → is_inside part p ≡ true → (f.cell p).on ≡ is_set bits states p) → Surrounds (is_wanted_by bits states found part) around
      → Surrounds (is_wanted f found part) around
  by_states f around h = same_wanted (is_wanted_by bits states found part) (is_wanted f found part) around
      (λ p w. elim (or_cases (is_in found p) (is_inside part p && is_set bits states p) w) [
        | inl i ↦ or_first (is_in found p) (is_inside part p && (f.cell p).on) i
        | inr a ↦ let t = both (is_inside part p) (is_set bits states p) a in or_second (is_in found p) (is_inside part p && (f.cell p).on) (and_true (is_inside part p) (f.cell p).on t.0 (h p t.0 ∙ t.1))
      ])
      (λ p w. elim (or_cases (is_in found p) (is_inside part p && (f.cell p).on) w) [
        | inl i ↦ or_first (is_in found p) (is_inside part p && is_set bits states p) i
        | inr a ↦ let t = both (is_inside part p) (f.cell p).on a in or_second (is_in found p) (is_inside part p && is_set bits states p) (and_true (is_inside part p) (is_set bits states p) t.0 (sym (h p t.0) ∙ t.1))
      ])
