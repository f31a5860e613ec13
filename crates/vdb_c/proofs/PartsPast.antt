-- Parts of a field one after another, as a walk yields them into an array.
use Rattle.vdb_c.proofs.Common.{◌≡◌, ◌≢◌, ◌⊎◌, ◌<◌, ◌≤◌, ◌+◌, ◌∙◌, inl, inr, ap, refl, subst, sym, arith, ℕ, zero, suc, ℤ, Bool, false, true, not, List, length, get_or, set, get_or-set_other, get_or-set_same, length-set, cases_eq, Option, Some, None, IsTrue, vdb, Box, Coord, everywhere, is_inside, is_bounds, Field, Layout, field_of}
use Rattle.std.specs.Ordering.{is_lt}
use Rattle.vdb_coord.proofs.BlockOrder.{comes_on, first_unless, not_past_max}
use Rattle.vdb_coord.specs.Blocks.{block_cmp, is_past}
use Rattle.vdb_coord.specs.Order.{ComesBefore}
use Rattle.vdb_tree.proofs.Blocks.{never}
use Rattle.vdb_tree.proofs.Levels.{bool_cases}
use Rattle.vdb_tree.specs.Parts.{Passes, TreeWalk, YieldsBox, is_left}
use Rattle.vdb_tree.specs.declared.queries.parts.Skip.TheVariants.{Background}
use Rattle.vdb_c.specs.Parts.{ArePartsPast, IsApart, IsFlat, IsInParts, IsPartOf, PassesAll, PassesTo, end_before, part_at, voxels_of}
use Rattle.vdb_c.proofs.Places.{max_inside}
use Rattle.vdb_c.specs.declared.parts.GridPart.{GridPart}

denied : (b : Bool) → not b ≡ false → b ≡ true
denied true h = refl
denied false h = cc

granted : (b : Bool) → not b ≡ true → b ≡ false
granted true h = cc
granted false h = refl

-- a coordinate that is left comes past one that isn't
pub left_past : (at : Option Coord) (p q : Coord) → is_left vdb at p ≡ false → IsTrue (is_left vdb at q) → ComesBefore vdb p q
left_past None p q gone left = absurd (never refl left)
left_past (Some a) p q gone left =
    let before : ComesBefore vdb p a = denied (is_lt (block_cmp vdb p a)) gone in
    elim (first_unless vdb a q (granted (is_lt (block_cmp vdb q a)) left)) [
      | inl l ↦ comes_on vdb p a q before l
      | inr e ↦ subst (λ (c : Coord). ComesBefore vdb p c) e before
    ]

-- a box that doesn't end past a coordinate has no voxel past it
pub none_past : (after : Option Coord) (box : Box) (q : Coord) → is_past vdb after box.max ≡ false → IsTrue (is_inside box q) → IsTrue (is_past vdb after q) → ⊥
none_past None box q ends inside past = never ends refl
none_past (Some a) box q ends inside past =
    elim (first_unless vdb box.max a ends) [
      | inl l ↦ not_past_max vdb box q inside (comes_on vdb box.max a q l past)
      | inr e ↦ not_past_max vdb box q inside (subst (λ (c : Coord). ComesBefore vdb c q) (sym e) past)
    ]

-- a box by its corners
pub box_by : (low high : Coord) (box : Box) → low ≡ box.min → high ≡ box.max → ◌≡◌ {A = Box} (record { min = low; max = high }) box
box_by low high box is_low is_high = λ t. record { min = is_low t; max = is_high t }

-- ---- the walk over a tree

module _ {V : Type 0} (t : Layout V) (after : Option Coord) (start : Option Coord) where
  -- past a coordinate a walk has passed over nothing but background
  pub record IsIdle (w : TreeWalk V) : Type 0 where
    pub box : w.box ≡ everywhere
    pub skip : w.skip ≡ Background
    pub later : (q : Coord) → IsTrue (is_left vdb w.at q) → IsTrue (is_left vdb start q)
    pub passed : (q : Coord) → IsTrue (is_inside everywhere q) → IsTrue (is_past vdb after q) → IsTrue (is_left vdb start q) → is_left vdb w.at q ≡ false → IsFlat (field_of vdb t) q

  module _ (old new : TreeWalk V) (idle : IsIdle old) where
    flat : (but : Coord → Bool) → Passes vdb t old new but → (q : Coord) → IsTrue (is_inside everywhere q) → IsTrue (is_left vdb old.at q) → is_left vdb new.at q ≡ false → but q ≡ false → IsFlat (field_of vdb t) q
    flat but passes q i was gone other =
        rw idle.skip at (passes.passed q (rw idle.box i) was gone other)

    module _ (box : Box) (yields : YieldsBox vdb t old new box) where
      met : (q : Coord) → IsTrue (is_inside everywhere q) → IsTrue (is_past vdb after q) → IsTrue (is_left vdb start q) → is_left vdb new.at q ≡ false → IsTrue (is_inside box q) ⊎ IsFlat (field_of vdb t) q
      met q i past left gone =
          elim (bool_cases (is_inside box q)) [
            | inl in_box ↦ inl in_box
            | inr beside ↦ elim (bool_cases (is_left vdb old.at q)) [
              | inl was ↦ inr (flat (is_inside box) yields.passes q i was gone beside)
              | inr before ↦ inr (idle.passed q i past left before)
            ]
          ]

      -- a part that doesn't end past the coordinate
      pub idle_next : is_past vdb after box.max ≡ false → IsIdle new
      idle_next ends = record {
        box = yields.passes.box ∙ idle.box;
        skip = yields.passes.skip ∙ idle.skip;
        later = λ q left. idle.later q (yields.passes.later q left);
        passed = λ q i past left gone. elim (met q i past left gone) [
          | inl in_box ↦ absurd (none_past after box q ends in_box past)
          | inr is ↦ is
        ];
      }

      -- a part that ends past it
      pub passes_to : IsTrue (is_bounds box) → IsTrue (is_past vdb after box.max) → PassesTo (field_of vdb t) after start new.at box
      passes_to bounds on = record {
        bounds = bounds;
        on = on;
        later = λ q left. idle.later q (yields.passes.later q left);
        left = λ q i. idle.later q (yields.left q i);
        gone = yields.gone;
        passed = met;
      }

    -- no part
    pub passes_all : Passes vdb t old new (λ q. false) → new.at ≡ None → PassesAll (field_of vdb t) after start
    passes_all passes none q i past left =
        let gone : is_left vdb new.at q ≡ false = ap (λ (o : Option Coord). is_left vdb o q) none in
        elim (bool_cases (is_left vdb old.at q)) [
          | inl was ↦ flat (λ p. false) passes q i was gone refl
          | inr before ↦ idle.passed q i past left before
        ]

  pub idle_start : (w : TreeWalk V) → w.at ≡ start → w.box ≡ everywhere → w.skip ≡ Background → IsIdle w
  idle_start w at box skip = record {
    box = box;
    skip = skip;
    later = λ q left. subst (λ (o : Option Coord). IsTrue (is_left vdb o q)) at left;
    passed = λ q i past left gone. absurd (never (sym (ap (λ (o : Option Coord). is_left vdb o q) at) ∙ gone) left);
  }

-- ---- the parts in an array

part_other : (parts : List GridPart) (k : ℕ) (p : GridPart) (j : ℕ) → j ≢ k → part_at (set parts k p) j ≡ part_at parts j
part_other parts k p j other = get_or-set_other parts k j p _ other

part_here : (parts : List GridPart) (k : ℕ) (p : GridPart) → k < length parts → part_at (set parts k p) k ≡ p
part_here parts k p l = get_or-set_same parts k p _ l

end_other : (after : Option Coord) (parts : List GridPart) (k : ℕ) (p : GridPart) (j : ℕ) → j ≤ k → end_before after (set parts k p) j ≡ end_before after parts j
end_other after parts k p zero h = refl
end_other after parts k p (suc j) h = ap (λ (x : GridPart). Some (voxels_of x).max) (part_other parts k p j (λ e. absurd (omega (arith, h, e))))

module _ {V : Type 0} (number : V → ℤ) (f : Field V) (after : Option Coord) where
  -- the first k parts are in the array, and past the coordinate the walk has passed over nothing else but background
  pub record AreCopied (k : ℕ) (old new : List GridPart) (at : Option Coord) : Type 0 where
    pub size : length new ≡ length old
    pub each : (j : ℕ) → j < k → IsPartOf number f (part_at new j)
    pub on : (j : ℕ) → j < k → IsTrue (is_past vdb (end_before after new j) (voxels_of (part_at new j)).max)
    pub apart : (j : ℕ) → j < k → IsApart new j
    pub gone : (j : ℕ) → j < k → is_left vdb at (voxels_of (part_at new j)).max ≡ false
    pub passed : (q : Coord) → IsTrue (is_inside everywhere q) → IsTrue (is_past vdb after q) → is_left vdb at q ≡ false → IsInParts new k q ⊎ IsFlat f q
    pub others : (i : ℕ) (d : GridPart) → k ≤ i → get_or new i d ≡ get_or old i d

  pub copied_none : (old : List GridPart) (at : Option Coord) → ((q : Coord) → IsTrue (is_inside everywhere q) → is_left vdb at q ≡ false → is_past vdb after q ≡ false) → AreCopied 0 old old at
  copied_none old at earlier = record {
    size = refl;
    each = λ j l. absurd (omega (arith, l));
    on = λ j l. absurd (omega (arith, l));
    apart = λ j l. absurd (omega (arith, l));
    gone = λ j l. absurd (omega (arith, l));
    passed = λ q i past gone. absurd (never (earlier q i gone) past);
    others = λ i d l. refl;
  }

  module _ (k : ℕ) (old new : List GridPart) (at : Option Coord) (had : AreCopied k old new at) where
    -- one part more
    module _ (p : GridPart) (next : Option Coord) (to : PassesTo f after at next (voxels_of p)) (small : k < length new) where
      here : part_at (set new k p) k ≡ p
      here = part_here new k p small

      before : (j : ℕ) → j < k → part_at (set new k p) j ≡ part_at new j
      before j l = part_other new k p j (λ e. absurd (omega (arith, l, e)))

      still_gone : (q : Coord) → is_left vdb at q ≡ false → is_left vdb next q ≡ false
      still_gone q gone = elim (bool_cases (is_left vdb next q)) [
        | inl left ↦ absurd (never gone (to.later q left))
        | inr is ↦ is
      ]

      ends_on : (n : ℕ) → n ≡ k → IsTrue (is_past vdb (end_before after new n) (voxels_of p).max)
      ends_on zero e = to.on
      ends_on (suc j) e = left_past at (voxels_of (part_at new j)).max (voxels_of p).max (had.gone j (omega (arith, e))) (to.left (voxels_of p).max (max_inside (voxels_of p) to.bounds))

      apart_before : (j : ℕ) → j < k → IsApart new j → IsApart (set new k p) j
      apart_before zero l is = tt
      apart_before (suc j) l is = rw (before (suc j) l, before j (omega (arith, l))) is

      apart_here : (n : ℕ) → n ≡ k → IsApart (set new k p) n
      apart_here zero e = tt
      apart_here (suc j) e = λ q i.
          let inside : IsTrue (is_inside (voxels_of p) q) = subst (λ (x : GridPart). IsTrue (is_inside (voxels_of x) q)) (ap (part_at (set new k p)) e ∙ here) i in
          subst (λ (x : GridPart). IsTrue (is_past vdb (Some (voxels_of x).max) q)) (sym (before j (omega (arith, e)))) (left_past at (voxels_of (part_at new j)).max q (had.gone j (omega (arith, e))) (to.left q inside))

      in_more : (q : Coord) → IsInParts new k q → IsInParts (set new k p) (k + 1) q
      in_more q is = (is.0, omega (arith, is.1), subst (λ (x : GridPart). IsTrue (is_inside (voxels_of x) q)) (sym (before is.0 is.1)) is.2)

      in_last : (q : Coord) → IsTrue (is_inside (voxels_of p) q) → IsInParts (set new k p) (k + 1) q
      in_last q is = (k, omega arith, subst (λ (x : GridPart). IsTrue (is_inside (voxels_of x) q)) (sym here) is)

      by_index : (P : ℕ → Type 0) → ((j : ℕ) → j < k → P j) → P k → (j : ℕ) → j < k + 1 → P j
      by_index P earlier last j l = elim (cases_eq j k) [
        | inl e ↦ subst P (sym e) last
        | inr other ↦ earlier j (omega (arith, l, other))
      ]

      pub copied_next : IsPartOf number f p → AreCopied (k + 1) old (set new k p) next
      copied_next is = record {
        size = length-set new k p ∙ had.size;
        each = by_index (λ j. IsPartOf number f (part_at (set new k p) j)) (λ j l. subst (IsPartOf number f) (sym (before j l)) (had.each j l)) (subst (IsPartOf number f) (sym here) is);
        on =
            by_index (λ j. IsTrue (is_past vdb (end_before after (set new k p) j) (voxels_of (part_at (set new k p) j)).max))
            (λ j l. rw (end_other after new k p j (omega (arith, l)), before j l) (had.on j l)) (rw (end_other after new k p k (omega arith), here) (ends_on k refl));
        apart = by_index (IsApart (set new k p)) (λ j l. apart_before j l (had.apart j l)) (apart_here k refl);
        gone = by_index (λ j. is_left vdb next (voxels_of (part_at (set new k p) j)).max ≡ false) (λ j l. rw (before j l) (still_gone _ (had.gone j l))) (rw here (to.gone (voxels_of p).max (max_inside (voxels_of p) to.bounds)));
        passed = λ q i past gone. elim (bool_cases (is_left vdb at q)) [
          | inl was ↦ elim (to.passed q i past was gone) [
            | inl in_box ↦ inl (in_last q in_box)
            | inr flat ↦ inr flat
          ]
          | inr already ↦ elim (had.passed q i past already) [
            | inl is_in ↦ inl (in_more q is_in)
            | inr flat ↦ inr flat
          ]
        ];
        others = λ i d l. get_or-set_other new k i p d (λ e. absurd (omega (arith, e, l))) ∙ had.others i d (omega (arith, l));
      }

    -- no part is left
    pub copied_all : PassesAll f after at → k ≤ length old → ArePartsPast number f after k old new
    copied_all rest fits = record {
      size = had.size;
      fits = fits;
      each = had.each;
      on = had.on;
      apart = had.apart;
      all = λ q i past _. elim (bool_cases (is_left vdb at q)) [
        | inl left ↦ inr (rest q i past left)
        | inr gone ↦ had.passed q i past gone
      ];
      others = had.others;
    }

    ended : (n : ℕ) → n ≡ k → (q : Coord) → IsTrue (is_past vdb after q) → is_past vdb (end_before after new n) q ≡ false → is_left vdb at q ≡ false
    ended zero e q past ends = absurd (never ends past)
    ended (suc j) e q past ends = elim (bool_cases (is_left vdb at q)) [
      | inl left ↦ absurd (never ends (left_past at (voxels_of (part_at new j)).max q (had.gone j (omega (arith, e))) left))
      | inr gone ↦ gone
    ]

    -- there is no room for more
    pub copied_full : k ≡ length old → ArePartsPast number f after k old new
    copied_full full = record {
      size = had.size;
      fits = omega (arith, full);
      each = had.each;
      on = had.on;
      apart = had.apart;
      all = λ q i past cases. elim cases [
        | inl room ↦ absurd (omega (arith, room, full))
        | inr ends ↦ had.passed q i past (ended k refl q past ends)
      ];
      others = had.others;
    }
