-- Counts active voxels part by part.
use Rattle.vdb_walk.proofs.Common.{◌≡◌, sym, ap, ◌∙◌, refl, subst, ℕ, ◌+◌, ◌^◌, ◌≤◌, Bool, true, false, not, ◌&&◌, List, [], length, arith, Option, Some, None, IsDistinct, count_by, filter, is_member, length-filter_both, length-filter, is_member-filter, length-from_same_keys, is_bounds, Box, coord_eq, coordinates, is_inside, Bits, Coord, not_before_min, member_passing, count_by_members, distinct_filter, distinct_coordinates, coord_equiv, coord_exact, Layout, field_of, Passes, TreeWalk, YieldsBox, IsSkipped, is_left, count, Skip, Inactive}
use Rattle.vdb_walk.proofs.Counts.{count_few, none_on, nothing_apart, volume_few}

-- ---- any test

-- the coordinates of a box that pass a test are as many as the items of a list that pass another, if both are the same
pub count_listed : (b : Box) (t : Coord → Bool) (keys : List Coord) → IsDistinct coord_eq keys → ((p : Coord) → is_member coord_eq keys p ≡ (is_inside b p && t p)) → count_by t (coordinates b) ≡ length keys
count_listed b t keys apart same = sym (length-filter t (coordinates b)) ∙ count_by_members b t keys apart same

-- the coordinates of a box that pass a test are the listed ones, which also pass a second test, and the others
pub count_split : (b : Box) (t s v : Coord → Bool) (keys : List Coord) → IsDistinct coord_eq keys → ((p : Coord) → is_member coord_eq keys p ≡ ((is_inside b p && t p) && s p))
    → ((p : Coord) → ((is_inside b p && t p) && not (s p)) ≡ (is_inside b p && v p)) → length keys + count_by v (coordinates b) ≡ count_by t (coordinates b)
count_split b t s v keys apart first others =
    let one = alike s keys apart (λ p. sym (first p)) in
    let two = alike (λ p. not (s p)) (filter v (coordinates b)) (distinct_filter coord_eq v (coordinates b) (distinct_coordinates b)) (λ p. others p ∙ sym (member_passing b v p)) in
    let both = length-filter_both s (λ p. not (s p)) (λ p. refl) (filter t (coordinates b)) in
    let whole = length-filter t (coordinates b) in
    let rest = length-filter v (coordinates b) in
    omega (arith, one, two, both, whole, rest)
  where
    alike : (r : Coord → Bool) (ks : List Coord) → IsDistinct coord_eq ks → ((p : Coord) → ((is_inside b p && t p) && r p) ≡ is_member coord_eq ks p) → length (filter r (filter t (coordinates b))) ≡ length ks
    alike r ks distinct same =
        length-from_same_keys coord_equiv (filter r (filter t (coordinates b))) ks
        (distinct_filter coord_eq r (filter t (coordinates b)) (distinct_filter coord_eq t (coordinates b) (distinct_coordinates b))) distinct
        (λ q. is_member-filter coord_equiv r q (λ x e. ap r (coord_exact q x e)) (filter t (coordinates b)) ∙ ap (λ i. i && r q) (member_passing b t q) ∙ same q)

-- tests that agree in a box give the same count
pub count_alike : (b : Box) (t u : Coord → Bool) → ((p : Coord) → is_inside b p ≡ true → t p ≡ u p) → count_by t (coordinates b) ≡ count_by u (coordinates b)
count_alike b t u same =
    count_listed b t (filter u (coordinates b)) (distinct_filter coord_eq u (coordinates b) (distinct_coordinates b))
    (λ p. member_passing b u p ∙ step (is_inside b p) (t p) (u p) (same p))
    ∙ length-filter u (coordinates b)
  where
    step : (i x y : Bool) → (i ≡ true → x ≡ y) → (i && y) ≡ (i && x)
    step true x y h = sym (h refl)
    step false x y h = refl

-- ---- booleans: inside the box, active, left before, left now, inside the part

pub first_way : (i o l c : Bool) → (c ≡ true → i ≡ true) → (c ≡ true → l ≡ true) → ((i && (o && l)) && c) ≡ (c && o)
first_way i o l true h k = rw (h refl, k refl) (step o)
  where
    step : (x : Bool) → ((true && (x && true)) && true) ≡ (true && x)
    step true = refl
    step false = refl
first_way i o l false h k = never (i && (o && l))
  where
    never : (x : Bool) → (x && false) ≡ false
    never true = refl
    never false = refl

pub other_way : (i o l n c : Bool) → (c ≡ true → n ≡ false) → (n ≡ true → l ≡ true) → (i ≡ true → l ≡ true → n ≡ false → c ≡ false → o ≡ false) → ((i && (o && l)) && not c) ≡ (i && (o && n))
other_way false o l n c gone later passed = refl
other_way true false l n c gone later passed = refl
other_way true true true true true gone later passed = sym (gone refl)
other_way true true true true false gone later passed = refl
other_way true true true false true gone later passed = refl
other_way true true true false false gone later passed = passed refl refl refl refl
other_way true true false true c gone later passed = absurd (let never : false ≡ true = later refl in cc)
other_way true true false false c gone later passed = refl

-- ---- a walk that skips inactive parts

module _ {V : Type 0} (bits : Bits) (t : Layout V) where
  abbrev on : Coord → Bool
  on p = ((field_of bits t).cell p).on

  -- how many active voxels of the box are left
  abbrev pub active_left : Option Coord → Box → ℕ
  active_left at box = count_by (λ p. on p && is_left bits at p) (coordinates box)

  -- at the walk's start all active voxels are left
  pub left_first : (box : Box) → active_left (Some box.min) box ≡ count (field_of bits t) box
  left_first box = count_alike box (λ p. on p && is_left bits (Some box.min) p) on (λ p i. also (on p) (is_left bits (Some box.min) p) (from_min p i))
    where
      also : (o l : Bool) → l ≡ true → (o && l) ≡ o
      also true l h = h
      also false l h = refl

      from_min : (p : Coord) → is_inside box p ≡ true → is_left bits (Some box.min) p ≡ true
      from_min p i = turned _ (not_before_min bits box p i)
        where
          turned : (b : Bool) → (b ≡ true → ⊥) → not b ≡ true
          turned true h = absurd (h refl)
          turned false h = refl

  module _ (old new : TreeWalk V) (skip : old.skip ≡ Inactive) where
    was_off : (but : Coord → Bool) → Passes bits t old new but → (p : Coord) → is_inside old.box p ≡ true → is_left bits old.at p ≡ true → is_left bits new.at p ≡ false → but p ≡ false → on p ≡ false
    was_off but passes p i l gone out = subst (λ (s : Skip). IsSkipped bits s t p) skip (passes.passed p i l gone out)

    -- a part reduces the count by its own active voxels
    pub left_less : (part : Box) → YieldsBox bits t old new part → count (field_of bits t) part + active_left new.at old.box ≡ active_left old.at old.box
    left_less part y =
        let mine = filter on (coordinates part) in
        let split =
        count_split old.box (λ p. on p && is_left bits old.at p) (is_inside part) (λ p. on p && is_left bits new.at p) mine (distinct_filter coord_eq on (coordinates part) (distinct_coordinates part))
        (λ p. member_passing part on p ∙ sym (first_way (is_inside old.box p) (on p) (is_left bits old.at p) (is_inside part p) (y.inside p) (y.left p)))
        (λ p. other_way (is_inside old.box p) (on p) (is_left bits old.at p) (is_left bits new.at p) (is_inside part p) (y.gone p) (y.passes.later p) (was_off (is_inside part) y.passes p)) in
        let few = length-filter on (coordinates part) in
        omega (arith, split, few)

    -- at the walk's end no active voxel is left
    pub left_last : Passes bits t old new (λ p. false) → new.at ≡ None → active_left old.at old.box ≡ 0
    left_last passes none =
        count_listed old.box (λ p. on p && is_left bits old.at p) [] nothing_apart
        (λ p. none_on (is_inside old.box p) (on p && is_left bits old.at p) (λ i. inactive (on p) (is_left bits old.at p) (λ l. was_off (λ q. false) passes p i l (ap (λ (o : Option Coord). is_left bits o p) none) refl)))
      where
        inactive : (o l : Bool) → (l ≡ true → o ≡ false) → (o && l) ≡ false
        inactive true true h = h refl
        inactive true false h = refl
        inactive false l h = refl

    -- ---- the sum over the parts

    module _ (box : Box) (same : old.box ≡ box) (total : ℕ) (counted : total + active_left old.at box ≡ count (field_of bits t) box) where
      pub counted_more : (part : Box) → YieldsBox bits t old new part → (more : ℕ) → more ≡ count (field_of bits t) part → total + more + active_left new.at box ≡ count (field_of bits t) box
      counted_more part y more is =
          let less = subst (λ (b : Box). count (field_of bits t) part + active_left new.at b ≡ active_left old.at b) same (left_less part y) in
          omega (arith, less, is, counted)

      -- the sum is no more than the whole count
      pub counted_few : (part : Box) → YieldsBox bits t old new part → (more : ℕ) → more ≡ count (field_of bits t) part → is_bounds box ≡ true → total + more ≤ 2 ^ 96
      counted_few part y more is bounds =
          let all = counted_more part y more is in
          let few = count_few (field_of bits t) box in
          let bound = volume_few box bounds in
          omega (arith, all, few, bound)

      -- at the walk's end the sum is the whole count
      pub counted_all : Passes bits t old new (λ p. false) → new.at ≡ None → total ≡ count (field_of bits t) box
      counted_all passes none =
          let last = subst (λ (b : Box). active_left old.at b ≡ 0) same (left_last passes none) in
          omega (arith, last, counted)

      pub all_few : Passes bits t old new (λ p. false) → new.at ≡ None → is_bounds box ≡ true → total ≤ 2 ^ 96
      all_few passes none bounds =
          let all = counted_all passes none in
          let few = count_few (field_of bits t) box in
          let bound = volume_few box bounds in
          omega (arith, all, few, bound)
