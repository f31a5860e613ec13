-- The first voxel of a leaf that is on.
use Rattle.vdb_walk.proofs.Common.{◌≡◌, ◌⊎◌, inl, inr, sym, ◌∙◌, subst, ℕ, ◌+◌, ◌<◌, ◌≤◌, true, false, List, Bool, arith, Option, Some, None, is_lt, block_cmp, block_number, is_past, offset, Box, is_box, is_inside, Bits, Coord, Leaf, Lower, Upper, lower_from_leaf, offset_from_entry, upper_from_lower, voxel_from_leaf, min_inside, IsFirst, IsInLeafBlock, IsOnPast, IsPastLast, IsInFirstBlock, IsNextSet}
use Rattle.std.specs.Option.{option_map}
use Rattle.vdb_walk.specs.internal.Firsts.{IsEntryPast}
use Rattle.vdb_walk.proofs.BoxOrder.{from_leaf}
use Rattle.vdb_walk.proofs.Firsts.{never_back, never_itself, past_after}

false_true : false ≡ true → ⊥
false_true e = cc

less_or_same : (m n : ℕ) → m ≤ n → (m < n) ⊎ (m ≡ n)
less_or_same m n h = grind arith

below_or_from : (m n : ℕ) → (m < n) ⊎ (n ≤ m)
below_or_from m n = grind arith

module _ (bits : Bits) where
  -- in one leaf block, a coordinate at an entry no earlier than a voxel's doesn't come before that voxel
  pub later_in_leaf : (p q : Coord) → block_number bits Leaf p ≡ block_number bits Leaf q → offset bits Leaf p ≤ offset bits Leaf q → is_lt (block_cmp bits q p) ≡ false
  later_in_leaf p q b h =
      elim (less_or_same _ _ h) [
        | inl l ↦
            let lower = lower_from_leaf bits p q b in
            never_back bits p q (from_leaf bits p q (upper_from_lower bits p q lower) (offset_from_entry bits Upper p q lower) (offset_from_entry bits Lower p q b) l)
        | inr e ↦ subst (λ (c : Coord). is_lt (block_cmp bits c p) ≡ false) (voxel_from_leaf bits p q b e) (never_itself bits p)
      ]

  -- in a part of the leaf's block
  module _ (part : Box) (block : IsInLeafBlock bits part) where
    earlier : (p q : Coord) → is_inside part p ≡ true → is_inside part q ≡ true → offset bits Leaf p < offset bits Leaf q → is_lt (block_cmp bits p q) ≡ true
    earlier p q i j l =
        let b = block p q i j in
        let lower = lower_from_leaf bits p q b in
        from_leaf bits p q (upper_from_lower bits p q lower) (offset_from_entry bits Upper p q lower) (offset_from_entry bits Lower p q b) l

    -- a coordinate past one of its voxels has a later entry
    pub past_entry : (p : Coord) → is_inside part p ≡ true → (from : ℕ) → from ≡ offset bits Leaf p + 1 → IsEntryPast bits (Some p) part from
    past_entry p i from e = λ q j. (
      λ past. elim (below_or_from (offset bits Leaf p) (offset bits Leaf q)) [
        | inl l ↦ omega (arith, l, e)
        | inr l ↦ absurd (false_true (sym (later_in_leaf q p (block q p j i) l) ∙ past))
      ],
      λ h. earlier p q i j (omega (arith, h, e)),
    )

    -- a coordinate past the last one has an entry from the first such entry on
    module _ (after : Option Coord) (start : Coord) (first : IsFirst bits (IsPastLast bits after) part (Some start)) where
      from_past : (q : Coord) → is_inside part q ≡ true → IsPastLast bits after q → offset bits Leaf start ≤ offset bits Leaf q
      from_past q i past =
          elim (below_or_from (offset bits Leaf q) (offset bits Leaf start)) [
            | inl l ↦ absurd (false_true (sym (first.2 q i past) ∙ earlier q start i first.0 l))
            | inr l ↦ l
          ]

      past_from : (q : Coord) → is_inside part q ≡ true → offset bits Leaf start ≤ offset bits Leaf q → IsPastLast bits after q
      past_from q i h =
          elim (less_or_same _ _ h) [
            | inl l ↦ past_after bits after start q first.1 (earlier start q first.0 i l)
            | inr e ↦ subst (λ (c : Coord). is_past bits after c ≡ true) (voxel_from_leaf bits start q (block start q first.0 i) e) first.1
          ]

      pub first_entry : (from : ℕ) → from ≡ offset bits Leaf start → IsEntryPast bits after part from
      first_entry from e = λ q i. (
        λ past. subst (λ n. n ≤ offset bits Leaf q) (sym e) (from_past q i past),
        λ h. past_from q i (subst (λ n. n ≤ offset bits Leaf q) e h),
      )

    -- the first coordinate from this entry on whose state is on is the first past the last one
    module _ (states : List Bool) (after : Option Coord) (from : ℕ) (split : IsEntryPast bits after part from) where
      pub set_is_first : (found : Option (ℕ × Coord)) → IsNextSet bits states part from found → IsFirst bits (IsOnPast bits after states) part (option_map (λ next. next.1) found)
      set_is_first (Some next) h = (
        h.inside,
        ((split next.1 h.inside).1 (let on = h.from_on in let at = h.at in omega (arith, on, at)), h.here),
        λ q i k. later_in_leaf next.1 q (block next.1 q h.inside i) (elim (below_or_from (offset bits Leaf q) next.0) [
          | inl l ↦ absurd (false_true (sym (h.before q i ((split q i).0 k.0) l) ∙ k.1))
          | inr l ↦ let at = h.at in omega (arith, l, at)
        ]),
      )
      set_is_first None h = λ q i k. false_true (sym (h q i ((split q i).0 k.0)) ∙ k.1)

    -- the part lies in the block of its least corner
    pub in_first_block : is_box part ≡ true → IsInFirstBlock bits part
    in_first_block order q i = block q part.min i (min_inside part order)
