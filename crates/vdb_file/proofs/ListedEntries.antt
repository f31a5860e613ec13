-- The entries of a block that hold anything but the background.
use Rattle.vdb_file.proofs.Common.{◌≡◌, ◌⊎◌, inl, inr, ℕ, ◌+◌, ◌<◌, ◌≤◌, Bool, true, false, not, List, arith, refl, sym, ap, subst, ◌∙◌, block, block_around, entries, offset, sub_block, Box, Bits, Coord, Level, Leaf, Lower, Upper, corner_of_entry, in_entry, leaf_block_at_offset, lower_block_at_offset, IsFirstWithoutAt, is_background, is_uniform, Field, off, IsNextAbove, never, uniform_from, listed, passing}
use Rattle.vdb_coord.specs.Blocks.{entry_numbers}
use Rattle.vdb_tree.specs.Unlike.{IsCellFrom, IsNextUnlikeAt}

below_or_from : (k at : ℕ) → (k < at) ⊎ (at ≤ k)
below_or_from k at = grind arith

-- the listed entries are those that aren't all background
pub listed_is : {V : Type 0} (eq : V → V → Bool) (value_bytes : V → List ℕ) (bits : Bits) (f : Field V) (level : Level) (b : Box)
    → listed eq value_bytes bits f level b ≡ passing (λ i. not (is_background eq f (sub_block bits level b i))) (entries bits level)
unfolding entry_numbers
listed_is eq value_bytes bits f level b = refl

module _ (bits : Bits) (p : Coord) where
  abbrev pub around : Level → ℕ → Box
  around level i = sub_block bits level (block_around bits level p) i

  -- an entry's coordinates are a block of the level below
  pub entry_block : (level below : Level) → IsNextAbove level below → (i : ℕ) → i < entries bits level → block_around bits below (around level i).min ≡ around level i
  entry_block Upper Lower next i less =
      let c = corner_of_entry bits Upper p i less in
      sym (lower_block_at_offset bits (around Upper i).min)
      ∙ ap (λ (n : Coord). sub_block bits Upper (block bits Upper n) (offset bits Upper (around Upper i).min)) c.0
      ∙ ap (sub_block bits Upper (block_around bits Upper p)) c.1
  entry_block Lower Leaf next i less =
      let c = corner_of_entry bits Lower p i less in
      sym (leaf_block_at_offset bits (around Lower i).min)
      ∙ ap (λ (n : Coord). sub_block bits Lower (block bits Lower n) (offset bits Lower (around Lower i).min)) c.0
      ∙ ap (sub_block bits Lower (block_around bits Lower p)) c.1
  entry_block Upper Upper next i less = absurd next
  entry_block Upper Leaf next i less = absurd next
  entry_block Lower Upper next i less = absurd next
  entry_block Lower Lower next i less = absurd next
  entry_block Leaf below next i less = absurd next

  -- whether an entry is all background
  abbrev pub flat : {V : Type 0} → (V → V → Bool) → Field V → Level → ℕ → Bool
  flat eq f level i = is_background eq f (around level i)

  module _ {V : Type 0} (eq : V → V → Bool) (exact : (x y : V) → eq x y ≡ true → x ≡ y) (itself : (x : V) → eq x x ≡ true) (f : Field V) (level : Level) where
    abbrev flat_at : ℕ → Bool
    flat_at = flat eq f level

    -- entries without another cell are background
    pub passed_over : (from to : ℕ) → to ≤ entries bits level → IsCellFrom bits f.cell level p (off f.background) from to → (i : ℕ) → from ≤ i → i < to → flat_at i ≡ true
    passed_over from to within cells i more less =
        uniform_from eq exact itself f (around level i) (off f.background) (λ q inside.
        let k : i < entries bits level = omega (arith, less, within) in
        let at = in_entry bits level p q i k inside in
        let e = at.1 in
        cells q at.0 (omega (arith, more, e)) (omega (arith, less, e)))

    module _ (from at : ℕ) (in_order : from ≤ at) (done : (k : ℕ) → from ≤ k → k < at → flat_at k ≡ true) where
      module _ (i : ℕ) (next : IsNextUnlikeAt bits f.cell level p (off f.background) at i) where
        up_to : (k : ℕ) → from ≤ k → k < i → flat_at k ≡ true
        up_to k more less = elim (below_or_from k at) [
          | inl h ↦ done k more h
          | inr h ↦ passed_over at i (let w = next.within in omega (arith, w)) next.before k h less
        ]

        -- the next entry that isn't background is the first
        pub listed_next : flat_at i ≡ false → IsFirstWithoutAt (λ k. flat_at k ≡ true) (entries bits level) from i
        listed_next h = record {
          within = next.within;
          from_on = let a = next.from_on in omega (arith, a, in_order);
          here = λ k. never h k;
          before = up_to;
        }

        -- one more background entry is skipped
        pub flat_more : flat_at i ≡ true → (k : ℕ) → from ≤ k → k < i + 1 → flat_at k ≡ true
        flat_more h k more less = elim (below_or_from k i) [
          | inl l ↦ up_to k more l
          | inr l ↦ let e : i ≡ k = omega (arith, l, less) in subst (λ (n : ℕ). flat_at n ≡ true) e h
        ]

      -- if no entry is left, all are background
      pub flat_rest : IsCellFrom bits f.cell level p (off f.background) at (entries bits level) → (k : ℕ) → from ≤ k → k < entries bits level → flat_at k ≡ true
      flat_rest rest k more less = elim (below_or_from k at) [
        | inl h ↦ done k more h
        | inr h ↦ passed_over at (entries bits level) (let e : entries bits level ≤ entries bits level = omega arith in e) rest k h less
      ]

    -- the test of the block below around an entry's first coordinate
    pub flat_test : (below : Level) → IsNextAbove level below → (i : ℕ) → i < entries bits level → (corner : Coord) → corner ≡ (around level i).min → (test : Bool) → test ≡ is_uniform eq f (block_around bits below corner) (off f.background) → flat_at i ≡ test
    flat_test below next i less corner at test e =
        sym (e ∙ ap (λ (c : Coord). is_uniform eq f (block_around bits below c) (off f.background)) at ∙ ap (λ (b : Box). is_uniform eq f b (off f.background)) (entry_block level below next i less))
