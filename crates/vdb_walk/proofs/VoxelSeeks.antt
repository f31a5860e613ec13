-- The voxels of a leaf in a box, one after another.
use Rattle.vdb_walk.proofs.Common.{◌≡◌, ◌⊎◌, inl, inr, sym, ap, ◌∙◌, ℕ, ◌+◌, ◌<◌, ◌≤◌, Bool, true, false, List, arith, Some, block_around, block_number, entries, offset, sub_block, Box, is_inside, Bits, Coord, Leaf, corner_of_entry, voxel_from_leaf, is_on, IsOffFrom, is_set, IsInFirstBlock, IsNextSet}
use Rattle.vdb_mask.specs.Mask.{IsNextAt}

false_true : false ≡ true → ⊥
false_true e = cc

below_or_from : (m n : ℕ) → (m < n) ⊎ (n ≤ m)
below_or_from m n = grind arith

pub before_or_at : (o entry : ℕ) → o < entry + 1 → (o < entry) ⊎ (o ≡ entry)
before_or_at o entry h = grind arith

-- in one leaf block only one voxel has a given entry
pub same_entry : (bits : Bits) (part : Box) → IsInFirstBlock bits part → (p q : Coord) → is_inside part p ≡ true → is_inside part q ≡ true → offset bits Leaf p ≡ offset bits Leaf q → p ≡ q
same_entry bits part block p q i j e = voxel_from_leaf bits p q (block p i ∙ sym (block q j)) e

module _ (bits : Bits) (states : List Bool) (part : Box) (from : ℕ) where
  -- before this entry, each state of the part's voxels is off
  pub record IsInactiveTo (at : ℕ) : Type 0 where
    pub from_on : from ≤ at
    pub inactive : (q : Coord) → is_inside part q ≡ true → from ≤ offset bits Leaf q → offset bits Leaf q < at → is_set bits states q ≡ false

  module _ (at n : ℕ) (done : IsInactiveTo at) where
    module _ (index : ℕ) (next : IsNextAt true states n at index) where
      before : (q : Coord) → is_inside part q ≡ true → from ≤ offset bits Leaf q → offset bits Leaf q < index → is_set bits states q ≡ false
      before q i f h = elim (below_or_from (offset bits Leaf q) at) [ inl b ↦ done.inactive q i f b | inr b ↦ next.before (offset bits Leaf q) b h ]

      module _ (past_end : IsOffFrom states (entries bits Leaf)) where
        -- it is an entry of the leaf
        pub set_below : index < entries bits Leaf
        set_below = elim (below_or_from index (entries bits Leaf)) [ inl h ↦ h | inr h ↦ absurd (false_true (sym (past_end index h) ∙ next.here)) ]

        module _ (p : Coord) (corner : p ≡ (sub_block bits Leaf (block_around bits Leaf part.min) index).min) where
          in_block : block_number bits Leaf p ≡ block_number bits Leaf part.min
          in_block = ap (block_number bits Leaf) corner ∙ (corner_of_entry bits Leaf part.min index set_below).0

          at_index : offset bits Leaf p ≡ index
          at_index = ap (offset bits Leaf) corner ∙ (corner_of_entry bits Leaf part.min index set_below).1

          -- the entry's voxel is the next if it lies in the part
          pub set_found : is_inside part p ≡ true → IsNextSet bits states part from (Some (index, p))
          set_found i = record {
            from_on = let first = done.from_on in let on = next.from_on in omega (arith, first, on);
            inside = i;
            at = at_index;
            here = ap (λ k. is_on states k) at_index ∙ next.here;
            before = before;
          }

          -- the entry is passed if its voxel lies outside the part
          pub set_passed : IsInFirstBlock bits part → is_inside part p ≡ false → IsInactiveTo (index + 1)
          set_passed block beside = record {
            from_on = let first = done.from_on in let on = next.from_on in omega (arith, first, on);
            inactive = λ q i f h. elim (before_or_at (offset bits Leaf q) index h) [
              | inl b ↦ before q i f b
              | inr e ↦ absurd (false_true (sym beside ∙ ap (is_inside part) (voxel_from_leaf bits p q (in_block ∙ sym (block q i)) (at_index ∙ sym e)) ∙ i))
            ];
          }
