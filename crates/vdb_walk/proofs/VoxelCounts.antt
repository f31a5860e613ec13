-- Counts the voxels of a leaf in a box by the states of the leaf.
use Rattle.vdb_walk.proofs.Common.{◌≡◌, inl, inr, refl, suc, pos, ◌+ℤ◌, ◌-ℤ◌, unsigned_abs, sym, ap, ◌∙◌, subst, ℕ, ◌+◌, ◌<◌, ◌≤◌, Bool, true, false, not, ◌&&◌, ◌||◌, List, [], ◌∷◌, arith, None, int_min, count_by, block_around, block_number, entries, offset, is_bounds, AreBits, Box, coord, coord_eq, coordinates, everywhere, is_box, is_inside, is_within, Bits, Coord, Leaf, both, within_each, coord_equiv, coord_exact, inside_numbered, is_on, on_count, Field, IsPartOfLeaf, count, Cell, is_set, IsInFirstBlock, IsNextSet, IsNextSetAt, set_count}
use Rattle.std.proofs.Common.{zero, nat_lt}
use Rattle.std.specs.List.{IsDistinct}
use Rattle.std.proofs.lemmas.Bool.Decides.{nat_tests}
use Rattle.vdb_node.specs.Leaf.{Leaf as LeafOf}
use Rattle.vdb_tree.proofs.LeafCounts.{leaf_counted}
use Rattle.vdb_walk.proofs.Counts.{none_on, nothing_apart}
use Rattle.vdb_walk.proofs.PartCounts.{count_alike, count_listed, count_split, first_way, other_way}
use Rattle.vdb_walk.proofs.Surrounds.{min_inside}
use Rattle.vdb_walk.proofs.VoxelRows.{further_voxel}
use Rattle.vdb_walk.proofs.VoxelSeeks.{before_or_at, same_entry}

one_apart : (p : Coord) → IsDistinct coord_eq (p ∷ [])
unfolding IsDistinct
one_apart p = (tt, tt)

inactive : (o l : Bool) → (l ≡ true → o ≡ false) → (o && l) ≡ false
inactive true true h = h refl
inactive true false h = refl
inactive false l h = refl

alone : (c o : Bool) → (c ≡ true → o ≡ true) → (c || false) ≡ (c && o)
alone true o h = sym (h refl)
alone false o h = refl

from_le : (from o : ℕ) → not (nat_lt o from) ≡ true → from ≤ o
from_le from o h = grind (arith, nat_tests)

le_from : (from o : ℕ) → from ≤ o → not (nat_lt o from) ≡ true
le_from from o h = grind (arith, nat_tests)

from_lt : (from o : ℕ) → not (nat_lt o from) ≡ false → o < from
from_lt from o h = grind (arith, nat_tests)

lt_from : (from o : ℕ) → o < from → not (nat_lt o from) ≡ false
lt_from from o h = grind (arith, nat_tests)

module _ (bits : Bits) (states : List Bool) (part : Box) where
  abbrev at : Coord → ℕ
  at q = offset bits Leaf q

  abbrev is_from : ℕ → Coord → Bool
  is_from from q = not (nat_lt (at q) from)

  -- how many of the part's voxels from an entry on have their states on
  abbrev pub set_from : ℕ → ℕ
  set_from from = count_by (λ q. is_set bits states q && is_from from q) (coordinates part)

  -- if no such voxel is left, the count is 0
  pub set_end : (from : ℕ) → IsNextSet bits states part from None → set_from from ≡ 0
  set_end from none =
      count_listed part (λ q. is_set bits states q && is_from from q) [] nothing_apart
      (λ q. none_on (is_inside part q) (is_set bits states q && is_from from q) (λ i. inactive (is_set bits states q) (is_from from q) (λ l. none q i (from_le from (at q) l))))

  module _ (block : IsInFirstBlock bits part) (from entry : ℕ) (p : Coord) (next : IsNextSetAt bits states part from entry p) where
    here : (q : Coord) → coord_eq q p ≡ true → p ≡ q
    here q e = sym (coord_exact q p e)

    from_here : is_from from p ≡ true
    from_here = le_from from (at p) (let on = next.from_on in let e = next.at in omega (arith, on, e))

    past_here : is_from (entry + 1) p ≡ false
    past_here = lt_from (entry + 1) (at p) (let e = next.at in omega (arith, e))

    off_between : (q : Coord) → is_inside part q ≡ true → from ≤ at q → at q < entry + 1 → coord_eq q p ≡ false → is_set bits states q ≡ false
    off_between q i f h out = elim (before_or_at (at q) entry h) [
      | inl b ↦ next.before q i f b
      | inr e ↦ absurd (let never : false ≡ true = sym out ∙ ap (λ r. coord_eq r p) (same_entry bits part block q p i next.inside (e ∙ sym next.at)) ∙ coord_equiv.refl p in cc)
    ]

    -- past the next voxel the count is one less
    pub set_less : 1 + set_from (entry + 1) ≡ set_from from
    set_less =
        count_split part (λ q. is_set bits states q && is_from from q) (λ q. coord_eq q p) (λ q. is_set bits states q && is_from (entry + 1) q) (p ∷ []) (one_apart p)
        (λ q. alone (coord_eq q p) (is_set bits states q) (λ e. subst (λ (r : Coord). is_set bits states r ≡ true) (here q e) next.here)
        ∙ sym (first_way (is_inside part q) (is_set bits states q) (is_from from q) (coord_eq q p)
        (λ e. subst (λ (r : Coord). is_inside part r ≡ true) (here q e) next.inside) (λ e. subst (λ (r : Coord). is_from from r ≡ true) (here q e) from_here)))
        (λ q. other_way (is_inside part q) (is_set bits states q) (is_from from q) (is_from (entry + 1) q) (coord_eq q p)
        (λ e. subst (λ (r : Coord). is_from (entry + 1) r ≡ false) (here q e) past_here)
        (λ h. le_from from (at q) (let l = from_le (entry + 1) (at q) h in let on = next.from_on in omega (arith, l, on)))
        (λ i l n out. off_between q i (from_le from (at q) l) (from_lt (entry + 1) (at q) n) out))

  module _ (block : IsInFirstBlock bits part) where
    regrouped : (a k : ℕ) → a + suc k ≡ a + k + 1
    regrouped a k = omega arith

    -- a voxel whose state is on is the next from its own entry on
    one_less : (entry : ℕ) (p : Coord) → is_inside part p ≡ true → at p ≡ entry → is_on states entry ≡ true → 1 + set_from (entry + 1) ≡ set_from entry
    one_less entry p inside here on = set_less block entry entry p (record {
      from_on = omega arith;
      inside = inside;
      at = here;
      here = ap (is_on states) here ∙ on;
      before = λ q i low high. absurd (omega (arith, low, high));
    })

    module _ (from entry : ℕ) (p : Coord) (next : IsNextSetAt bits states part from entry p) where
      -- past a run of k such voxels along z the count is k less
      pub set_run_less : (k : ℕ) → k ≤ unsigned_abs (int_min part.max.z part.max.z -ℤ p.z) → ((i : ℕ) → entry < i → i < entry + k + 1 → is_on states i ≡ true)
          → (k + 1) + set_from (entry + k + 1) ≡ set_from from
      set_run_less zero near on = let less = set_less block from entry p next in let e = counted_from in omega (arith, less, e)
        where
          counted_from : set_from (entry + 0 + 1) ≡ set_from (entry + 1)
          counted_from = ap set_from (omega arith)
      set_run_less (suc k) near on =
          let before = set_run_less k (omega (arith, near)) (λ i h l. on i h (omega (arith, l))) in
          let at_voxel = further_voxel bits part part block p next.inside next.inside (suc k) near in
          let at_entry : at (coord p.x p.y (p.z +ℤ pos (suc k))) ≡ entry + k + 1 = at_voxel.1 ∙ ap (λ (n : ℕ). n + suc k) next.at ∙ regrouped entry k in
          let one = one_less (entry + k + 1) (coord p.x p.y (p.z +ℤ pos (suc k))) at_voxel.0 at_entry (on (entry + k + 1) (omega arith) (omega arith)) in
          let last : set_from (entry + suc k + 1) ≡ set_from (entry + k + 1 + 1) = ap set_from (omega arith) in
          omega (arith, before, one, last)

-- ---- a part of a leaf

module _ {V : Type 0} (bits : Bits) (f : Field V) (part : Box) (leaf : LeafOf V) (of_leaf : IsPartOfLeaf bits f part leaf) where
  -- each voxel has its state among those of the leaf
  pub has_states : (p : Coord) → is_inside part p ≡ true → (f.cell p).on ≡ is_set bits leaf.states p
  has_states p i = ap (λ (c : Cell V). c.on) (of_leaf.cells p i)

  -- the count of a part of the leaf
  pub cut_counted : set_count bits leaf.states part ≡ count f part
  cut_counted = sym (count_alike part (λ p. (f.cell p).on) (is_set bits leaf.states) has_states)

  -- the part lies in one block
  pub in_one_block : is_box part ≡ true → IsInFirstBlock bits part
  in_one_block order q j = of_leaf.block q part.min j (min_inside part order)

  module _ (bounds : is_bounds part ≡ true) where
    corner_in : is_inside part part.min ≡ true
    corner_in = min_inside part (both (is_box part) (is_within part everywhere) bounds).0

    -- the count of the leaf's whole block
    pub whole_counted : AreBits bits → part ≡ block_around bits Leaf part.min → on_count leaf.states (entries bits Leaf) ≡ count f part
    whole_counted configured block =
        leaf_counted bits configured f part.min leaf (within_each part everywhere part.min (both (is_box part) (is_within part everywhere) bounds).1 corner_in)
        (λ q i same. of_leaf.cells q (subst (λ (b : Box). is_inside b q ≡ true) (sym block) (inside_numbered bits Leaf (block_number bits Leaf part.min) q same)))
        ∙ ap (count f) (sym block)
