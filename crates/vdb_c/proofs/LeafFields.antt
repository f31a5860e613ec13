-- Voxels that a call writes leaf by leaf.
use Rattle.vdb_c.proofs.Common.{◌≡◌, ◌≢◌, ◌⊎◌, inl, inr, refl, sym, ap, ◌∙◌, subst, ℕ, ℤ, ◌+◌, ◌<◌, ◌^◌, ◌≤ℤ◌, arith, Bool, true, false, cond, ◌&&◌, not, IsTrue, Option, Some, None, Result, Ok, Err, ints, block_number, offset, vdb, is_bounds, Box, coord_eq, everywhere, is_inside, volume, IsBlockBefore, Coord, before_not_same, both, coord_equiv, coord_exact, number_in_block, none_before, cell_in, Cell, Field, as_cell_of, as_field_of, as_write_of, field, off, written, Layout, field_of, IsLeafAround, in_leaf, Write, cell_inside, same_cells, Scalar, IsInOneLeaf, IsNextVoxel, IsUpTo, with_writes, written_any, are_apart, place, AreLaid, AreWritten, IsBeside, IsReady, IsWritten, Strides}
use Rattle.std.specs.Prelude.{is_ok, OnOk}
use Rattle.vdb_coord.specs.Blocks.{block_around}
use Rattle.vdb_coord.specs.Walk.{IsNextBlock}
use Rattle.vdb_coord.specs.declared.Level.TheVariants.{Leaf as leaf_level}
use Rattle.vdb_coord.proofs.BlockOrder.{moved_before}
use Rattle.vdb_coord.proofs.Nesting.{inside_numbered, voxel_from_leaf}
use Rattle.vdb_node.specs.Leaf.{Leaf}
use Rattle.vdb_tree.specs.Leaves.{with_leaf}
use Rattle.vdb_tree.specs.Paths.{is_child}
use Rattle.vdb_tree.proofs.AsFieldOf.{as_cell_of_written}
use Rattle.vdb_tree.proofs.Descents.{lower_by_block}
use Rattle.vdb_tree.proofs.Levels.{like_coords, unlike_coords, coord_cases}
use Rattle.vdb_c.proofs.Laid.{either_way, false_true}
use Rattle.vdb_c.proofs.NextVoxels.{all_passed, earlier, no_next, none, not_yet, or_first, or_second, or_ways, up_to_min, up_to_next, with_inside, with_voxel}
use Rattle.vdb_c.proofs.Places.{max_inside}
use Rattle.vdb_c.proofs.Ranks.{rank_fits, rank_last}

-- the voxels of a box in the leaf extents before p's
abbrev pub Before : Box → Coord → Coord → Type 0
Before b p q = IsTrue (is_inside b q) × IsBlockBefore vdb leaf_level q p

pub of_ok : {X E : Type 0} (r : Result X E) (P : Type 0) → is_ok r ≡ true → OnOk r P → P
of_ok (Ok x) P h k = k
of_ok (Err e) P h k = absurd (false_true false refl h)

pub not_unlike : (b : Bool) → not b ≡ false → b ≡ true
not_unlike true h = refl
not_unlike false h = sym h

-- the part of a box in p's leaf extent
module _ (b part : Box) (p : Coord) (is : (q : Coord) → is_inside part q ≡ (is_inside b q && is_inside (block_around vdb leaf_level p) q)) where
  pub part_beside : (q : Coord) → IsTrue (is_inside part q) → IsBeside b p q
  part_beside q i = let h = both (is_inside b q) (is_inside (block_around vdb leaf_level p) q) (sym (is q) ∙ i) in (h.0, number_in_block vdb leaf_level (block_number vdb leaf_level p) q h.1)

  pub beside_part : (q : Coord) → IsBeside b p q → IsTrue (is_inside part q)
  beside_part q h = is q ∙ rw (h.0, inside_numbered vdb leaf_level (block_number vdb leaf_level p) q h.1) refl

  pub part_block : IsInOneLeaf vdb part
  part_block q r i k = (part_beside q i).1 ∙ sym (part_beside r k).1

pub no_part : (b : Box) (p : Coord) → ((q : Coord) → (is_inside b q && is_inside (block_around vdb leaf_level p) q) ≡ false) → (q : Coord) → IsBeside b p q → ⊥
no_part b p none q h = false_true _ (none q) (rw (h.0, inside_numbered vdb leaf_level (block_number vdb leaf_level p) q h.1) refl)

pub leaf_beside : {V : Type 0} (t : Layout V) (p q : Coord) → block_number vdb leaf_level q ≡ block_number vdb leaf_level p → IsTrue (in_leaf vdb t p) → IsTrue (in_leaf vdb t q)
leaf_beside t p q e h = ap is_child (lower_by_block vdb t q p e) ∙ h

module _ {V : Type 0} (make : V → Scalar) (change : Coord → Option (Write Scalar)) where
  -- ---- in a leaf

  -- one more voxel
  module _ (part : Box) (block : IsInOneLeaf vdb part) (p : Coord) (inside : IsTrue (is_inside part p)) (passed : Coord → Bool) (so_far : IsUpTo part p passed) (old mid new : Leaf V)
      (h : AreLaid make change (λ q. IsTrue (passed q)) old mid)
      (voxel : (d : Cell V) → IsWritten make (change p) (cell_in d mid (offset vdb leaf_level p)) (cell_in d new (offset vdb leaf_level p)))
      (others : (d : Cell V) (i : ℕ) → offset vdb leaf_level p ≢ i → cell_in d new i ≡ cell_in d mid i) where
    apart : (q : Coord) → IsTrue (passed q) → offset vdb leaf_level q ≢ offset vdb leaf_level p
    apart q k e = not_yet part p inside passed so_far (subst (λ (r : Coord). passed r ≡ true) (voxel_from_leaf vdb q p (block q p (so_far.inside q k) inside) e) k)

    here : (d : Cell V) → IsWritten make (change p) (cell_in d old (offset vdb leaf_level p)) (cell_in d new (offset vdb leaf_level p))
    here d = subst (λ (c : Cell V). IsWritten make (change p) c (cell_in d new (offset vdb leaf_level p))) (h.others d (offset vdb leaf_level p) apart) (voxel d)

    laid_next : AreLaid make change (λ q. IsTrue (with_voxel passed p q)) old new
    laid_next = record {
      voxels = λ d q k. elim (or_ways (passed q) (coord_eq p q) k) [
        | inl l ↦ subst (λ (c : Cell V). IsWritten make (change q) (cell_in d old (offset vdb leaf_level q)) c) (sym (others d (offset vdb leaf_level q) (λ e. apart q l (sym e)))) (h.voxels d q l)
        | inr e ↦ subst (λ (r : Coord). IsWritten make (change r) (cell_in d old (offset vdb leaf_level r)) (cell_in d new (offset vdb leaf_level r))) (coord_exact p q e) (here d)
      ];
      others = λ d i out. others d i (out p (or_second (passed p) (coord_eq p p) (coord_equiv.refl p))) ∙ h.others d i (λ q k. out q (or_first (passed q) (coord_eq p q) k));
    }

    -- the last voxel
    laid_all : IsNextVoxel part p None → AreLaid make change (λ q. IsTrue (is_inside part q)) old new
    laid_all n = record {
      voxels = λ d q i. laid_next.voxels d q (all_passed part p inside passed so_far n q i);
      others = λ d i out. laid_next.others d i (λ q k. out q (with_inside part p inside passed so_far q k));
    }

  -- ---- voxels that are ready

  -- a write that changes nothing
  pub kept_by : (given : Option (Write Scalar)) (w : Write V) (c : Cell V) → Some (as_write_of make w) ≡ given → written w c ≡ c → IsWritten make given c c
  kept_by given w c is same = subst (λ (o : Option (Write Scalar)). IsWritten make o c c) is (ap (as_cell_of make) (sym same) ∙ as_cell_of_written make w c)

  -- no leaf is removed
  pub ready_kept : (t u : Layout V) → field_of vdb u ≡ field_of vdb t → ((q : Coord) → IsTrue (in_leaf vdb t q) → IsTrue (in_leaf vdb u q)) → (q : Coord) → IsReady make change t q → IsReady make change u q
  ready_kept t u same leaves q h = λ range. elim (h range) [ inl l ↦ inl (leaves q l) | inr k ↦ inr (subst (λ (f : Field V). IsWritten make (change q) (f.cell q) (f.cell q)) (sym same) k) ]

  -- the leaf extents before p's are written
  pub ready_after : (b : Box) (p : Coord) (t u : Layout V) → ((q : Coord) → in_leaf vdb u q ≡ in_leaf vdb t q) → AreWritten make change (Before b p) (field_of vdb t) (field_of vdb u)
      → (q : Coord) → IsBeside b p q → IsReady make change t q → IsReady make change u q
  ready_after b p t u leaves written q beside h = λ range. elim (h range) [
    | inl l ↦ inl (leaves q ∙ l)
    | inr k ↦ inr (subst (λ (c : Cell V). IsWritten make (change q) c c) (sym (written.others q range (λ before. before_not_same _ _ before.1 beside.1))) k)
  ]

  -- without a leaf they keep their cells
  pub without_leaf : (b : Box) (p : Coord) (t : Layout V) → in_leaf vdb t p ≡ false → ((q : Coord) → IsBeside b p q → IsReady make change t q) → AreWritten make change (IsBeside b p) (field_of vdb t) (field_of vdb t)
  without_leaf b p t none h = record {
    background = refl;
    voxels = λ q range beside. elim (h q beside range) [ inl l ↦ absurd (false_true (in_leaf vdb t p) none (leaf_beside t q p (sym beside.1) l)) | inr k ↦ k ];
    others = λ q range out. refl;
  }

  pub without_voxel : (b : Box) (p : Coord) (f : Field V) → ((q : Coord) → IsBeside b p q → ⊥) → AreWritten make change (IsBeside b p) f f
  without_voxel b p f none = record { background = refl; voxels = λ q range beside. absurd (none q beside); others = λ q range out. refl }

  -- ---- in a field

  -- a leaf with written voxels in the place of the one around p
  module _ (b part : Box) (p : Coord) (f : Field V) (old laid : Leaf V) (is : (q : Coord) → IsTrue (is_inside part q) → IsBeside b p q) (all : (q : Coord) → IsTrue (is_inside everywhere q) → IsBeside b p q → IsTrue (is_inside part q))
      (around : IsLeafAround vdb f p old) (h : AreLaid make change (λ q. IsTrue (is_inside part q)) old laid) where
    at : (q : Coord) → IsTrue (is_inside everywhere q) → (with_leaf vdb p laid f).cell q
        ≡ cond (coord_eq (block_number vdb leaf_level p) (block_number vdb leaf_level q)) (cell_in (off f.background) laid (offset vdb leaf_level q)) (f.cell q)
    at q range = cell_inside f.background (λ r. cond (coord_eq (block_number vdb leaf_level p) (block_number vdb leaf_level r)) (cell_in (off f.background) laid (offset vdb leaf_level r)) (f.cell r)) q range

    in_block : (q : Coord) → IsTrue (is_inside everywhere q) → block_number vdb leaf_level q ≡ block_number vdb leaf_level p → (with_leaf vdb p laid f).cell q ≡ cell_in (off f.background) laid (offset vdb leaf_level q)
    in_block q range e = at q range ∙ rw (like_coords (block_number vdb leaf_level p) (block_number vdb leaf_level q) (sym e)) refl

    pub leaf_written : AreWritten make change (IsBeside b p) f (with_leaf vdb p laid f)
    leaf_written = record {
      background = refl;
      voxels = λ q range beside.
          let before = around q range beside.1 in
          subst (λ (c : Cell V). IsWritten make (change q) c ((with_leaf vdb p laid f).cell q)) (sym before)
          (subst (λ (c : Cell V). IsWritten make (change q) (cell_in (off f.background) old (offset vdb leaf_level q)) c) (sym (in_block q range beside.1)) (h.voxels (off f.background) q (all q range beside)));
      others = λ q range out. elim (coord_cases (block_number vdb leaf_level q) (block_number vdb leaf_level p)) [
        | inl e ↦ in_block q range e ∙ h.others (off f.background) (offset vdb leaf_level q) (λ r k same. out (subst (IsBeside b p) (voxel_from_leaf vdb r q ((is r k).1 ∙ sym e) same) (is r k))) ∙ sym (around q range e)
        | inr d ↦ at q range ∙ rw (unlike_coords (block_number vdb leaf_level p) (block_number vdb leaf_level q) (λ e. d (sym e))) refl
      ];
    }

  -- ---- block by block
  module _ (b : Box) where
    pub written_first : (p : Coord) → p ≡ b.min → (f : Field V) → AreWritten make change (Before b p) f f
    written_first p at_min f = record {
      background = refl;
      voxels = λ q range k. absurd (none_before vdb leaf_level b q k.0 (subst (IsBlockBefore vdb leaf_level q) at_min k.1));
      others = λ q range out. refl;
    }

    module _ (p : Coord) (old mid new : Field V) (first : AreWritten make change (Before b p) old mid) (second : AreWritten make change (IsBeside b p) mid new) where
      voxel : (q : Coord) → IsTrue (is_inside everywhere q) → IsTrue (is_inside b q) → IsBlockBefore vdb leaf_level q p ⊎ (block_number vdb leaf_level q ≡ block_number vdb leaf_level p) → IsWritten make (change q) (old.cell q) (new.cell q)
      voxel q range i (inl k) =
          subst (λ (c : Cell V). IsWritten make (change q) (old.cell q) c) (sym (second.others q range (λ beside. before_not_same _ _ k beside.1))) (first.voxels q range (i, k))
      voxel q range i (inr e) =
          subst (λ (c : Cell V). IsWritten make (change q) c (new.cell q)) (first.others q range (λ k. before_not_same _ _ k.1 e)) (second.voxels q range (i, e))

      other : (q : Coord) → IsTrue (is_inside everywhere q) → (IsBeside b p q → ⊥) → (Before b p q → ⊥) → new.cell q ≡ old.cell q
      other q range beside before = second.others q range beside ∙ first.others q range before

      pub written_next : (next : Coord) → IsNextBlock vdb leaf_level b p (Some next) → AreWritten make change (Before b next) old new
      written_next next n = record {
        background = second.background ∙ first.background;
        voxels = λ q range k. voxel q range k.0 (n.2 q k.0 k.1);
        others = λ q range out. other q range (λ beside. out (beside.0, moved_before vdb leaf_level p next q n.1 (sym beside.1))) (λ before. out (before.0, earlier (block_number vdb leaf_level q) (block_number vdb leaf_level p) (block_number vdb leaf_level next) before.1 n.1));
      }

      pub written_last : IsNextBlock vdb leaf_level b p None → AreWritten make change (λ q. IsTrue (is_inside b q)) old new
      written_last n = record {
        background = second.background ∙ first.background;
        voxels = λ q range i. voxel q range i (n q i);
        others = λ q range out. other q range (λ beside. out beside.0) (λ before. out before.0);
      }

    -- the field of any type
    pub as_written : (old new : Field V) → AreWritten make change (λ q. IsTrue (is_inside b q)) old new → as_field_of make new ≡ with_writes (is_inside b) change (as_field_of make old)
    as_written old new h =
        ap (λ (v : V). field (make v) (λ q. as_cell_of make (new.cell q))) h.background
        ∙ same_cells (make old.background) _ _ (λ q range. by q range (either_way (is_inside b q)) ∙ sym (ap (λ (c : Cell Scalar). cond (is_inside b q) (written_any (change q) c) c) (cell_inside (make old.background) (λ r. as_cell_of make (old.cell r)) q range)))
      where
        by : (q : Coord) → IsTrue (is_inside everywhere q) → (is_inside b q ≡ true) ⊎ (is_inside b q ≡ false)
            → as_cell_of make (new.cell q) ≡ cond (is_inside b q) (written_any (change q) (as_cell_of make (old.cell q))) (as_cell_of make (old.cell q))
        by q range (inl i) = h.voxels q range i ∙ sym (rw i refl)
        by q range (inr i) = ap (as_cell_of make) (h.others q range (λ k. false_true (is_inside b q) i k)) ∙ sym (rw i refl)

-- ---- row by row in a leaf
module _ {V : Type 0} (make : V → Scalar) (elements : ℕ → Option (Write Scalar)) (b : Box) (s : Strides) (part : Box) where
  abbrev change : Coord → Option (Write Scalar)
  change q = elements (place b s q)

  -- the voxels of the part before p are written, and the arrays' next element is p's
  pub record AreLaidUpTo (max p : Coord) (index : ℕ) (old new : Leaf V) : Type 0 where
    pub max_is : max ≡ part.max
    pub inside : IsTrue (is_inside part p)
    pub at : index ≡ place b s p
    pub laid : (passed : Coord → Bool) × IsUpTo part p passed × AreLaid make change (λ q. IsTrue (passed q)) old new

  pub laid_at_first : (max p : Coord) (index : ℕ) (leaf : Leaf V) → max ≡ part.max → IsTrue (is_inside part p) → p ≡ part.min → index ≡ place b s p → AreLaidUpTo max p index leaf leaf
  laid_at_first max p index leaf max_is inside at_min at = record {
    max_is = max_is;
    inside = inside;
    at = at;
    laid = (none, up_to_min part p at_min, record { voxels = λ d q k. absurd (false_true false refl k); others = λ d i out. refl });
  }

  module _ (block : IsInOneLeaf vdb part) (max p : Coord) (index : ℕ) (old mid new : Leaf V) (h : AreLaidUpTo max p index old mid)
      (voxel : (d : Cell V) → IsWritten make (elements index) (cell_in d mid (offset vdb leaf_level p)) (cell_in d new (offset vdb leaf_level p)))
      (others : (d : Cell V) (i : ℕ) → offset vdb leaf_level p ≢ i → cell_in d new i ≡ cell_in d mid i) where
    voxel_here : (d : Cell V) → IsWritten make (change p) (cell_in d mid (offset vdb leaf_level p)) (cell_in d new (offset vdb leaf_level p))
    voxel_here d = subst (λ (k : ℕ). IsWritten make (elements k) (cell_in d mid (offset vdb leaf_level p)) (cell_in d new (offset vdb leaf_level p))) h.at (voxel d)

    pub laid_on : (next : Coord) (index' : ℕ) → IsNextVoxel part p (Some next) → index' ≡ place b s next → AreLaidUpTo max next index' old new
    laid_on next index' n e = record {
      max_is = h.max_is;
      inside = n.0;
      at = e;
      laid = (
        with_voxel h.laid.0 p,
        up_to_next part p h.inside h.laid.0 h.laid.1 next n,
        laid_next make change part block p h.inside h.laid.0 h.laid.1 old mid new h.laid.2 voxel_here others,
      );
    }

    pub laid_last : IsNextVoxel part p None → AreLaid make change (λ q. IsTrue (is_inside part q)) old new
    laid_last = laid_all make change part block p h.inside h.laid.0 h.laid.1 old mid new h.laid.2 voxel_here others

-- ---- the size of a box

-- a box whose voxels have elements of their own has fewer than 2^64
pub volume_fits : (b : Box) → IsTrue (is_bounds b) → (s : Strides) → IsTrue (are_apart b s) → place b s b.max + 1 < 2 ^ 64 → volume b < 2 ^ 64
volume_fits b ordered s apart reach =
    let itself : (n : ℤ) → n ≤ℤ n = λ n. omega (arith, ints) in
    let inside = max_inside b ordered in
    let most = rank_fits b b.max inside s apart in
    let size = rank_last b b.max inside (no_next b b.max inside (itself b.max.z) (itself b.max.y) (itself b.max.x)) in
    omega (arith, most, size, reach)
