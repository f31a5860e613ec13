-- A box read by a walk over the parts of a tree.
use Rattle.vdb_c.proofs.Common.{◌≡◌, ◌⊎◌, inl, inr, refl, sym, ap, ◌∙◌, subst, Bool, true, false, cond, ◌&&◌, not, IsTrue, List, IsSome, Option, Some, None, key, vdb, Box, is_inside, Coord, both, cell_in, Field, off, Layout, field_of, root_at, IsPartOfLeaf, content_cell, Absent, Cell, IsLaid, are_apart, Strides}
use Rattle.std.specs.Ordering.{is_lt}
use Rattle.vdb_coord.specs.Blocks.{block_cmp}
use Rattle.vdb_coord.proofs.BlockOrder.{not_before_min}
use Rattle.vdb_node.specs.Leaf.{Leaf as LeafOf}
use Rattle.vdb_tree.specs.Layout.{background_cell}
use Rattle.vdb_tree.specs.Parts.{IsSkipped, OnLeaf, OnTile, Passes, TreeWalk, YieldsBox, is_left}
use Rattle.vdb_tree.specs.declared.queries.parts.Content.{Content}
use Rattle.vdb_tree.specs.declared.queries.parts.Content.TheVariants.{Leaf, Tile}
use Rattle.vdb_tree.specs.declared.queries.parts.Skip.{Skip}
use Rattle.vdb_tree.specs.declared.queries.parts.Skip.TheVariants.{Background}
use Rattle.vdb_tree.proofs.PartWalks.{absent_skipped}
use Rattle.vdb_c.proofs.Laid.{either_way, false_true, laid_over, laid_same, laid_within}

left_at_start : (b : Box) (q : Coord) → IsTrue (is_inside b q) → is_left vdb (Some b.min) q ≡ true
left_at_start b q i = by (either_way (is_lt (block_cmp vdb q b.min)))
  where
    by : (is_lt (block_cmp vdb q b.min) ≡ true) ⊎ (is_lt (block_cmp vdb q b.min) ≡ false) → is_left vdb (Some b.min) q ≡ true
    by (inl h) = absurd (not_before_min vdb b q i h)
    by (inr h) = rw h refl

both_of : (a c : Bool) → a ≡ true → c ≡ true → (a && c) ≡ true
both_of a c h k = rw (h, k) refl

-- ---- the content of a part

-- what holds of a leaf, if it is one
pub on_leaf : {V L : Type 0} (P Q : L → Type 0) (content : Content V L) → ((leaf : L) → P leaf → Q leaf) → OnLeaf content P → OnLeaf content Q
on_leaf P Q (Tile cell) f h = h
on_leaf P Q (Leaf leaf) f h = f leaf h

-- its cells are those of the field
pub content_is : {V L : Type 0} (now : L → LeafOf V) (f : Field V) (part : Box) (content : Content V L) → OnTile content (λ cell. (q : Coord) → IsTrue (is_inside part q) → f.cell q ≡ cell)
    → OnLeaf content (λ leaf. IsPartOfLeaf vdb f part (now leaf)) → (q : Coord) → IsTrue (is_inside part q) → content_cell vdb (λ leaf. cell_in (off f.background) (now leaf)) content q ≡ f.cell q
content_is now f part (Tile cell) tile leaf q i = sym (tile q i)
content_is now f part (Leaf l) tile leaf q i = sym (leaf.cells q i)

-- ---- what is laid out

-- the voxels on the way: all of the box if the background was laid out first, else those that are not left
abbrev pub done : Box → Bool → Option Coord → Coord → Bool
done b there at p = is_inside b p && not (there && is_left vdb at p)

done_inside : (b : Box) (there : Bool) (at : Option Coord) (p : Coord) → IsTrue (done b there at p) → IsTrue (is_inside b p)
done_inside b there at p h = (both (is_inside b p) (not (there && is_left vdb at p)) h).0

-- those that are not left
gone_done : (b : Box) (there : Bool) (at : Option Coord) (p : Coord) → IsTrue (is_inside b p) → is_left vdb at p ≡ false → IsTrue (done b there at p)
gone_done b there at p i gone = both_of (is_inside b p) (not (there && is_left vdb at p)) i (by there (is_left vdb at p) gone)
  where
    by : (a c : Bool) → c ≡ false → not (a && c) ≡ true
    by true c h = rw h refl
    by false c h = refl

-- of a voxel on the way it is known which
done_ways : (b : Box) (there : Bool) (at : Option Coord) (p : Coord) → IsTrue (done b there at p) → (there ≡ false) ⊎ (is_left vdb at p ≡ false)
done_ways b there at p h = by there (is_left vdb at p) (both (is_inside b p) (not (there && is_left vdb at p)) h).1
  where
    by : (a c : Bool) → not (a && c) ≡ true → (a ≡ false) ⊎ (c ≡ false)
    by false c k = inl refl
    by true true k = absurd (false_true false refl k)
    by true false k = inr refl

all_done : (b : Box) (at : Option Coord) (p : Coord) → IsTrue (is_inside b p) → IsTrue (done b false at p)
all_done b at p i = both_of (is_inside b p) true i refl

same_truth : (a c : Bool) → (IsTrue a → IsTrue c) → (IsTrue c → IsTrue a) → a ≡ c
same_truth true c f g = sym (f refl)
same_truth false true f g = g refl
same_truth false false f g = refl

not_none : {A : Type 0} (o : Option A) → IsSome o → o ≡ None → ⊥
not_none None h e = absurd (false_true false refl h)
not_none (Some a) h e = none_some a (sym e)
  where
    none_some : {A : Type 0} (a : A) → ◌≡◌ {A = Option A} None (Some a) → ⊥
    none_some a e = cc

module _ {V X : Type 0} (t : Layout V) (of : Cell V → X) where
  -- what an array has at a voxel on the way: the inactive background, if the voxel is left
  abbrev pub so_far : Option Coord → Coord → X
  so_far at p = cond (is_left vdb at p) (of (background_cell t)) (of ((field_of vdb t).cell p))

module _ {V X : Type 0} (t : Layout V) (b : Box) (s : Strides) (of : Cell V → X) (there : Bool)
    (entered : there ≡ true → (q : Coord) → IsTrue (is_inside b q) → IsSome (root_at t.root (key vdb q))) where
  pub read_start : (at : Option Coord) (by : Coord → X) (xs ys : List X) → at ≡ Some b.min → ((p : Coord) → by p ≡ of (background_cell t))
      → IsLaid b s (λ p. is_inside b p && not there) by xs ys → IsLaid b s (done b there at) (so_far t of at) xs ys
  read_start at by xs ys start is h =
      laid_same b s (done b there at) by (so_far t of at) xs ys
      (λ p i. is p ∙ sym (rw (left p (done_inside b there at p i)) refl))
      (laid_within b s (λ p. is_inside b p && not there) (done b there at) by xs ys (λ p. sets p (either_way (is_inside b p))) h)
    where
      left : (p : Coord) → IsTrue (is_inside b p) → is_left vdb at p ≡ true
      left p i = subst (λ (o : Option Coord). is_left vdb o p ≡ true) (sym start) (left_at_start b p i)

      sets : (p : Coord) → (is_inside b p ≡ true) ⊎ (is_inside b p ≡ false) → (is_inside b p && not there) ≡ done b there at p
      sets p (inl i) = ap (λ (c : Bool). is_inside b p && not c) (with_left there (is_left vdb at p) (left p i))
        where
          with_left : (a c : Bool) → c ≡ true → a ≡ (a && c)
          with_left true c h = sym h
          with_left false c h = refl
      sets p (inr o) = rw o refl

  module _ (old new : TreeWalk V) (box : old.box ≡ b) (skip : old.skip ≡ Absent) where
    -- a voxel that was passed over has no entry
    no_entry : (but : Coord → Bool) → Passes vdb t old new but → (p : Coord) → IsTrue (is_inside b p) → but p ≡ false → is_left vdb old.at p ≡ true → is_left vdb new.at p ≡ false
        → root_at t.root (key vdb p) ≡ None
    no_entry but passes p i out was is = subst (λ (k : Skip). IsSkipped vdb k t p) skip (passes.passed p (ap (λ (d : Box). is_inside d p) box ∙ i) was is out)

    same_so_far : (but : Coord → Bool) → Passes vdb t old new but → (p : Coord) → IsTrue (is_inside b p) → but p ≡ false → so_far t of old.at p ≡ so_far t of new.at p
    same_so_far but passes p i out = by (either_way (is_left vdb old.at p)) (either_way (is_left vdb new.at p))
      where
        skipped : is_left vdb old.at p ≡ true → is_left vdb new.at p ≡ false → of (background_cell t) ≡ of ((field_of vdb t).cell p)
        skipped was is = ap of (sym (absent_skipped vdb t Background p (no_entry but passes p i out was is)))

        by : (is_left vdb old.at p ≡ true) ⊎ (is_left vdb old.at p ≡ false) → (is_left vdb new.at p ≡ true) ⊎ (is_left vdb new.at p ≡ false) → so_far t of old.at p ≡ so_far t of new.at p
        by (inl was) (inl is) = rw (was, is) refl
        by (inl was) (inr is) = rw (was, is) (skipped was is)
        by (inr was) (inl is) = absurd (false_true (is_left vdb old.at p) was (passes.later p is))
        by (inr was) (inr is) = rw (was, is) refl

    -- a voxel on the way stays so
    stays_done : (but : Coord → Bool) → Passes vdb t old new but → (p : Coord) → IsTrue (done b there old.at p) → IsTrue (done b there new.at p)
    stays_done but passes p h = by (done_ways b there old.at p h) (either_way (is_left vdb new.at p))
      where
        i : IsTrue (is_inside b p)
        i = done_inside b there old.at p h

        by : (there ≡ false) ⊎ (is_left vdb old.at p ≡ false) → (is_left vdb new.at p ≡ true) ⊎ (is_left vdb new.at p ≡ false) → IsTrue (done b there new.at p)
        by (inl none) l = subst (λ (a : Bool). IsTrue (done b a new.at p)) (sym none) (all_done b new.at p i)
        by (inr gone) (inl is) = absurd (false_true (is_left vdb old.at p) gone (passes.later p is))
        by (inr gone) (inr is) = gone_done b there new.at p i is

    -- a voxel on the way that wasn't yielded was so before
    was_done : (but : Coord → Bool) → Passes vdb t old new but → (p : Coord) → IsTrue (done b there new.at p) → but p ≡ false → IsTrue (done b there old.at p)
    was_done but passes p h out = by (done_ways b there new.at p h) (either_way there) (either_way (is_left vdb old.at p))
      where
        i : IsTrue (is_inside b p)
        i = done_inside b there new.at p h

        by : (there ≡ false) ⊎ (is_left vdb new.at p ≡ false) → (there ≡ true) ⊎ (there ≡ false) → (is_left vdb old.at p ≡ true) ⊎ (is_left vdb old.at p ≡ false) → IsTrue (done b there old.at p)
        by w (inr none) l = subst (λ (a : Bool). IsTrue (done b a old.at p)) (sym none) (all_done b old.at p i)
        by w (inl all) (inr gone) = gone_done b there old.at p i gone
        by (inl none) (inl all) (inl was) = absurd (false_true there none all)
        by (inr is) (inl all) (inl was) = absurd (not_none (root_at t.root (key vdb p)) (entered all p i) (no_entry but passes p i out was is))

    -- one more part
    pub read_next : IsTrue (are_apart b s) → (part : Box) (by : Coord → X) (xs ys zs : List X) → YieldsBox vdb t old new part → ((q : Coord) → IsTrue (is_inside part q) → by q ≡ of ((field_of vdb t).cell q))
        → IsLaid b s (done b there old.at) (so_far t of old.at) xs ys → IsLaid b s (is_inside part) by ys zs → IsLaid b s (done b there new.at) (so_far t of new.at) xs zs
    read_next apart part by xs ys zs yields is first second =
        laid_over b s apart (done b there old.at) (is_inside part) (done b there new.at) (so_far t of old.at) by (so_far t of new.at) xs ys zs
        (done_inside b there old.at) within (stays_done (is_inside part) yields.passes) (λ p i. gone_done b there new.at p (within p i) (yields.gone p i))
        (was_done (is_inside part) yields.passes)
        (λ p i. let gone : is_left vdb new.at p ≡ false = yields.gone p i in is p i ∙ sym (rw gone refl))
        (λ p i out. same_so_far (is_inside part) yields.passes p (done_inside b there old.at p i) out) first second
      where
        within : (p : Coord) → IsTrue (is_inside part p) → IsTrue (is_inside b p)
        within p i = ap (λ (d : Box). is_inside d p) (sym box) ∙ yields.inside p i

    -- all parts
    pub read_end : (xs ys : List X) → Passes vdb t old new (λ q. false) → new.at ≡ None
        → IsLaid b s (done b there old.at) (so_far t of old.at) xs ys → IsLaid b s (is_inside b) (λ p. of ((field_of vdb t).cell p)) xs ys
    read_end xs ys passes none h =
        laid_same b s (is_inside b) (so_far t of old.at) (λ p. of ((field_of vdb t).cell p)) xs ys
        (λ p i. same_so_far (λ q. false) passes p i refl ∙ rw (gone p) refl)
        (laid_within b s (done b there old.at) (is_inside b) (so_far t of old.at) xs ys (λ p. same_truth (done b there old.at p) (is_inside b p) (done_inside b there old.at p)
        (λ i. was_done (λ q. false) passes p (gone_done b there new.at p i (gone p)) refl)) h)
      where
        gone : (p : Coord) → is_left vdb new.at p ≡ false
        gone p = ap (λ (o : Option Coord). is_left vdb o p) none
