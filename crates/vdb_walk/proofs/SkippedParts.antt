-- The coordinate at which a walk's next part begins: a walk may not skip from there on.
use Rattle.vdb_walk.proofs.Common.{◌≡◌, inl, inr, sym, ap, ◌∙◌, refl, subst, true, false, not, IsTrue, Option, Some, None, is_lt, block_cmp, is_bounds, ComesBefore, Box, everywhere, is_box, is_inside, is_within, Bits, Coord, comes_on, not_before_min, not_itself, both, not_true, min_inside, Layout, IsSkipped, TreeWalk, YieldsBox, is_left, Skip, gone_before, IsSkippedTo}
use Rattle.vdb_walk.specs.internal.BlocksFrom.{IsPartStart}
use Rattle.vdb_walk.proofs.NonConstantBlocks.{from_on, left_from, true_or_false}

-- what comes before a coordinate that isn't left isn't left either
pub earlier_gone : (bits : Bits) (at : Option Coord) (p : Coord) → is_left bits at p ≡ false → (r : Coord) → ComesBefore bits r p → is_left bits at r ≡ false
earlier_gone bits None p h r before = refl
earlier_gone bits (Some a) p h r before = ap not (comes_on bits r p a before (gone_before bits a p h))

module _ {V : Type 0} (bits : Bits) (t : Layout V) where
  -- the first coordinate of a part
  pub part_start : (old new : TreeWalk V) (part : Box) → is_bounds part ≡ true → YieldsBox bits t old new part → (q : Coord) → q ≡ part.min → IsPartStart bits t old (Some q)
  part_start old new part bounds yields q e = subst (λ (s : Coord). IsPartStart bits t old (Some s)) (sym e) (
    yields.inside part.min corner,
    λ r i left before. yields.passes.passed r i left (earlier_gone bits new.at part.min (yields.gone part.min corner) r before) (not_true (is_inside part r) (λ k. not_before_min bits part r k before)),
  )
    where
      corner : is_inside part part.min ≡ true
      corner = min_inside part (both (is_box part) (is_within part everywhere) bounds).0

  module _ (box : Box) (skip : Skip) where
    -- the coordinate itself
    pub skipped_here : (p : Coord) → is_inside box p ≡ true → IsSkippedTo bits t box skip p (Some p)
    skipped_here p i = (i, left_from bits p p (not_itself bits p), λ r j left before. absurd (from_on bits p r left before))

    module _ (p : Coord) (walk : TreeWalk V) (same : walk.box ≡ box) (skips : walk.skip ≡ skip) (earlier : (r : Coord) → IsTrue (is_inside box r) → is_left bits walk.at r ≡ false → ComesBefore bits r p) where
      still_left : (r : Coord) → is_inside box r ≡ true → is_left bits (Some p) r ≡ true → is_left bits walk.at r ≡ true
      still_left r i left = elim (true_or_false (is_left bits walk.at r)) [ inl h ↦ h | inr h ↦ absurd (from_on bits p r left (earlier r i h)) ]

      in_box : (r : Coord) → is_inside box r ≡ true → is_inside walk.box r ≡ true
      in_box r i = ap (λ (b : Box). is_inside b r) same ∙ i

      skipped_at : (r : Coord) → IsSkipped bits walk.skip t r → IsSkipped bits skip t r
      skipped_at r h = subst (λ (s : Skip). IsSkipped bits s t r) skips h

      -- the part's first coordinate
      pub skipped_there : (q : Coord) → IsPartStart bits t walk (Some q) → is_lt (block_cmp bits q p) ≡ false → IsSkippedTo bits t box skip p (Some q)
      skipped_there q h from = (
        sym (ap (λ (b : Box). is_inside b q) same) ∙ h.0,
        ap not from,
        λ r i left before. skipped_at r (h.1 r (in_box r i) (still_left r i left) before),
      )

      -- no part is left
      pub skipped_all : IsPartStart bits t walk None → IsSkippedTo bits t box skip p None
      skipped_all h r i left = skipped_at r (h r (in_box r i) (still_left r i left))
