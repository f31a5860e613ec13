-- Arrays that a call fills row by row.
use Rattle.vdb_c.proofs.Common.{◌≡◌, ◌<ℤ◌, ◌+ℤ◌, pos, true, SFits, w32, to_z, of_z, ℕ, sym, ap, Bool, IsTrue, List, set, refl, Some, None, lt_z, to_z-of_z, Box, coord, is_inside, Coord, IsLaid, are_apart, place, IsNextVoxel, IsUpTo, Strides}
use Rattle.vdb_c.proofs.Laid.{laid_none, laid_part, laid_voxel}
use Rattle.vdb_c.proofs.NextVoxels.{Moves, below, moved_z, none, one_more, one_more_fits, up_to_min, up_to_next, with_voxel}

-- the next voxel of a row, as the code makes it
module _ (part : Box) (p m : Coord) (inside : IsTrue (is_inside part p)) (x : SFits w32 p.x) (y : SFits w32 p.y) (z : SFits w32 p.z) (end : SFits w32 m.z) (at_max : m ≡ part.max)
    (less : lt_z (to_z w32 (of_z w32 p.z)) (to_z w32 (of_z w32 m.z)) ≡ true) where
  pub further : p.z <ℤ part.max.z
  further = below p.z m.z part.max.z z end (ap (λ (c : Coord). c.z) at_max) less

  pub further_fits : SFits w32 (p.z +ℤ pos 1)
  further_fits = one_more_fits p.z m.z z end (below p.z m.z m.z z end refl less)

  pub moved : Moves part p (coord (to_z w32 (of_z w32 p.x)) (to_z w32 (of_z w32 p.y)) (to_z w32 (of_z w32 (to_z w32 (of_z w32 p.z) +ℤ pos 1))))
  moved =
      moved_z part p inside (to_z w32 (of_z w32 p.x)) (to_z w32 (of_z w32 p.y)) (to_z w32 (of_z w32 (to_z w32 (of_z w32 p.z) +ℤ pos 1))) x y further_fits further (to_z-of_z w32 p.x x) (to_z-of_z w32 p.y y)
      (one_more p.z z further_fits)

  pub same_next : coord p.x p.y (p.z +ℤ pos 1) ≡ coord (to_z w32 (of_z w32 p.x)) (to_z w32 (of_z w32 p.y)) (to_z w32 (of_z w32 (to_z w32 (of_z w32 p.z) +ℤ pos 1)))
  same_next = λ i. coord (sym (to_z-of_z w32 p.x x) i) (sym (to_z-of_z w32 p.y y) i) (sym (one_more p.z z further_fits) i)

module _ {D X : Type 0} (b : Box) (s : Strides) (part : Box) (of : D → Coord → X) where
  -- the voxels of the part before p are laid, and the array's next element is p's
  pub record AreLaidUpTo (max p : Coord) (index : ℕ) (old new : List X) : Type 0 where
    pub max_is : max ≡ part.max
    pub inside : IsTrue (is_inside part p)
    pub at : index ≡ place b s p
    pub laid : (passed : Coord → Bool) × IsUpTo part p passed × ((d : D) → IsLaid b s passed (of d) old new)

  pub laid_at_first : (max p : Coord) (index : ℕ) (xs : List X) → max ≡ part.max → IsTrue (is_inside part p) → p ≡ part.min → index ≡ place b s p → AreLaidUpTo max p index xs xs
  laid_at_first max p index xs max_is inside at_min at = record {
    max_is = max_is;
    inside = inside;
    at = at;
    laid = (none, up_to_min part p at_min, λ d. laid_none b s _ _ _ (λ q. refl));
  }

  module _ (apart : IsTrue (are_apart b s)) (within : (q : Coord) → IsTrue (is_inside part q) → IsTrue (is_inside b q)) (max p : Coord) (index : ℕ) (old ys zs : List X) (h : AreLaidUpTo max p index old ys)
      (x : X) (is : (d : D) → x ≡ of d p) (stored : zs ≡ set ys index x) where
    pub laid_on : (next : Coord) (index' : ℕ) → IsNextVoxel part p (Some next) → index' ≡ place b s next → AreLaidUpTo max next index' old zs
    laid_on next index' n e =
        let so_far = h.laid in
        record {
          max_is = h.max_is;
          inside = n.0;
          at = e;
          laid = (
            with_voxel so_far.0 p,
            up_to_next part p h.inside so_far.0 so_far.1 next n,
            λ d. laid_voxel b s apart part within p h.inside so_far.0 so_far.1 (of d) old ys zs index x h.at (is d) stored (so_far.2 d),
          );
        }

    pub laid_last : IsNextVoxel part p None → (d : D) → IsLaid b s (is_inside part) (of d) old zs
    laid_last last d = let so_far = h.laid in laid_part b s apart part within p h.inside so_far.0 so_far.1 (of d) old ys zs index x h.at (is d) stored (so_far.2 d) last
