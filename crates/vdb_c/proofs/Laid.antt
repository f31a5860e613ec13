-- Arrays that calls fill voxel by voxel.
use Rattle.vdb_c.proofs.Common.{◌≡◌, ◌⊎◌, inl, inr, ◌<◌, ℕ, refl, sym, ap, ◌∙◌, subst, Bool, true, false, IsTrue, List, length, get_or, set, arith, get_or-set_same, get_or-set_other, None, length-set, Box, coord_eq, is_inside, Coord, coord_equiv, coord_exact, IsLaid, are_apart, place, IsNextVoxel, IsUpTo, Strides}
use Rattle.vdb_c.proofs.NextVoxels.{or_first, or_second, or_ways, with_voxel}
use Rattle.vdb_c.proofs.Places.{same_place}

pub either_way : (b : Bool) → (b ≡ true) ⊎ (b ≡ false)
either_way true = inl refl
either_way false = inr refl

pub false_true : (b : Bool) → b ≡ false → b ≡ true → ⊥
false_true b h k = let e : false ≡ true = sym h ∙ k in cc

module _ {X : Type 0} (b : Box) (s : Strides) where
  -- no voxel
  pub laid_none : (within : Coord → Bool) (of : Coord → X) (xs : List X) → ((p : Coord) → within p ≡ false) → IsLaid b s within of xs xs
  laid_none within of xs none = record {
    size = refl;
    voxels = λ p d i l. absurd (false_true (within p) (none p) i);
    others = λ i d h. refl;
  }

  -- an empty array
  pub laid_empty : (within : Coord → Bool) (of : Coord → X) (xs : List X) → length xs ≡ 0 → IsLaid b s within of xs xs
  laid_empty within of xs e = record {
    size = refl;
    voxels = λ p d i l. absurd (none_below (place b s p) (length xs) l e);
    others = λ i d h. refl;
  }
    where
      none_below : (i n : ℕ) → i < n → n ≡ 0 → ⊥
      none_below i n l z = omega (arith, l, z)

  -- the voxels of an equal set
  pub laid_within : (R S : Coord → Bool) (of : Coord → X) (xs ys : List X) → ((p : Coord) → R p ≡ S p) → IsLaid b s R of xs ys → IsLaid b s S of xs ys
  laid_within R S of xs ys same h = record {
    size = h.size;
    voxels = λ p d i l. h.voxels p d (same p ∙ i) l;
    others = λ i d out. h.others i d (λ p r. out p (sym (same p) ∙ r));
  }

  -- one voxel
  pub laid_one : (q : Coord) (of : Coord → X) (xs : List X) (x : X) → x ≡ of q → IsLaid b s (coord_eq q) of xs (set xs (place b s q) x)
  laid_one q of xs x e = record {
    size = length-set xs (place b s q) x;
    voxels = λ p d i l.
        let same : q ≡ p = coord_exact q p i in
        subst (λ (r : Coord). get_or (set xs (place b s q) x) (place b s r) d ≡ of r) same
        (get_or-set_same xs (place b s q) x d (subst (λ (r : Coord). place b s r < length xs) (sym same) l) ∙ e);
    others = λ i d h. get_or-set_other xs (place b s q) i x d (λ e. h q (coord_equiv.refl q) (sym e));
  }

  -- the same voxels, with what is equal at each
  pub laid_same : (within : Coord → Bool) (of by : Coord → X) (xs ys : List X) → ((p : Coord) → IsTrue (within p) → of p ≡ by p) → IsLaid b s within of xs ys → IsLaid b s within by xs ys
  laid_same within of by xs ys same h = record {
    size = h.size;
    voxels = λ p d i l. h.voxels p d i l ∙ same p i;
    others = h.others;
  }

  -- voxels after others
  module _ (apart : IsTrue (are_apart b s)) (R S T : Coord → Bool) (g h k : Coord → X) (xs ys zs : List X)
      (inside_R : (p : Coord) → IsTrue (R p) → IsTrue (is_inside b p)) (inside_S : (p : Coord) → IsTrue (S p) → IsTrue (is_inside b p))
      (from_R : (p : Coord) → IsTrue (R p) → IsTrue (T p)) (from_S : (p : Coord) → IsTrue (S p) → IsTrue (T p))
      (into : (p : Coord) → IsTrue (T p) → S p ≡ false → IsTrue (R p))
      (on_S : (p : Coord) → IsTrue (S p) → h p ≡ k p) (on_R : (p : Coord) → IsTrue (R p) → S p ≡ false → g p ≡ k p)
      (first : IsLaid b s R g xs ys) (second : IsLaid b s S h ys zs) where
    voxels_at : (p : Coord) (d : X) → IsTrue (T p) → place b s p < length xs → (S p ≡ true) ⊎ (S p ≡ false) → get_or zs (place b s p) d ≡ k p
    voxels_at p d t l (inl now) = second.voxels p d now (omega (arith, l, first.size)) ∙ on_S p now
    voxels_at p d t l (inr before) =
        let r : IsTrue (R p) = into p t before in
        second.others (place b s p) d (λ q i e. false_true (S p) before (subst (λ (r : Coord). S r ≡ true) (same_place b s apart q p (inside_S q i) (inside_R p r) e) i))
        ∙ first.voxels p d r l ∙ on_R p r before

    pub laid_over : IsLaid b s T k xs zs
    laid_over = record {
      size = second.size ∙ first.size;
      voxels = λ p d t l. voxels_at p d t l (either_way (S p));
      others = λ i d other. second.others i d (λ p j. other p (from_S p j)) ∙ first.others i d (λ p j. other p (from_R p j));
    }

-- ---- the voxels of a part of the box, one after another

module _ {X : Type 0} (b : Box) (s : Strides) (apart : IsTrue (are_apart b s)) (part : Box) (within : (q : Coord) → IsTrue (is_inside part q) → IsTrue (is_inside b q))
    (p : Coord) (inside : IsTrue (is_inside part p)) (passed : Coord → Bool) (so_far : IsUpTo part p passed) (of : Coord → X)
    (xs ys zs : List X) (i : ℕ) (x : X) (at : i ≡ place b s p) (is : x ≡ of p) (stored : zs ≡ set ys i x) (first : IsLaid b s passed of xs ys) where
  one : IsLaid b s (coord_eq p) of ys zs
  one = subst (λ (l : List X). IsLaid b s (coord_eq p) of ys l) (ap (λ (k : ℕ). set ys k x) (sym at) ∙ sym stored) (laid_one b s p of ys x is)

  over : (T : Coord → Bool) → ((q : Coord) → IsTrue (passed q) → IsTrue (T q)) → ((q : Coord) → IsTrue (coord_eq p q) → IsTrue (T q))
      → ((q : Coord) → IsTrue (T q) → coord_eq p q ≡ false → IsTrue (passed q)) → IsLaid b s T of xs zs
  over T from_R from_S into =
      laid_over b s apart passed (coord_eq p) T of of of xs ys zs
      (λ q h. within q (so_far.inside q h))
      (λ q h. subst (λ (r : Coord). IsTrue (is_inside b r)) (coord_exact p q h) (within p inside))
      from_R from_S into (λ q h. refl) (λ q h no. refl) first one

  pub laid_voxel : IsLaid b s (with_voxel passed p) of xs zs
  laid_voxel = over (with_voxel passed p) (λ q h. or_first (passed q) (coord_eq p q) h) (λ q h. or_second (passed q) (coord_eq p q) h)
      (λ q h no. elim (or_ways (passed q) (coord_eq p q) h) [ inl k ↦ k | inr e ↦ absurd (false_true (coord_eq p q) no e) ])

  pub laid_part : IsNextVoxel part p None → IsLaid b s (is_inside part) of xs zs
  laid_part last = over (is_inside part) so_far.inside (λ q h. subst (λ (r : Coord). IsTrue (is_inside part r)) (coord_exact p q h) inside)
      (λ q h no. elim (last q h) [
        | inl k ↦ so_far.all q h k
        | inr e ↦ absurd (false_true (coord_eq p q) no (subst (λ (r : Coord). IsTrue (coord_eq p r)) (sym e) (coord_equiv.refl p)))
      ])
