-- The order of coordinates, and the members of a box.
use Rattle.vdb_coord.proofs.Common.{◌≡◌, refl, sym, ap, ◌∙◌, ℤ, Bool, true, false, ◌&&◌, ◌||◌, List, [], ◌∷◌, list_all, is_member, IsTotalOrder, on_total, then_total, int_cmp, is_eq, ordering_then, Ordering, Less, Equal, Greater, Box, coord_cmp, coord_eq, coordinates, is_inside, Coord}
use Rattle.std.proofs.Common.{not}
use Rattle.std.specs.List.{list_any}
use Rattle.std.specs.Cmp.{IsEquivalence, int_cmp_total, int_ranked}
use Rattle.std.proofs.lemmas.Cmp.{eq_by_cmp_equiv}
use Rattle.vdb_coord.proofs.Coordinates.{all_coordinates, each_coordinate}

pub coord_total : IsTotalOrder coord_cmp
coord_total = then_total (on_total (λ p. p.x) int_cmp_total) (then_total (on_total (λ p. p.y) int_cmp_total) (on_total (λ p. p.z) int_cmp_total))

pub coord_equiv : IsEquivalence coord_eq
coord_equiv = eq_by_cmp_equiv coord_total

equal : (o : Ordering) → is_eq o ≡ true → o ≡ Equal
equal Less h = cc
equal Equal h = refl
equal Greater h = cc

both_equal : (o p : Ordering) → is_eq (ordering_then o p) ≡ true → (o ≡ Equal) × (is_eq p ≡ true)
both_equal Less p h = cc
both_equal Equal p h = (refl, h)
both_equal Greater p h = cc

-- coordinates that compare alike are equal
pub coord_exact : (p q : Coord) → coord_eq p q ≡ true → p ≡ q
coord_exact p q h =
    let hx = both_equal (int_cmp p.x q.x) _ h in
    let hy = both_equal (int_cmp p.y q.y) (int_cmp p.z q.z) hx.1 in
    let same : (x y : ℤ) → int_cmp x y ≡ Equal → x ≡ y = λ x y e. int_ranked x y Equal (sym e) in
    let ex = same p.x q.x hx.0 in
    let ey = same p.y q.y hy.0 in
    let ez = same p.z q.z (equal _ hy.1) in
    λ i. record { x = ex i; y = ey i; z = ez i }

any_not_all : {X : Type 0} (t : X → Bool) (xs : List X) → list_any t xs ≡ not (list_all (λ x. not (t x)) xs)
any_not_all t [] = refl
any_not_all t (x ∷ xs) = step (t x) _ _ (any_not_all t xs)
  where
    step : (a b c : Bool) → b ≡ not c → (a || b) ≡ not (not a && c)
    step true b c h = refl
    step false b c h = h

-- a list of all the box's coordinates has a coordinate exactly if the box does
pub member_coordinates : (b : Box) (p : Coord) → is_member coord_eq (coordinates b) p ≡ is_inside b p
member_coordinates b p = any_not_all (coord_eq p) (coordinates b) ∙ flipped _ _ there elsewhere
  where
    there : list_all (λ q. not (coord_eq p q)) (coordinates b) ≡ true → is_inside b p ≡ true → ⊥
    there h inside = let n : not (coord_eq p p) ≡ true = each_coordinate (λ q. not (coord_eq p q)) b h p inside in
        let e : coord_eq p p ≡ true = coord_equiv.refl p in
        let never : false ≡ true = ap not (sym e) ∙ n in cc

    elsewhere : is_inside b p ≡ false → list_all (λ q. not (coord_eq p q)) (coordinates b) ≡ true
    elsewhere out = all_coordinates (λ q. not (coord_eq p q)) b (λ q inside. differs (coord_eq p q) (λ e.
        let never : false ≡ true = sym out ∙ ap (is_inside b) (coord_exact p q e) ∙ inside in cc))
      where
        differs : (t : Bool) → (t ≡ true → ⊥) → not t ≡ true
        differs true h = absurd (h refl)
        differs false h = refl

    flipped : (a b : Bool) → (a ≡ true → b ≡ true → ⊥) → (b ≡ false → a ≡ true) → not a ≡ b
    flipped true true h k = absurd (h refl refl)
    flipped true false h k = refl
    flipped false true h k = refl
    flipped false false h k = sym (k refl)
