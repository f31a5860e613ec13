-- The results of the calls on hulls and sides.
use Rattle.vdb_region.proofs.Common.{◌≡◌, ◌∙◌, sym, refl, ap, true, false, Bool, ◌&&◌, Some, None, Option, box_of, is_bounds, Box, everywhere, is_box, is_inside, is_within, Bits, Coord, Level, Face, both, half, is_beyond, hull}
use Rattle.std.specs.Prelude.{IfNone, IfSome}
use Rattle.vdb_coord.proofs.Boxes.{box_of_some}
use Rattle.vdb_coord.proofs.Meeting.{within_each}
use Rattle.vdb_region.proofs.Halves.{half_inside, no_half}
use Rattle.vdb_region.proofs.Hulls.{hull_is_box}

-- the box between the corners of a hull
pub made_hull : (bits : Bits) (level : Level) (b : Box) (p q : Coord) → is_box b ≡ true → p ≡ (hull bits level b).min → q ≡ (hull bits level b).max → box_of p q ≡ Some (hull bits level b)
made_hull bits level b p q is e f = let h = hull_is_box bits b level is in rw (e, f, h) refl

in_order : (e y o : Bool) → (o ≡ true → e ≡ true) → ((e && y) && o) ≡ (o && y)
in_order e y false h = ends (e && y)
  where
    ends : (x : Bool) → (x && false) ≡ false
    ends true = refl
    ends false = refl
in_order e y true h = let k = h refl in rw k (all y)
  where
    all : (x : Bool) → (x && true) ≡ x
    all true = refl
    all false = refl

nothing : (e y o : Bool) → (o ≡ true → e ≡ true) → (e && y) ≡ false → (o && y) ≡ false
nothing e y false h k = refl
nothing e y true h k = let g = h refl in sym (ap (λ x. x && y) g) ∙ k

pub some_map : {A : Type 0} {P Q : A → Type 0} (o : Option A) → ((x : A) → P x → Q x) → IfSome o P → IfSome o Q
some_map None f h = tt
some_map (Some x) f h = f x h

none_map : {A : Type 0} {P Q : Type 0} (o : Option A) → (P → Q) → IfNone o P → IfNone o Q
none_map None f h = f h
none_map (Some x) f h = tt

-- what a half and the box around a ring have in common
module _ (around inn : Box) (face : Face) (bounds : is_bounds around ≡ true) (within : is_bounds inn ≡ true) where
  range : (q : Coord) → is_inside around q ≡ true → is_inside everywhere q ≡ true
  range q = within_each around everywhere q (both (is_box around) (is_within around everywhere) bounds).1

  side_inside : (h : Box) → h ≡ half inn face → (q : Coord) → (is_inside h q && is_inside around q) ≡ (is_inside around q && is_beyond inn q face)
  side_inside h is q =
      ap (λ (b : Box). is_inside b q && is_inside around q) is ∙ ap (λ x. x && is_inside around q) (half_inside inn within face q)
      ∙ in_order (is_inside everywhere q) (is_beyond inn q face) (is_inside around q) (range q)

  pub side_some : (h : Box) (o : Option Box) → Some h ≡ box_of (half inn face).min (half inn face).max → IfSome o (λ b. (q : Coord) → is_inside b q ≡ (is_inside h q && is_inside around q))
      → IfSome o (λ s. (q : Coord) → is_inside s q ≡ (is_inside around q && is_beyond inn q face))
  side_some h o is = some_map o (λ s same q. same q ∙ side_inside h (box_of_some (half inn face).min (half inn face).max h (sym is)).1 q)

  pub side_none : (h : Box) (o : Option Box) → Some h ≡ box_of (half inn face).min (half inn face).max → IfNone o ((q : Coord) → (is_inside h q && is_inside around q) ≡ false)
      → IfNone o ((q : Coord) → (is_inside around q && is_beyond inn q face) ≡ false)
  side_none h o is = none_map o (λ none q. sym (side_inside h (box_of_some (half inn face).min (half inn face).max h (sym is)).1 q) ∙ none q)

  pub half_none : None ≡ box_of (half inn face).min (half inn face).max → (q : Coord) → (is_inside around q && is_beyond inn q face) ≡ false
  half_none is q = nothing (is_inside everywhere q) (is_beyond inn q face) (is_inside around q) (range q) (no_half inn within face (sym is) q)
