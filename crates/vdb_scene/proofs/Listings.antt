-- The listed voxels, before and after each value is mapped to one of any type.
use Rattle.vdb_scene.proofs.Common.{◌≡◌, ◌⊎◌, inl, inr, refl, sym, ap, ◌∙◌, ℕ, ℤ, Bool, true, false, ◌&&◌, List, [], ◌∷◌, map, Option, Some, None, cond, int_le, IsTrue, arith, option_map, fun_ext, ints, vdb, Box, coord, coordinates, is_box, Coord, Cell, Field, as_field_of, Layout, cell_at, field_of, as_field_of_cell, active, box_across}
use Rattle.std.proofs.Common.{◌≢◌, filter}
use Rattle.std.specs.Int.{int_max, int_min}
use Rattle.std.proofs.lemmas.Simd.{map-map}
use Rattle.vdb_coord.specs.Boxes as boxes
use Rattle.vdb_walk.specs.Reports.{Yields, Listed, in_block_order}
use Rattle.vdb_scene.specs.Listings.{as_listed_of, as_voxels_of}

-- ---- the box of two corners

least_first : (x y : ℤ) → int_le x y ≡ true → int_min x y ≡ x
least_first x y h = grind (arith, ints)

greatest_last : (x y : ℤ) → int_le x y ≡ true → int_max x y ≡ y
greatest_last x y h = grind (arith, ints)

pub both : (a b : Bool) → (a && b) ≡ true → (a ≡ true) × (b ≡ true)
both true b h = (refl, h)
both false b h = absurd (no h)
  where
    no : false ≡ true → ⊥
    no e = cc

-- the box of a box's own corners is the box
pub across_box : (b : Box) → is_box b ≡ true → box_across b.min b.max ≡ b
across_box b h =
    let x = both _ _ (both _ _ h).0 in
    let z = (both _ _ h).1 in
    λ i. record {
      min = coord (least_first b.min.x b.max.x x.0 i) (least_first b.min.y b.max.y x.1 i) (least_first b.min.z b.max.z z i);
      max = coord (greatest_last b.min.x b.max.x x.0 i) (greatest_last b.min.y b.max.y x.1 i) (greatest_last b.min.z b.max.z z i);
    }

in_order : (x y : ℤ) → int_le (int_min x y) (int_max x y) ≡ true
in_order x y = grind (arith, ints)

-- two corners have a box
pub across_is_box : (p q : Coord) → is_box (box_across p q) ≡ true
across_is_box p q = rw (in_order p.x q.x, in_order p.y q.y, in_order p.z q.z) refl

-- ---- mapped values

module _ {V U : Type 0} (make : V → U) (t : Layout V) where
  abbrev before : Field V
  before = field_of vdb t

  abbrev after : Field U
  after = as_field_of make before

  made_cell : (p : Coord) → after.cell p ≡ record { value = make (before.cell p).value; on = (before.cell p).on }
  made_cell p = as_field_of_cell make t.background (cell_at vdb t) p

  -- the same voxels are active
  pub made_active : (box : Box) → as_voxels_of make (active vdb before box) ≡ active vdb after box
  made_active box =
      let same : (λ (p : Coord). (before.cell p).on) ≡ (λ p. (after.cell p).on) = fun_ext (λ p. sym (ap (λ (c : Cell U). c.on) (made_cell p))) in
      let values : (λ (p : Coord). (p, make (before.cell p).value)) ≡ (λ p. (p, (after.cell p).value)) = fun_ext (λ p. ap (λ v. (p, v)) (sym (ap (λ (c : Cell U). c.value) (made_cell p)))) in
      map-map (λ item. (item.0, make item.1)) (λ p. (p, (before.cell p).value)) (in_block_order vdb (filter (λ p. (before.cell p).on) (coordinates box)))
      ∙ ap (λ (f : Coord → Coord × U). map f (in_block_order vdb (filter (λ p. (before.cell p).on) (coordinates box)))) values
      ∙ ap (λ (on : Coord → Bool). map (λ p. (p, (after.cell p).value)) (in_block_order vdb (filter on (coordinates box)))) same

-- no voxel is left of one if and only if none is left of the other
module _ {V U : Type 0} (make : V → U) where
  some_none : {X : Type 0} (x : X) (xs : List X) → x ∷ xs ≡ [] → ⊥
  some_none x xs e = cc

  none_made : (voxels : List (Coord × V)) → as_voxels_of make voxels ≡ [] → voxels ≡ []
  none_made [] h = refl
  none_made (v ∷ vs) h = absurd (some_none _ _ h)

  pub made_more : (more : Bool) (l : Listed V) → (IsTrue more → l.rest ≢ []) × (l.rest ≢ [] → IsTrue more) → (IsTrue more → (as_listed_of make l).rest ≢ []) × ((as_listed_of make l).rest ≢ [] → IsTrue more)
  made_more more l h = (λ yes none. h.0 yes (none_made l.rest none), λ some. h.1 (λ none. some (ap (as_voxels_of make) none)))

-- a voxel that one yields is yielded by the other, with its value mapped
pub made_next : {V U : Type 0} (make : V → U) (old new : Listed V) (item : Option (Coord × V)) → Yields old item new → Yields (as_listed_of make old) (option_map (λ i. (i.0, make i.1)) item) (as_listed_of make new)
made_next make old new (Some item) h = (ap (as_voxels_of make) h.0, h.1)
made_next make old new None h = (of_end h.0, ap (as_listed_of make) h.1)
  where
    of_end : (old.rest ≡ []) ⊎ (old.left ≡ 0) → ((as_listed_of make old).rest ≡ []) ⊎ ((as_listed_of make old).left ≡ 0)
    of_end (inl none) = inl (ap (as_voxels_of make) none)
    of_end (inr nothing) = inr nothing

-- the box of two corners
pub made_box : (p q a b : Coord) (r : Option Box) → a ≡ (box_across p q).min → b ≡ (box_across p q).max → r ≡ boxes.box_of a b → r ≡ Some (box_across p q)
made_box p q a b r is_least is_greatest made =
    made ∙ ap (λ (c : Coord). boxes.box_of c b) is_least ∙ ap (boxes.box_of (box_across p q).min) is_greatest ∙ ap (λ test. cond test (Some (box_across p q)) None) (across_is_box p q)

pub some_exact : (b c : Box) → Some b ≡ Some c → b ≡ c
some_exact b c h = cc

pub none_some : (b : Box) → None ≡ Some b → ⊥
none_some b h = cc

-- a listing of a tree is a listing of its grid
pub listing_made : {V U : Type 0} (make : V → U) (t : Layout V) (box is : Box) (limit : ℕ) (l : Listed V) → is ≡ box → l ≡ record { rest = active vdb (field_of vdb t) is; left = limit }
    → as_listed_of make l ≡ record { rest = active vdb (as_field_of make (field_of vdb t)) box; left = limit }
listing_made make t box is limit l same h =
    ap (as_listed_of make) h ∙ (λ i. record { rest = made_active make t is i; left = limit }) ∙ (λ i. record { rest = active vdb (as_field_of make (field_of vdb t)) (same i); left = limit })
