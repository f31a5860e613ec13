-- At most or at least how many coordinates of a box pass a test, by a list of coordinates.
use Rattle.vdb_coord.proofs.Common.{◌≡◌, ap, sym, ◌∙◌, ◌≤◌, Bool, true, ◌&&◌, List, length, IsTrue, IsDistinct, filter, is_member, is_member-filter, Box, coord_eq, coordinates, is_inside, Coord}
use Rattle.std.proofs.lemmas.Map.Made.{length-le_from_is_member}
use Rattle.vdb_coord.proofs.Boxes.{and_true, both}
use Rattle.vdb_coord.proofs.Counts.{distinct_filter}
use Rattle.vdb_coord.proofs.Distinct.{distinct_coordinates}
use Rattle.vdb_coord.proofs.Members.{coord_equiv, coord_exact, member_coordinates}

module _ (b : Box) (t : Coord → Bool) where
  -- the coordinates of a box that pass a test are in it, and pass
  pub member_passing : (p : Coord) → is_member coord_eq (filter t (coordinates b)) p ≡ (is_inside b p && t p)
  member_passing p = is_member-filter coord_equiv t p (λ x e. ap t (coord_exact p x e)) (coordinates b) ∙ ap (λ i. i && t p) (member_coordinates b p)

  -- those coordinates are at most as many as a list that has each of them
  pub count_at_most : (keys : List Coord) → ((p : Coord) → IsTrue (is_inside b p) → t p ≡ true → is_member coord_eq keys p ≡ true) → length (filter t (coordinates b)) ≤ length keys
  count_at_most keys h =
      length-le_from_is_member coord_equiv (filter t (coordinates b)) keys (distinct_filter coord_eq t (coordinates b) (distinct_coordinates b))
      (λ p m. let hs = both (is_inside b p) (t p) (sym (member_passing p) ∙ m) in h p hs.0 hs.1)

  -- those coordinates are at least as many as a list of distinct ones
  pub count_at_least : (keys : List Coord) → IsDistinct coord_eq keys → ((p : Coord) → is_member coord_eq keys p ≡ true → IsTrue (is_inside b p) × (t p ≡ true)) → length keys ≤ length (filter t (coordinates b))
  count_at_least keys distinct h =
      length-le_from_is_member coord_equiv keys (filter t (coordinates b)) distinct
      (λ p m. let hs = h p m in member_passing p ∙ and_true (is_inside b p) (t p) hs.0 hs.1)
