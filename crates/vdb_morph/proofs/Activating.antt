-- Fields made active by tests of their voxels.
use Rattle.vdb_morph.proofs.Common.{◌≡◌, refl, sym, ap, ◌∙◌, inl, inr, ℕ, ◌+◌, ◌<◌, Bool, false, ◌||◌, List, [], ◌∷◌, get_or, take, IsTrue, list_any, or-false, fun_ext, faces, neighbour, neighbours, toward, everywhere, is_inside, Coord, Face, Field, field, same_cells, Cell, spread, with_active}
use Rattle.std.proofs.Common.{filter_map}
use Rattle.std.proofs.Math.Bool.{or_assoc}
use Rattle.std.proofs.lemmas.Bool.{cases_Bool}
use Rattle.std.proofs.lemmas.List.Folds.{list_any_more}

-- ---- one test after another

module _ {V : Type 0} where
  -- tests that agree within the range give the same field
  pub active_same : (f : Field V) (s t : Coord → Bool) → ((q : Coord) → IsTrue (is_inside everywhere q) → s q ≡ t q) → with_active s f ≡ with_active t f
  active_same f s t h = same_cells f.background _ _ (λ q inside i. record { value = (f.cell q).value; on = (f.cell q).on || h q inside i })

  -- a test that passes nowhere in the range leaves the field unchanged
  pub active_nowhere : (background : V) (cell : Coord → Cell V) (t : Coord → Bool) → ((q : Coord) → IsTrue (is_inside everywhere q) → t q ≡ false)
      → with_active t (field background cell) ≡ field background cell
  active_nowhere background cell t h = same_cells background _ _ (λ q inside.
      rw (inside, h q inside) (λ i. record { value = (cell q).value; on = or-false (cell q).on i }))

  -- two tests one after another are one test that passes if either does
  pub active_twice : (f : Field V) (s t : Coord → Bool) → with_active t (with_active s f) ≡ with_active (λ q. s q || t q) f
  active_twice f s t = same_cells f.background _ _ (λ q inside. rw inside (λ i. record { value = (f.cell q).value; on = or_assoc (f.cell q).on (s q) (t q) i }))

  -- the tests of the faces, one after another
  pub active_further : (f : Field V) (test : Face → Coord → Bool) (k : ℕ) (face : Face) → k < 6
      → with_active (test (get_or faces k face)) (with_active (λ q. list_any (λ other. test other q) (take k faces)) f) ≡ with_active (λ q. list_any (λ other. test other q) (take (k + 1) faces)) f
  active_further f test k face few =
      active_twice f (λ q. list_any (λ other. test other q) (take k faces)) (test (get_or faces k face))
      ∙ ap (λ t. with_active t f) (fun_ext (λ q. sym (list_any_more (λ other. test other q) faces k face few)))

-- ---- neighbours

-- a test of the neighbours that passes nowhere outside the range equals a test of the voxels behind the faces
module _ (t : Coord → Bool) (q : Coord) (beyond : (p : Coord) → is_inside everywhere p ≡ false → t p ≡ false) where
  any_of : (xs : List Face) → list_any t (filter_map (λ face. neighbour face q) xs) ≡ list_any (λ face. t (toward face q)) xs
  any_of [] = refl
  any_of (x ∷ xs) =
      elim (cases_Bool (is_inside everywhere (toward x q))) [
        | inl e ↦ rw e (ap (λ b. t (toward x q) || b) (any_of xs))
        | inr e ↦ rw (e, beyond (toward x q) e) (any_of xs)
      ]

  pub any_neighbour : list_any t (neighbours q) ≡ list_any (λ face. t (toward face q)) faces
  any_neighbour = any_of faces

-- spreading by both tests gives the same field
pub spread_is : {V : Type 0} (f : Field V) (t : Coord → Bool) → ((p : Coord) → is_inside everywhere p ≡ false → t p ≡ false)
    → spread t f ≡ with_active (λ q. list_any (λ face. t (toward face q)) faces) f
spread_is f t beyond = active_same f _ _ (λ q inside. any_neighbour t q beyond)
