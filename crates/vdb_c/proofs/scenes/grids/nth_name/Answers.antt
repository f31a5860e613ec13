-- The answer of an iterator over a list after some items were skipped.
use Rattle.vdb_c.proofs.Common.{◌≡◌, ℕ, List, [], ◌∷◌, ◌++◌, arith, refl, sym, ap, ◌∙◌, length, Option, Some, None, option_map}
use Rattle.std.proofs.Common.{MatchOption, append-nil, map}
use Rattle.std.specs.Iterator.{SkipsThenYields, Yields}
use Rattle.std.specs.List.{slice_get}
use Rattle.std.proofs.lemmas.List.{length-map}
use Rattle.std.proofs.lemmas.Option.{slice_get_past}
use Rattle.vdb_c.proofs.scenes.grids.nth_name.Goals as goal

module _ {A B : Type 0} (now : B → A) where
  -- a step of such an iterator
  abbrev gives : List A → Option B → List A → Type 0
  gives s r t = MatchOption r ((s ≡ []) × (t ≡ [])) (λ x. s ≡ now x ∷ t)

  skipped : (xs : List B) (s t : List A) → Yields gives s xs t → s ≡ map now xs ++ t
  skipped [] s t h = h
  skipped (x ∷ xs) s t h = h.1 ∙ ap (λ l. now x ∷ l) (skipped xs h.0 t h.2)

  seam : (ys zs : List A) (y : A) → slice_get (ys ++ y ∷ zs) (length ys) ≡ Some y
  seam [] zs y = refl
  seam (x ∷ ys) zs y = seam ys zs y

  -- the item at an index, if the list has it
  nth_is : (s u : List A) (i : ℕ) (r : Option B) → SkipsThenYields gives s i r u → option_map now r ≡ slice_get s i
  nth_is s u i (Some x) h =
      let e = skipped h.0 s h.1.0 h.1.1 ∙ ap (λ l. map now h.0 ++ l) h.1.2 in
      let n : length (map now h.0) ≡ i = length-map h.0 now ∙ h.2 in
      sym (seam (map now h.0) u (now x)) ∙ ap (slice_get (map now h.0 ++ now x ∷ u)) n ∙ ap (λ l. slice_get l i) (sym e)
  nth_is s u i None h =
      let e = skipped h.0 s h.1.0 h.1.1 ∙ ap (λ l. map now h.0 ++ l) h.1.2.0 ∙ append-nil (map now h.0) in
      let n = length-map h.0 now in
      let few = h.2 in
      sym (slice_get_past (map now h.0) i (omega (arith, n, few))) ∙ ap (λ l. slice_get l i) (sym e)

pub returns : goal.returns
returns c = nth_is (λ n. n.now) c.names.result c.nth.new.self c.args.index c.nth.result c.nth.ensures.ran ∙ ap (λ names. slice_get names c.args.index) c.names.ensures.names
