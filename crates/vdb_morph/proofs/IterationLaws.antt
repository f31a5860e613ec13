-- Iterations of dilation and of erosion, and the states that they leave.
use Rattle.vdb_morph.proofs.Common.{◌≡◌, refl, sym, ap, subst, ◌∙◌, ℕ, ◌+◌, ◌≤◌, Bool, true, false, ◌&&◌, ◌||◌, inl, inr, arith, list_all, list_any, Result, Ok, Err, Some, neighbours, Bits, Coord, and_true, both, same_truth, Cell, Field, dilate, erode, field, iterations, unite, same_cells, or_cases, or_first, or_second, TreeRefusal, topology}
use Rattle.std.proofs.Common.{zero, suc}
use Rattle.std.specs.Prelude.{IfOk}
use Rattle.std.specs.Result.{result_ok}
use Rattle.vdb_tree.specs.ConstantBlocks.{roots}
use Rattle.vdb_tree.specs.Field.{intersect}
use Rattle.vdb_tree.specs.declared.pairs.StateRule.TheVariants.{Intersect}
use Rattle.vdb_tree.proofs.RuledRoots.{no_unite_intersect, ruled_within}
use Rattle.vdb_tree.specs.Outcome.{IsOutcome}
use Rattle.vdb_tree.specs.declared.refusal.TreeRefusal.TheVariants.{Memory, RootLimit}
use Rattle.vdb_morph.specs.Growth.{IsGrowth}
use Rattle.vdb_morph.proofs.Neighbours.{InRange, all_near, any_near}

-- a fact for each accepted call holds for its result
pub of_ok : {A E : Type 0} (P : A → Type 0) (r : Result A E) (s : A) → Some s ≡ result_ok r → IfOk r P → P s
of_ok P (Ok x) s e h = let same : x ≡ s = cc in subst P same h
of_ok P (Err x) s e h = cc

-- ---- one iteration

module _ {V : Type 0} (f : Field V) where
  abbrev pub on : Coord → Bool
  on p = (f.cell p).on

  pub topology_on : (p : Coord) → InRange p → ((topology f).cell p).on ≡ on p
  topology_on p inside = rw inside refl

  pub topology_value : (p : Coord) → InRange p → ((topology f).cell p).value ≡ false
  topology_value p inside = rw inside refl

  pub dilated_on : (p : Coord) → InRange p → ((dilate f).cell p).on ≡ (on p || list_any on (neighbours p))
  dilated_on p inside = rw inside refl

  pub eroded_on : (p : Coord) → InRange p → ((erode f).cell p).on ≡ (on p && list_all on (neighbours p))
  eroded_on p inside = rw inside refl

-- fields that are active at the same coordinates have the same states
pub same_topology : {V U : Type 0} (f : Field V) (g : Field U) → ((p : Coord) → InRange p → (f.cell p).on ≡ (g.cell p).on) → topology f ≡ topology g
same_topology f g h = same_cells false _ _ (λ p inside. ap (λ (b : Bool). record { value = false; on = b }) (h p inside))

-- an iteration has the same states on a field and on its states alone
module _ {V : Type 0} (f : Field V) where
  pub topology_dilate : topology (dilate (topology f)) ≡ topology (dilate f)
  topology_dilate = same_topology (dilate (topology f)) (dilate f) (λ p inside.
      dilated_on (topology f) p inside ∙ ap (λ b. b || list_any (on (topology f)) (neighbours p)) (topology_on f p inside)
      ∙ ap (λ b. on f p || b) (any_near p (on (topology f)) (on f) (topology_on f)) ∙ sym (dilated_on f p inside))

  pub topology_erode : topology (erode (topology f)) ≡ topology (erode f)
  topology_erode = same_topology (erode (topology f)) (erode f) (λ p inside.
      eroded_on (topology f) p inside ∙ ap (λ b. b && list_all (on (topology f)) (neighbours p)) (topology_on f p inside)
      ∙ ap (λ b. on f p && b) (all_near p (on (topology f)) (on f) (topology_on f)) ∙ sym (eroded_on f p inside))

-- ---- n iterations

-- the last of them
iterations_last : {V : Type 0} (n : ℕ) (iteration : Field V → Field V) (f : Field V) → iterations (suc n) iteration f ≡ iteration (iterations n iteration f)
iterations_last zero iteration f = refl
iterations_last (suc n) iteration f = iterations_last n iteration (iteration f)

one_more : (n : ℕ) → suc n ≡ n + 1
one_more n = omega arith

module _ {V : Type 0} (f : Field V) (n : ℕ) (old : Field Bool) where
  -- one more iteration of the states
  pub dilated_more : old ≡ topology (iterations n dilate f) → (new : Field Bool) → new ≡ topology (dilate old) → new ≡ topology (iterations (n + 1) dilate f)
  dilated_more h new e =
      e ∙ ap (λ (g : Field Bool). topology (dilate g)) h ∙ topology_dilate (iterations n dilate f) ∙ ap (λ (g : Field V). topology g) (sym (iterations_last n dilate f))
      ∙ ap (λ (m : ℕ). topology (iterations m dilate f)) (one_more n)

  pub eroded_more : old ≡ topology (iterations n erode f) → (new : Field Bool) → new ≡ topology (erode old) → new ≡ topology (iterations (n + 1) erode f)
  eroded_more h new e =
      e ∙ ap (λ (g : Field Bool). topology (erode g)) h ∙ topology_erode (iterations n erode f) ∙ ap (λ (g : Field V). topology g) (sym (iterations_last n erode f))
      ∙ ap (λ (m : ℕ). topology (iterations m erode f)) (one_more n)

-- an iteration keeps the background and the values, and what lies outside the range is fixed
record KeepsValues {V : Type 0} (old new : Field V) : Type 0 where
  pub background : new.background ≡ old.background
  pub value : (p : Coord) → InRange p → (new.cell p).value ≡ (old.cell p).value

record IsIteration {V : Type 0} (iteration : Field V → Field V) : Type 0 where
  pub keeps : (f : Field V) → KeepsValues f (iteration f)
  pub cut : (f : Field V) → iteration f ≡ field (iteration f).background (iteration f).cell

-- a field that has been cut to the range
pub cut_again : {V : Type 0} (background : V) (cell : Coord → Cell V) → field background cell ≡ field background (field background cell).cell
cut_again background cell = same_cells background _ _ (λ p inside. rw inside refl)

module _ {V : Type 0} where
  dilate_iterations : IsIteration (dilate {V = V})
  dilate_iterations = record { keeps = λ f. record { background = refl; value = λ p inside. rw inside refl }; cut = λ f. cut_again _ _ }

  erode_iterations : IsIteration (erode {V = V})
  erode_iterations = record { keeps = λ f. record { background = refl; value = λ p inside. rw inside refl }; cut = λ f. cut_again _ _ }

  module _ (iteration : Field V → Field V) (is : IsIteration iteration) where
    iterations_keep : (n : ℕ) (f : Field V) → KeepsValues f (iterations n iteration f)
    iterations_keep zero f = record { background = refl; value = λ p inside. refl }
    iterations_keep (suc n) f =
        let first = is.keeps f in
        let rest = iterations_keep n (iteration f) in
        record { background = rest.background ∙ first.background; value = λ p inside. rest.value p inside ∙ first.value p inside }

    iterations_cut : (n : ℕ) (f : Field V) → iterations (suc n) iteration f ≡ field (iterations (suc n) iteration f).background (iterations (suc n) iteration f).cell
    iterations_cut zero f = is.cut f
    iterations_cut (suc n) f = iterations_cut n (iteration f)

  -- an active voxel stays active in each iteration of dilation
  grown : (n : ℕ) (f : Field V) (p : Coord) → InRange p → on f p ≡ true → on (iterations n dilate f) p ≡ true
  grown zero f p inside h = h
  grown (suc n) f p inside h = grown n (dilate f) p inside (dilated_on f p inside ∙ or_first (on f p) (list_any (on f) (neighbours p)) h)

  -- a voxel that is active after iterations of erosion was active before
  shrunk : (n : ℕ) (f : Field V) (p : Coord) → InRange p → on (iterations n erode f) p ≡ true → on f p ≡ true
  shrunk zero f p inside h = h
  shrunk (suc n) f p inside h = (both (on f p) (list_all (on f) (neighbours p)) (sym (eroded_on f p inside) ∙ shrunk n (erode f) p inside h)).0

  module _ (old new : Field V) (keeps : KeepsValues old new) (cut : new ≡ field new.background new.cell) where
    -- the values of one field with the states of another
    with_its_states : (c : Coord → Cell V) → ((p : Coord) → InRange p → (c p).value ≡ (old.cell p).value) → ((p : Coord) → InRange p → (c p).on ≡ on new p) → field old.background c ≡ new
    with_its_states c value state =
        ap (λ v. field v c) (sym keeps.background)
        ∙ same_cells new.background c new.cell (λ p inside.
        let v = value p inside ∙ sym (keeps.value p inside) in
        let s = state p inside in
        λ i. record { value = v i; on = s i })
        ∙ sym cut

    united : ((p : Coord) → InRange p → on old p ≡ true → on new p ≡ true) → unite old (topology new) ≡ new
    united h = with_its_states _ (λ p inside. refl) (λ p inside.
        ap (λ b. on old p || b) (topology_on new p inside)
        ∙ same_truth (on old p || on new p) (on new p) (λ e. elim (or_cases (on old p) (on new p) e) [ inl k ↦ h p inside k | inr k ↦ k ]) (or_second (on old p) (on new p)))

    intersected : ((p : Coord) → InRange p → on new p ≡ true → on old p ≡ true) → intersect old (topology new) ≡ new
    intersected h = with_its_states _ (λ p inside. refl) (λ p inside.
        ap (λ b. on old p && b) (topology_on new p inside)
        ∙ same_truth (on old p && on new p) (on new p) (λ e. (both (on old p) (on new p) e).1) (λ k. and_true (on old p) (on new p) (h p inside k) k))

  -- the states of some iterations of dilation, united with the field
  pub unite_iterations : (n : ℕ) → 1 ≤ n → (f : Field V) → unite f (topology (iterations n dilate f)) ≡ iterations n dilate f
  unite_iterations zero some f = absurd (omega arith)
  unite_iterations (suc n) some f = united f (iterations (suc n) dilate f) (iterations_keep dilate dilate_iterations (suc n) f) (iterations_cut dilate dilate_iterations n f) (grown (suc n) f)

  -- the states of some iterations of erosion, intersected with the field
  pub intersect_iterations : (n : ℕ) → 1 ≤ n → (f : Field V) → intersect f (topology (iterations n erode f)) ≡ iterations n erode f
  intersect_iterations zero some f = absurd (omega arith)
  intersect_iterations (suc n) some f = intersected f (iterations (suc n) erode f) (iterations_keep erode erode_iterations (suc n) f) (iterations_cut erode erode_iterations n f) (shrunk (suc n) f)

  -- erosion adds no root block with a cell other than the background
  pub eroded_roots : (eq : V → V → Bool) → ((x y : V) → eq x y ≡ true → x ≡ y) → ((x : V) → eq x x ≡ true) → (bits : Bits) (n : ℕ) → 1 ≤ n → (f : Field V) → roots eq bits (iterations n erode f) ≤ roots eq bits f
  eroded_roots eq exact itself bits n some f =
      subst (λ (g : Field V). roots eq bits g ≤ roots eq bits f) (intersect_iterations n some f) (ruled_within eq exact itself bits Intersect (no_unite_intersect Intersect refl) f (topology (iterations n erode f)))

-- ---- outcomes of iterations

module _ {V : Type 0} (eq : V → V → Bool) (bits : Bits) (limit n : ℕ) (some : 1 ≤ n) (f new : Field V) (states : Field Bool) where
  growth : (changed : Field V) (result : Result (Unit {0}) TreeRefusal) → IsOutcome eq bits limit f changed new result → IsGrowth eq bits limit f changed new result
  growth changed (Ok done) o = o
  growth changed (Err RootLimit) o = o
  growth changed (Err Memory) o = (o.0, tt)

  -- a union with the states of some iterations of dilation
  pub dilated_outcome : states ≡ topology (iterations n dilate f) → (result : Result (Unit {0}) TreeRefusal) → IsOutcome eq bits limit f (unite f states) new result
      → IsGrowth eq bits limit f (iterations n dilate f) new result
  dilated_outcome h result o =
      growth (iterations n dilate f) result
      (subst (λ (g : Field V). IsOutcome eq bits limit f g new result) (ap (λ (g : Field Bool). unite f g) h ∙ unite_iterations n some f) o)

  -- an intersection with the states of some iterations of erosion
  pub eroded_outcome : states ≡ topology (iterations n erode f) → (result : Result (Unit {0}) TreeRefusal) → IsOutcome eq bits limit f (intersect f states) new result
      → IsOutcome eq bits limit f (iterations n erode f) new result
  eroded_outcome h result o = subst (λ (g : Field V). IsOutcome eq bits limit f g new result) (ap (λ (g : Field Bool). intersect f g) h ∙ intersect_iterations n some f) o

-- erosion respects a limit that the field respects
pub eroded_few : {V : Type 0} (eq : V → V → Bool) (bits : Bits) (limit n : ℕ) → 1 ≤ n → (f : Field V) → ((x y : V) → eq x y ≡ true → x ≡ y) → ((x : V) → eq x x ≡ true) → (few : ℕ) → roots eq bits f ≤ few → few ≡ limit
    → roots eq bits (iterations n erode f) ≤ limit
eroded_few eq bits limit n some f exact itself few h e = let k = eroded_roots eq exact itself bits n some f in omega (arith, h, k, e)
