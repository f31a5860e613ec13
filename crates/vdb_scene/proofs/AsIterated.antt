-- Iterations of dilation and of erosion, before and after each value of a field is mapped.
use Rattle.vdb_scene.proofs.Common.{◌≡◌, refl, sym, ap, subst, ◌∙◌, ℕ, zero, suc, ◌<◌, ◌≤◌, Bool, ◌&&◌, ◌||◌, Result, Ok, Err, list_any, fun_ext, Bits, Coord, Cell, roots, Field, as_field_of, dilate, erode, field, iterations, IsOutcome, TreeRefusal, Memory, RootLimit, as_field_of_cell, as_field_of_roots, same_cells, IsGrowth}
use Rattle.std.specs.List.{list_all}
use Rattle.vdb_coord.specs.Faces.{neighbours}

module _ {V U : Type 0} (make : V → U) where
  -- ---- one iteration

  module _ (background : V) (cells : Coord → Cell V) where
    abbrev before : Field V
    before = field background cells

    -- the same coordinates are active
    same_on : ◌≡◌ {A = Coord → Bool} (λ q. (before.cell q).on) (λ q. ((as_field_of make before).cell q).on)
    same_on = fun_ext (λ q. sym (ap (λ (c : Cell U). c.on) (as_field_of_cell make background cells q)))

    as_field_of_dilate : as_field_of make (dilate before) ≡ dilate (as_field_of make before)
    as_field_of_dilate = same_cells _ _ _ (λ p inside.
        rw inside (ap (λ (on : Coord → Bool). record { value = make (cells p).value; on = (cells p).on || list_any on (neighbours p) }) same_on))

    as_field_of_erode : as_field_of make (erode before) ≡ erode (as_field_of make before)
    as_field_of_erode = same_cells _ _ _ (λ p inside.
        rw inside (ap (λ (on : Coord → Bool). record { value = make (cells p).value; on = (cells p).on && list_all on (neighbours p) }) same_on))

  -- ---- n iterations

  -- an iteration of a field, and the same with each value mapped
  pub record IsIteration (iteration : Field V → Field V) (made_iteration : Field U → Field U) : Type 0 where
    pub next : Field V → Coord → Cell V
    pub is : (f : Field V) → iteration f ≡ field f.background (next f)
    pub made : (background : V) (cells : Coord → Cell V) → as_field_of make (iteration (field background cells)) ≡ made_iteration (as_field_of make (field background cells))

  pub dilate_made : IsIteration dilate dilate
  dilate_made = record { next = λ f p. record { value = (f.cell p).value; on = (f.cell p).on || list_any (λ q. (f.cell q).on) (neighbours p) }; is = λ f. refl; made = as_field_of_dilate }

  pub erode_made : IsIteration erode erode
  erode_made = record { next = λ f p. record { value = (f.cell p).value; on = (f.cell p).on && list_all (λ q. (f.cell q).on) (neighbours p) }; is = λ f. refl; made = as_field_of_erode }

  module _ (iteration : Field V → Field V) (made_iteration : Field U → Field U) (t : IsIteration iteration made_iteration) where
    -- a fact for each field of cells holds after some iterations of one
    of_iterations : (P : Field V → Type 0) → ((background : V) (cells : Coord → Cell V) → P (field background cells)) → (n : ℕ) (background : V) (cells : Coord → Cell V) → P (iterations n iteration (field background cells))
    of_iterations P h zero background cells = h background cells
    of_iterations P h (suc n) background cells = subst (λ f. P (iterations n iteration f)) (sym (t.is (field background cells))) (of_iterations P h n background (t.next (field background cells)))

    as_field_of_iterations : (n : ℕ) (background : V) (cells : Coord → Cell V) → as_field_of make (iterations n iteration (field background cells)) ≡ iterations n made_iteration (as_field_of make (field background cells))
    as_field_of_iterations zero background cells = refl
    as_field_of_iterations (suc n) background cells =
        ap (λ f. as_field_of make (iterations n iteration f)) (t.is (field background cells)) ∙ as_field_of_iterations n background (t.next (field background cells))
        ∙ ap (λ f. iterations n made_iteration (as_field_of make f)) (sym (t.is (field background cells))) ∙ ap (iterations n made_iteration) (t.made background cells)

    module _ (eq : V → V → Bool) (made_eq : U → U → Bool) (same : (v w : V) → made_eq (make v) (make w) ≡ eq v w) (bits : Bits) (limit n : ℕ) (background : V) (cells : Coord → Cell V) (after : Field V) where
      abbrev old : Field V
      old = field background cells

      abbrev pub changed : Field U
      changed = iterations n made_iteration (as_field_of make old)

      is_changed : as_field_of make (iterations n iteration old) ≡ changed
      is_changed = as_field_of_iterations n background cells

      same_roots : roots eq bits (iterations n iteration old) ≡ roots made_eq bits changed
      same_roots =
          sym (of_iterations (λ f. roots made_eq bits (as_field_of make f) ≡ roots eq bits f) (λ b c. as_field_of_roots make b c eq made_eq same bits) n background cells)
          ∙ ap (roots made_eq bits) is_changed

      -- the outcome of some iterations of dilation
      pub as_growth_of_iterations : (result : Result (Unit {0}) TreeRefusal) → IsGrowth eq bits limit old (iterations n iteration old) after result → IsGrowth made_eq bits limit (as_field_of make old) changed (as_field_of make after) result
      as_growth_of_iterations (Ok u) h = (ap (as_field_of make) h.0 ∙ is_changed, subst (λ (k : ℕ). k ≤ limit) same_roots h.1)
      as_growth_of_iterations (Err RootLimit) h = (ap (as_field_of make) h.0, subst (λ (k : ℕ). limit < k) same_roots h.1)
      as_growth_of_iterations (Err Memory) h = (ap (as_field_of make) h.0, tt)

      -- the outcome of some iterations of erosion
      pub as_outcome_of_iterations : (result : Result (Unit {0}) TreeRefusal) → IsOutcome eq bits limit old (iterations n iteration old) after result → IsOutcome made_eq bits limit (as_field_of make old) changed (as_field_of make after) result
      as_outcome_of_iterations (Ok u) h = (ap (as_field_of make) h.0 ∙ is_changed, subst (λ (k : ℕ). k ≤ limit) same_roots h.1)
      as_outcome_of_iterations (Err RootLimit) h = (ap (as_field_of make) h.0, subst (λ (k : ℕ). limit < k) same_roots h.1)
      as_outcome_of_iterations (Err Memory) h = (ap (as_field_of make) h.0, subst (λ (k : ℕ). k ≤ limit) same_roots h.1)
