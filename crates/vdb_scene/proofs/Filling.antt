-- The outcome of filling a box, from facts about the grid and the command.
use Rattle.vdb_scene.proofs.Common.{◌≡◌, refl, sym, ap, ◌∙◌, ◌≤◌, ℕ, Bool, true, false, not, ◌&&◌, nat_lt, List, [], ◌∷◌, Option, Some, None, is_none, Ok, Err, le-ltb, lt-ltb, lookup, vdb, Box, is_box, Kind, Field, fill, IsOutcome, roots, TreeRefusal, Memory, RootLimit, CarriesOut, grid_field, grid_root_limit, grid_of, scene_over, has_form, has_value, kind_of, scalar, scalar_eq, Grid, Scene, is_named, are_coords, box_between, first_of_all, no_box, of_tree, other_form, out_of_range, refused_if, after, changed, refusal, GridEntry, Done, Refusal, Command, Corners, Literal, Scalar}
use Rattle.vdb_scene.specs.Replies as replies
use Rattle.vdb_scene.specs.declared.answer.Refusal.TheVariants as refusals
use Rattle.vdb_scene.specs.declared.command.Command.TheVariants as commands
use Rattle.vdb_scene.proofs.Borrowed.{found, missing}
use Rattle.vdb_scene.proofs.Writing.{passed_over}
use Rattle.vdb_scene.proofs.Steps.{corners_next, grid_found, kind_found, refused, value_first}

-- ---- the errors of an existing grid

abbrev tests : Bool → Bool → Bool → Bool → Bool → List (Option Refusal)
tests fits placed value ordered over =
    refused_if (not fits) refusals.Kind ∷ refused_if (not (placed && value)) refusals.ValueRange ∷ refused_if (not ordered) refusals.Box ∷ refused_if over refusals.RootLimit ∷ []

module _ (fits placed value ordered over : Bool) (f : fits ≡ true) (p : placed ≡ true) (v : value ≡ true) (o : ordered ≡ true) where
  none_left : over ≡ false → first_of_all (tests fits placed value ordered over) ≡ None
  none_left l = rw (f, p, v, o, l) refl

  limit_left : over ≡ true → first_of_all (tests fits placed value ordered over) ≡ Some refusals.RootLimit
  limit_left l = rw (f, p, v, o, l) refl

-- a type that fits gives no error
kind_passed : (fits : Bool) (rest : List (Option Refusal)) → fits ≡ true → first_of_all (other_form fits ∷ rest) ≡ first_of_all rest
kind_passed fits rest f = rw f refl

-- ---- the box

module _ (grids : List (List ℕ × GridEntry)) (name : List ℕ) (c : Corners) (v : Literal) (on : Bool) (next : Scene) where
  abbrev scene : Scene
  scene = scene_over grids

  abbrev command : Command
  command = commands.Fill name c v on

  -- no grid of that name
  pub fill_missing : lookup (is_named name) grids ≡ None → next ≡ scene → CarriesOut scene command (Err refusals.NoGrid) next
  fill_missing none same = (rw (missing grids name none) refl, same)

  module _ (entry : GridEntry) (there : lookup (is_named name) grids ≡ Some entry) (kind : Kind) (is_kind : kind ≡ kind_of (grid_field entry.grid).background) where
    abbrev over : Bool
    over = nat_lt (grid_root_limit entry.grid) (roots scalar_eq vdb (fill (box_between c) (record { value = scalar kind v; on = on }) (grid_field entry.grid)))

    -- facts about the scene's grid hold for the grid that was found
    refusal_is : refusal scene command ≡ first_of_all (tests (has_form kind v) (are_coords c) (has_value kind v) (is_box (box_between c)) over)
    refusal_is =
        passed_over _ _ (ap is_none (found grids name entry there))
        ∙ ap (λ (g : Grid). first_of_all (tests (has_form (kind_of g.field.background) v) (are_coords c) (has_value (kind_of g.field.background) v) (is_box (box_between c))
        (nat_lt g.limit (roots scalar_eq vdb (fill (box_between c) (record { value = scalar (kind_of g.field.background) v; on = on }) g.field)))))
        (grid_found scene name (grid_of entry) (found grids name entry there))
        ∙ ap (λ k. first_of_all (tests (has_form k v) (are_coords c) (has_value k v) (is_box (box_between c))
        (nat_lt (grid_root_limit entry.grid) (roots scalar_eq vdb (fill (box_between c) (record { value = scalar k v; on = on }) (grid_field entry.grid))))))
        (sym is_kind)

    -- a value outside the type
    pub fill_value_refused : (r : Refusal) → first_of_all (other_form (has_form kind v) ∷ out_of_range (has_value kind v) ∷ []) ≡ Some r → next ≡ scene → CarriesOut scene command (Err r) next
    fill_value_refused r is same =
        let h = value_first (has_form kind v) (has_value kind v) (are_coords c) (no_box c ∷ refused_if over refusals.RootLimit ∷ []) r is in
        refused scene command r next (refusal_is ∙ h.0) h.1 same

    module _ (form : has_form kind v ≡ true) (value : has_value kind v ≡ true) where
      -- corners that are no box
      pub fill_corners_refused : (r : Refusal) → first_of_all (out_of_range (are_coords c) ∷ no_box c ∷ []) ≡ Some r → next ≡ scene → CarriesOut scene command (Err r) next
      fill_corners_refused r is same =
          let h = corners_next (are_coords c) (has_value kind v) (is_box (box_between c)) (refused_if over refusals.RootLimit ∷ []) r value is in
          refused scene command r next (refusal_is ∙ kind_passed (has_form kind v) _ form ∙ h.0) h.1 same

      module _ (placed : are_coords c ≡ true) (ordered : is_box (box_between c) ≡ true) (box : Box) (is_bounds : box ≡ box_between c) (x : Scalar) (is_x : x ≡ scalar kind v) where
        -- the grid's field after the fill
        abbrev filled : Field Scalar
        filled = fill box (record { value = x; on = on }) (grid_field entry.grid)

        over_is : over ≡ nat_lt (grid_root_limit entry.grid) (roots scalar_eq vdb filled)
        over_is =
            ap (λ b. nat_lt (grid_root_limit entry.grid) (roots scalar_eq vdb (fill b (record { value = scalar kind v; on = on }) (grid_field entry.grid)))) (sym is_bounds)
            ∙ ap (λ y. nat_lt (grid_root_limit entry.grid) (roots scalar_eq vdb (fill box (record { value = y; on = on }) (grid_field entry.grid)))) (sym is_x)

        accepted : roots scalar_eq vdb filled ≤ grid_root_limit entry.grid → refusal scene command ≡ None
        accepted few = refusal_is ∙ none_left _ _ _ _ over form placed value ordered (over_is ∙ le-ltb _ _ few)

        -- the box is filled
        pub fill_done : roots scalar_eq vdb filled ≤ grid_root_limit entry.grid → next ≡ changed scene name (fill box (record { value = x; on = on })) → CarriesOut scene command (Ok Done) next
        fill_done few is = (
          accepted few,
          (replies.Done, refl, refl),
          is ∙ ap (λ b. changed scene name (fill b (record { value = x; on = on }))) is_bounds
              ∙ ap (λ y. changed scene name (fill (box_between c) (record { value = y; on = on })))
              (is_x ∙ ap (λ k. scalar k v) (is_kind ∙ sym (kind_found scene name (grid_of entry) (found grids name entry there)))),
        )

        -- the grid's tree fails
        pub fill_refused : (e : TreeRefusal) (after : Field Scalar) → IsOutcome scalar_eq vdb (grid_root_limit entry.grid) (grid_field entry.grid) filled after (Err e) → next ≡ scene → CarriesOut scene command (Err (of_tree e)) next
        fill_refused RootLimit after h same = (refusal_is ∙ limit_left _ _ _ _ over form placed value ordered (over_is ∙ lt-ltb _ _ h.1), same)
        fill_refused Memory after h same = (accepted h.1, refl, same)
