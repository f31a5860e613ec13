-- The outcome of iterations of dilation and of erosion, from facts about the grid and the command.
use Rattle.vdb_scene.proofs.Common.{◌≡◌, refl, sym, ap, ◌∙◌, ℕ, Bool, true, false, List, [], ◌∷◌, Some, None, Ok, Err, le-ltb, lt-ltb, lookup, set_value, vdb, Field, dilate, erode, iterations, IsOutcome, TreeRefusal, Memory, RootLimit, IsGrowth, CarriesOut, grid_field, grid_root_limit, grid_of, scene_over, count_of, is_iteration_count, beyond_limit, first_of_all, of_tree, refused_if, scalar_eq, Grid, Scene, is_named, changed, refusal, AnyGrid, GridEntry, Done, Num, Scalar}
use Rattle.vdb_scene.specs.Replies as replies
use Rattle.vdb_scene.specs.declared.answer.Refusal.TheVariants as refusals
use Rattle.vdb_scene.specs.declared.command.Command.TheVariants as commands
use Rattle.vdb_scene.proofs.Borrowed.{changed_field, found, missing, unchanged}
use Rattle.vdb_scene.proofs.Steps.{grid_found}

-- ---- a missing grid, or a number of iterations outside the range

module _ (grids : List (List ℕ × GridEntry)) (name : List ℕ) (n : Num) (next : Scene) (same : next ≡ scene_over grids) where
  pub dilate_missing : lookup (is_named name) grids ≡ None → CarriesOut (scene_over grids) (commands.Dilate name n) (Err refusals.NoGrid) next
  dilate_missing none = (rw (missing grids name none) refl, same)

  pub erode_missing : lookup (is_named name) grids ≡ None → CarriesOut (scene_over grids) (commands.Erode name n) (Err refusals.NoGrid) next
  erode_missing none = (rw (missing grids name none) refl, same)

  module _ (entry : GridEntry) (there : lookup (is_named name) grids ≡ Some entry) (other : is_iteration_count n ≡ false) where
    pub dilate_out_of_range : CarriesOut (scene_over grids) (commands.Dilate name n) (Err refusals.ValueRange) next
    dilate_out_of_range = (rw (found grids name entry there, other) refl, same)

    pub erode_out_of_range : CarriesOut (scene_over grids) (commands.Erode name n) (Err refusals.ValueRange) next
    erode_out_of_range = (rw (found grids name entry there, other) refl, same)

-- ---- iterations over an existing grid

over_limit : (b : Bool) → b ≡ true → first_of_all (refused_if b refusals.RootLimit ∷ []) ≡ Some refusals.RootLimit
over_limit b h = rw h refl

within_limit : (b : Bool) → b ≡ false → first_of_all (refused_if b refusals.RootLimit ∷ []) ≡ None
within_limit b h = rw h refl

module _ (grids after : List (List ℕ × GridEntry)) (name : List ℕ) (n : Num) (was : GridEntry) (grid : AnyGrid) (there : lookup (is_named name) grids ≡ Some was)
    (back : after ≡ set_value (is_named name) grids (record was { grid = grid })) (limit : grid_root_limit grid ≡ grid_root_limit was.grid) (fits : is_iteration_count n ≡ true) (k : ℕ) (is : count_of n ≡ k) where
  abbrev scene : Scene
  scene = scene_over grids

  -- the grid is unchanged
  same_scene : grid_field grid ≡ grid_field was.grid → scene_over after ≡ scene
  same_scene h = unchanged grids name after was there grid back h limit

  -- its field was changed by this number of iterations
  iterated : (iteration : Field Scalar → Field Scalar) → grid_field grid ≡ iterations k iteration (grid_field was.grid) → scene_over after ≡ changed scene name (iterations (count_of n) iteration)
  iterated iteration h = changed_field grids name after was there grid back (iterations k iteration) h limit ∙ ap (λ m. changed scene name (iterations m iteration)) (sym is)

  abbrev pub dilated : Field Scalar
  dilated = iterations k dilate (grid_field was.grid)

  -- the root limit is the only error of a dilation
  limit_left : refusal scene (commands.Dilate name n) ≡ first_of_all (beyond_limit (grid_root_limit was.grid) dilated ∷ [])
  limit_left = rw (found grids name was there, fits) (
      ap (λ (g : Grid). first_of_all (beyond_limit g.limit (iterations (count_of n) dilate g.field) ∷ [])) (grid_found scene name (grid_of was) (found grids name was there))
      ∙ ap (λ m. first_of_all (beyond_limit (grid_root_limit was.grid) (iterations m dilate (grid_field was.grid)) ∷ [])) is)

  pub dilate_done : (u : Unit {0}) → IsGrowth scalar_eq vdb (grid_root_limit was.grid) (grid_field was.grid) dilated (grid_field grid) (Ok u) → CarriesOut scene (commands.Dilate name n) (Ok Done) (scene_over after)
  dilate_done u h = (limit_left ∙ within_limit _ (le-ltb _ _ h.1), (replies.Done, refl, refl), iterated dilate h.0)

  pub dilate_refused : (e : TreeRefusal) → IsGrowth scalar_eq vdb (grid_root_limit was.grid) (grid_field was.grid) dilated (grid_field grid) (Err e) → CarriesOut scene (commands.Dilate name n) (Err (of_tree e)) (scene_over after)
  dilate_refused RootLimit h = (limit_left ∙ over_limit _ (lt-ltb _ _ h.1), same_scene h.0)
  dilate_refused Memory h = (rw (found grids name was there, fits) refl, refl, same_scene h.0)

  abbrev pub eroded : Field Scalar
  eroded = iterations k erode (grid_field was.grid)

  pub erode_done : (u : Unit {0}) → IsOutcome scalar_eq vdb (grid_root_limit was.grid) (grid_field was.grid) eroded (grid_field grid) (Ok u) → CarriesOut scene (commands.Erode name n) (Ok Done) (scene_over after)
  erode_done u h = (rw (found grids name was there, fits) refl, (replies.Done, refl, refl), iterated erode h.0)

  pub erode_refused : (e : TreeRefusal) → e ≡ Memory → IsOutcome scalar_eq vdb (grid_root_limit was.grid) (grid_field was.grid) eroded (grid_field grid) (Err e) → CarriesOut scene (commands.Erode name n) (Err (of_tree e)) (scene_over after)
  erode_refused RootLimit is h = cc
  erode_refused Memory is h = (rw (found grids name was there, fits) refl, refl, same_scene h.0)
