-- The scene after the grid of a name was borrowed and given back.
use Rattle.vdb_scene.proofs.Common.{◌≡◌, refl, sym, ap, ◌∙◌, ℕ, List, Option, Some, None, is_none, Err, lookup, set_value, option_map, vdb, Field, IsOutcome, TreeRefusal, Memory, RootLimit, grid_field, grid_root_limit, grid_of, scene_over, scalar_eq, Grid, grid_at, is_named, Pairs, changed, with_pairs, Scalar, AnyGrid, GridEntry}
use Rattle.vdb_scene.proofs.Entries.{lookup-over, set_value-found, set_value-over}
use Rattle.vdb_scene.proofs.Steps.{grid_found}

-- an entry with a grid of this field and this limit
one_grid : (entry : GridEntry) (given : AnyGrid) (f : Field Scalar) (limit : ℕ) → grid_field given ≡ f → grid_root_limit given ≡ limit
    → grid_of (record entry { grid = given }) ≡ record { field = f; limit = limit; pairs = entry.metas }
one_grid entry given f limit field is = λ i. record { field = field i; limit = is i; pairs = entry.metas }

-- a failed change leaves the field as it was
pub kept : (e : TreeRefusal) (limit : ℕ) (old changed new : Field Scalar) → IsOutcome scalar_eq vdb limit old changed new (Err e) → new ≡ old
kept RootLimit limit old changed new h = h.0
kept Memory limit old changed new h = h.0

none_map : {X Y : Type 0} (f : X → Y) (o : Option X) → is_none (option_map f o) ≡ is_none o
none_map f None = refl
none_map f (Some x) = refl

module _ (grids : List (List ℕ × GridEntry)) (name : List ℕ) where
  -- a name that no grid has
  pub missing : lookup (is_named name) grids ≡ None → grid_at (scene_over grids) name ≡ None
  missing none = lookup-over grid_of (is_named name) grids ∙ ap (option_map grid_of) none

  -- whether a grid has a name
  pub absent_is : is_none (grid_at (scene_over grids) name) ≡ is_none (lookup (is_named name) grids)
  absent_is = ap is_none (lookup-over grid_of (is_named name) grids) ∙ none_map grid_of (lookup (is_named name) grids)

  -- a name that a grid has
  pub found : (entry : GridEntry) → lookup (is_named name) grids ≡ Some entry → grid_at (scene_over grids) name ≡ Some (grid_of entry)
  found entry there = lookup-over grid_of (is_named name) grids ∙ ap (option_map grid_of) there

  module _ (after : List (List ℕ × GridEntry)) (entry : GridEntry) (there : lookup (is_named name) grids ≡ Some entry) where
    -- the scene is unchanged
    pub same_scene : after ≡ set_value (is_named name) grids entry → scene_over after ≡ scene_over grids
    same_scene back = ap scene_over (back ∙ set_value-found (is_named name) grids entry there)

    module _ (given : AnyGrid) (back : after ≡ set_value (is_named name) grids (record entry { grid = given })) where
      back_over : scene_over after ≡ set_value (is_named name) (scene_over grids) (grid_of (record entry { grid = given }))
      back_over = ap scene_over back ∙ sym (set_value-over grid_of (is_named name) grids (record entry { grid = given }))

      -- its cells are unchanged
      pub unchanged : grid_field given ≡ grid_field entry.grid → grid_root_limit given ≡ grid_root_limit entry.grid → scene_over after ≡ scene_over grids
      unchanged field limit =
          back_over ∙ ap (set_value (is_named name) (scene_over grids)) (one_grid entry given (grid_field entry.grid) (grid_root_limit entry.grid) field limit)
          ∙ set_value-found (is_named name) (scene_over grids) (grid_of entry) (found entry there)

      -- its field was changed
      pub changed_field : (change : Field Scalar → Field Scalar) → grid_field given ≡ change (grid_field entry.grid) → grid_root_limit given ≡ grid_root_limit entry.grid → scene_over after ≡ changed (scene_over grids) name change
      changed_field change field limit =
          back_over ∙ ap (set_value (is_named name) (scene_over grids)) (one_grid entry given (change (grid_field entry.grid)) (grid_root_limit entry.grid) field limit)
          ∙ ap (λ (g : Grid). set_value (is_named name) (scene_over grids) (record g { field = change g.field }))
          (sym (grid_found (scene_over grids) name (grid_of entry) (found entry there)))

    -- its pairs were changed
    pub changed_pairs : (metas : Pairs) (change : Pairs → Pairs) → after ≡ set_value (is_named name) grids (record entry { metas = metas }) → metas ≡ change entry.metas
        → scene_over after ≡ with_pairs (scene_over grids) name change
    changed_pairs metas change back is =
        ap scene_over back ∙ sym (set_value-over grid_of (is_named name) grids (record entry { metas = metas }))
        ∙ ap (λ (m : Pairs). set_value (is_named name) (scene_over grids) (grid_of (record entry { metas = m }))) is
        ∙ ap (λ (g : Grid). set_value (is_named name) (scene_over grids) (record g { pairs = change g.pairs }))
        (sym (grid_found (scene_over grids) name (grid_of entry) (found entry there)))
