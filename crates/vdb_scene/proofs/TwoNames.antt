-- The outcome of a command on two grids, from facts about them.
use Rattle.vdb_scene.proofs.Common.{◌≡◌, refl, sym, ap, ◌∙◌, rules, ℕ, true, false, List, ◌∷◌, Option, Some, None, is_none, is_some, IsSome, Ok, Err, lookup, set_value, Coord, CarriesOut, LeavesTrees, PutsGrid, changed_name, coords_by, grid_coords, grid_field, grid_root_limit, grid_of, scene_over, first_of_all, no_grid, same_grid, field_at, grid_at, is_named, limit_at, IsReply, after, changed, first_refusal, refusal, takes_memory, tried, made_of, tried_of, AnyGrid, GridEntry, Done, Refusal, Unite, Subtract, Intersect, Maximum, Minimum, Sum, Replace, Operation, States, Values}
use Rattle.std.specs.Cmp.Lexicographic.{pointwise, texts_ties}
use Rattle.std.specs.Prelude.{nat_eq}
use Rattle.vdb_scene.specs.Doing.{GivesBack, PutsTree}
use Rattle.vdb_scene.specs.Replies as replies
use Rattle.vdb_scene.specs.Scene as abstract_scene
use Rattle.vdb_scene.specs.TwoGrids.{IsMade, StaysBut, command_of}
use Rattle.vdb_scene.specs.declared.answer.Answer.TheVariants.{Refused}
use Rattle.vdb_scene.specs.declared.answer.Refusal.TheVariants as refusals
use Rattle.vdb_scene.specs.declared.scene.Scene.{Scene}
use Rattle.vdb_scene.proofs.Borrowed.{absent_is, changed_field, found, unchanged}
use Rattle.vdb_scene.proofs.Entries.{set_value-found}
use Rattle.vdb_scene.proofs.Steps.{field_found, grid_found}

-- ---- the seven commands by their operation

module _ (s : abstract_scene.Scene) (name other : List ℕ) where
  tried_is : (o : Operation) → tried s (command_of o name other) ≡ no_grid s name ∷ no_grid s other ∷ same_grid name other ∷ tried_of o (limit_at s name) (field_at s name) (field_at s other)
  tried_is (States Unite) = refl
  tried_is (States Subtract) = refl
  tried_is (States Intersect) = refl
  tried_is (Values Maximum) = refl
  tried_is (Values Minimum) = refl
  tried_is (Values Sum) = refl
  tried_is (Values Replace) = refl

  after_is : (o : Operation) → after s (command_of o name other) ≡ changed s name (λ f. made_of o f (field_at s other))
  after_is (States Unite) = refl
  after_is (States Subtract) = refl
  after_is (States Intersect) = refl
  after_is (Values Maximum) = refl
  after_is (Values Minimum) = refl
  after_is (Values Sum) = refl
  after_is (Values Replace) = refl

  done_is : (o : Operation) → IsReply s (command_of o name other) replies.Done
  done_is (States Unite) = refl
  done_is (States Subtract) = refl
  done_is (States Intersect) = refl
  done_is (Values Maximum) = refl
  done_is (Values Minimum) = refl
  done_is (Values Sum) = refl
  done_is (Values Replace) = refl

  may_take : (o : Operation) → takes_memory s (command_of o name other) ≡ true
  may_take (States Unite) = refl
  may_take (States Subtract) = refl
  may_take (States Intersect) = refl
  may_take (Values Maximum) = refl
  may_take (Values Minimum) = refl
  may_take (Values Sum) = refl
  may_take (Values Replace) = refl

  -- after the other errors only an allocation failure can come
  first_is : (o : Operation) → first_refusal s (command_of o name other) ≡ refusal s (command_of o name other)
  first_is (States Unite) = refl
  first_is (States Subtract) = refl
  first_is (States Intersect) = refl
  first_is (Values Maximum) = refl
  first_is (Values Minimum) = refl
  first_is (Values Sum) = refl
  first_is (Values Replace) = refl

-- the trees after it
pub done_leaves : (o : Operation) (old new : Scene) (name other : List ℕ) (was g : GridEntry) → PutsTree old name was g new → LeavesTrees (command_of o name other) Done old new
done_leaves (States Unite) old new name other was g h = (was, g, h)
done_leaves (States Subtract) old new name other was g h = (was, g, h)
done_leaves (States Intersect) old new name other was g h = (was, g, h)
done_leaves (Values Maximum) old new name other was g h = (was, g, h)
done_leaves (Values Minimum) old new name other was g h = (was, g, h)
done_leaves (Values Sum) old new name other was g h = (was, g, h)
done_leaves (Values Replace) old new name other was g h = (was, g, h)

-- ---- names

-- equal names are one
pub same_name : (name other : List ℕ) → true ≡ pointwise nat_eq name other → is_named name other ≡ true
same_name name other h = sym (texts_ties name other) ∙ sym h

pub other_name : (name other : List ℕ) → false ≡ pointwise nat_eq name other → is_named name other ≡ false
other_name name other h = sym (texts_ties name other) ∙ sym h

there_is : {A : Type 0} (o : Option A) → true ≡ is_some o → is_none o ≡ false
there_is None h = cc
there_is (Some a) h = refl

-- a command that names one grid twice
pub twice_refused : (s : abstract_scene.Scene) (name other : List ℕ) (o : Operation) → true ≡ is_some (grid_at s name) → true ≡ is_some (grid_at s other) → is_named name other ≡ true
    → refusal s (command_of o name other) ≡ Some refusals.SameGrid
twice_refused s name other o h k e = ap first_of_all (tried_is s name other o) ∙ rw (there_is (grid_at s name) h, there_is (grid_at s other) k, e) refl

-- ---- two grids that are there

module _ (grids after_grids : List (List ℕ × GridEntry)) (name other : List ℕ) (was given : GridEntry) (grid : AnyGrid) (o : Operation)
    (there : lookup (is_named name) grids ≡ Some was) (there_too : lookup (is_named other) grids ≡ Some given) (apart : is_named name other ≡ false)
    (back : after_grids ≡ set_value (is_named name) grids (record was { grid = grid })) (limit : grid_root_limit grid ≡ grid_root_limit was.grid) where
  abbrev scene : abstract_scene.Scene
  scene = scene_over grids

  refusal_is : refusal scene (command_of o name other) ≡ first_of_all (tried_of o (grid_root_limit was.grid) (grid_field was.grid) (grid_field given.grid))
  refusal_is = ap first_of_all (tried_is scene name other o) ∙ rw (found grids name was there, found grids other given there_too, apart) (
      ap (λ (x : abstract_scene.Grid). first_of_all (tried_of o x.limit x.field (field_at scene other))) (grid_found scene name (grid_of was) (found grids name was there))
      ∙ ap (λ (x : abstract_scene.Grid). first_of_all (tried_of o (grid_root_limit was.grid) (grid_field was.grid) x.field)) (grid_found scene other (grid_of given) (found grids other given there_too)))

  -- it is carried out
  pub two_done : (u : Unit {0}) → IsMade o (grid_root_limit was.grid) (grid_field was.grid) (grid_field given.grid) (grid_field grid) (Ok u) → CarriesOut scene (command_of o name other) (Ok Done) (scene_over after_grids)
  two_done u h = (
    refusal_is ∙ h.0,
    (replies.Done, refl, done_is scene name other o),
    changed_field grids name after_grids was there grid back (λ f. made_of o f (grid_field given.grid)) h.1 limit
        ∙ ap (λ g. changed scene name (λ f. made_of o f g)) (sym (field_found scene other (grid_of given) (found grids other given there_too)))
        ∙ sym (after_is scene name other o),
  )

  same : grid_field grid ≡ grid_field was.grid → scene_over after_grids ≡ scene
  same h = unchanged grids name after_grids was there grid back h limit

  -- it fails
  pub two_refused : (r : Refusal) → IsMade o (grid_root_limit was.grid) (grid_field was.grid) (grid_field given.grid) (grid_field grid) (Err r) → CarriesOut scene (command_of o name other) (Err r) (scene_over after_grids)
  two_refused refusals.Memory h = (first_is scene name other o ∙ refusal_is ∙ h.0, may_take scene name other o, same h.1)
  two_refused r h = (refusal_is ∙ h.0, same h.1)

-- the grid that it changes
first_changes : (o : Operation) (name other : List ℕ) → changed_name (command_of o name other) ≡ Some name
first_changes (States Unite) name other = refl
first_changes (States Subtract) name other = refl
first_changes (States Intersect) name other = refl
first_changes (Values Maximum) name other = refl
first_changes (Values Minimum) name other = refl
first_changes (Values Sum) name other = refl
first_changes (Values Replace) name other = refl

-- and its accessors keep their coordinates
first_keeps : (o : Operation) (name other : List ℕ) (coords : List (Option Coord)) → coords_by (command_of o name other) coords ≡ coords
first_keeps (States Unite) name other coords = refl
first_keeps (States Subtract) name other coords = refl
first_keeps (States Intersect) name other coords = refl
first_keeps (Values Maximum) name other coords = refl
first_keeps (Values Minimum) name other coords = refl
first_keeps (Values Sum) name other coords = refl
first_keeps (Values Replace) name other coords = refl

-- and after an allocation failure it is any grid
first_gives : (o : Operation) (name other : List ℕ) (g : AnyGrid) → GivesBack (command_of o name other) g
first_gives (States Unite) name other g = tt
first_gives (States Subtract) name other g = tt
first_gives (States Intersect) name other g = tt
first_gives (Values Maximum) name other g = tt
first_gives (Values Minimum) name other g = tt
first_gives (Values Sum) name other g = tt
first_gives (Values Replace) name other g = tt

-- the trees after an error
pub refused_trees : (o : Operation) (old new : Scene) (name other : List ℕ) (was : GridEntry) (grid : AnyGrid) (r : Refusal) → lookup (is_named name) old.grids.entries ≡ Some was
    → PutsGrid old name (record was { grid = grid }) new → grid_coords grid ≡ grid_coords was.grid → StaysBut r was.grid grid → LeavesTrees (command_of o name other) (Refused r) old new
refused_trees o old new name other was grid refusals.RootLimit there puts last stays = rw (first_changes o name other) (was, record was { grid = grid }, there, puts, last ∙ sym (first_keeps o name other (grid_coords was.grid)), tt)
refused_trees o old new name other was grid refusals.Memory there puts last stays =
    rw (first_changes o name other) (was, record was { grid = grid }, there, puts, last ∙ sym (first_keeps o name other (grid_coords was.grid)), first_gives o name other grid)
refused_trees o old new name other was grid r there puts last stays =
    puts ∙ ap (λ (g : AnyGrid). set_value (is_named name) old.grids.entries (record was { grid = g })) stays ∙ set_value-found (is_named name) old.grids.entries was there

-- a name that is found in the abstract scene is found in the scene
pub is_there : (grids : List (List ℕ × GridEntry)) (name : List ℕ) → true ≡ is_some (grid_at (scene_over grids) name) → IsSome (lookup (is_named name) grids)
is_there grids name h = some_there (lookup (is_named name) grids) (sym (absent_is grids name) ∙ there_is (grid_at (scene_over grids) name) h)
  where
    some_there : (o : Option GridEntry) → is_none o ≡ false → IsSome o
    some_there None e = cc
    some_there (Some a) e = search rules
