-- The outcomes of commands on metadata pairs, from facts about the grid.
use Rattle.vdb_scene.proofs.Common.{◌≡◌, ◌∙◌, ap, refl, ℕ, Bool, true, false, not, List, [], ◌∷◌, Some, None, Result, Ok, Err, lookup, set_value, CarriesOut, LeavesTrees, grid_of, scene_over, Pairs, SetsPair, has_pair, may_set, with_pair, without_pair, first_of_all, refused_if, is_named, IsReply, refusal, Done, Refusal, Command, GridEntry}
use Rattle.vdb_scene.specs.Doing.{Does, result_of}
use Rattle.vdb_scene.specs.Replies as replies
use Rattle.vdb_scene.specs.Scene as abstract_scene
use Rattle.vdb_scene.specs.declared.answer.Refusal.TheVariants as refusals
use Rattle.vdb_scene.specs.declared.command.Command.TheVariants as commands
use Rattle.vdb_scene.specs.declared.scene.Scene.{Scene}
use Rattle.vdb_scene.proofs.Borrowed.{changed_pairs, found, missing, same_scene}
use Rattle.vdb_scene.proofs.Steps.{grid_found}
use Rattle.vdb_scene.proofs.Trees.{same_back}

-- ---- a command that answers `Done`

module _ (s : abstract_scene.Scene) (c : Command) (next : abstract_scene.Scene) where
  pub refused_too : (r : Refusal) → Does s c (Err r) next → CarriesOut s c (Err r) next
  refused_too refusals.Memory h = h
  refused_too r h = h

  pub done_too : (u : Unit {0}) → IsReply s c replies.Done → Does s c (Ok u) next → CarriesOut s c (Ok Done) next
  done_too u reply h = (h.0, (replies.Done, refl, reply), h.1)

-- ---- a missing grid

module _ (grids : List (List ℕ × GridEntry)) (name key : List ℕ) (next : abstract_scene.Scene) (none : lookup (is_named name) grids ≡ None) (same : next ≡ scene_over grids) where
  pub set_missing : (text : List ℕ) → Does (scene_over grids) (commands.Meta name key text) (Err refusals.NoGrid) next
  set_missing text = (rw (missing grids name none) refl, same)

  pub remove_missing : Does (scene_over grids) (commands.Unmeta name key) (Err refusals.NoGrid) next
  remove_missing = (rw (missing grids name none) refl, same)

-- ---- an existing grid

accepted : (may : Bool) → may ≡ true → first_of_all (refused_if (not may) refusals.MetaLimit ∷ []) ≡ None
accepted may h = rw h refl

limited : (may : Bool) → may ≡ false → first_of_all (refused_if (not may) refusals.MetaLimit ∷ []) ≡ Some refusals.MetaLimit
limited may h = rw h refl

module _ (grids after : List (List ℕ × GridEntry)) (name key : List ℕ) (entry : GridEntry) (metas : Pairs) (there : lookup (is_named name) grids ≡ Some entry)
    (back : after ≡ set_value (is_named name) grids (record entry { metas = metas })) where
  abbrev scene : abstract_scene.Scene
  scene = scene_over grids

  -- the pairs are unchanged
  given_back : metas ≡ entry.metas → after ≡ set_value (is_named name) grids entry
  given_back same = back ∙ ap (λ (m : Pairs). set_value (is_named name) grids (record entry { metas = m })) same

  pub pairs_removed : (u : Unit {0}) → metas ≡ without_pair entry.metas key → Does scene (commands.Unmeta name key) (Ok u) (scene_over after)
  pairs_removed u is = (rw (found grids name entry there) refl, changed_pairs grids name after entry there metas (λ pairs. without_pair pairs key) back is)

  module _ (text : List ℕ) where
    -- the number of pairs is the only error of a pair
    limit_left : refusal scene (commands.Meta name key text) ≡ first_of_all (refused_if (not (may_set entry.metas key)) refusals.MetaLimit ∷ [])
    limit_left = rw (found grids name entry there) (ap (λ (g : abstract_scene.Grid). first_of_all (refused_if (not (may_set g.pairs key)) refusals.MetaLimit ∷ [])) (grid_found scene name (grid_of entry) (found grids name entry there)))

    pub pairs_set : (result : Result (Unit {0}) Refusal) → SetsPair entry.metas key text result metas → Does scene (commands.Meta name key text) result (scene_over after)
    pairs_set (Ok u) h = (limit_left ∙ accepted _ h.0, changed_pairs grids name after entry there metas (λ pairs. with_pair pairs key text) back h.1)
    pairs_set (Err refusals.MetaLimit) h = (limit_left ∙ limited _ h.0, same_scene grids name after entry there (given_back h.1))
    pairs_set (Err refusals.Memory) h = (
      limit_left ∙ accepted _ h.0,
      ap (λ (g : abstract_scene.Grid). not (has_pair g.pairs key)) (grid_found scene name (grid_of entry) (found grids name entry there)) ∙ ap not h.1,
      same_scene grids name after entry there (given_back h.2),
    )
    pairs_set (Err r) h = absurd h

-- the trees after it
module _ (old new : Scene) (name key text : List ℕ) (entry : GridEntry) (metas : Pairs) (there : lookup (is_named name) old.grids.entries ≡ Some entry)
    (back : new.grids.entries ≡ set_value (is_named name) old.grids.entries (record entry { metas = metas })) where
  stays : metas ≡ entry.metas → new.grids.entries ≡ old.grids.entries
  stays same = same_back old.grids.entries new.grids.entries name entry there (given_back old.grids.entries new.grids.entries name key entry metas there back same)

  pub set_trees : (result : Result (Unit {0}) Refusal) → SetsPair entry.metas key text result metas → LeavesTrees (commands.Meta name key text) (result_of result) old new
  set_trees (Ok u) h = (entry, metas, there, back)
  set_trees (Err refusals.MetaLimit) h = stays h.1
  set_trees (Err refusals.Memory) h = stays h.2
  set_trees (Err r) h = absurd h
