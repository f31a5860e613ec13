-- A grid of a scene exchanged with that of a handle.
use Rattle.std.proofs.Common.{sym, false}
use Rattle.vdb_c.proofs.Common.{◌≡◌, ap, inl, refl, List, ℕ, Bool, true, Some, None, Option, if◌then◌else◌, AnyGrid, Scene, done}
use Rattle.std.specs.Map.{lookup}
use Rattle.vdb_scene.specs.Doing.{PutsGrid, SwapsGrid}
use Rattle.vdb_scene.specs.Names.{is_name}
use Rattle.vdb_scene.specs.Scene.{is_named}
use Rattle.vdb_scene.specs.declared.grid_entry.GridEntry.{GridEntry}
use Rattle.vdb_c.specs.Codes.{no_grid}
use Rattle.vdb_c.specs.Scenes.{IsSwapped, OnFound}
use Rattle.vdb_c.proofs.scenes.moves.swap.Goals as goal

module _ (s t : Scene) (name : List ℕ) (was is : AnyGrid) where
  -- by whether the scene has a grid of the name
  found_or_not : (o : Option GridEntry) (found : Bool) → SwapsGrid o s name t was is found
      → OnFound o (if found then done else no_grid) ((t ≡ s) × (Some is ≡ Some was))
      (λ e. ((if found then done else no_grid) ≡ done) × PutsGrid s name (record e { grid = was }) t × (Some is ≡ Some e.grid))
  found_or_not None found h = (rw h.0 refl, (h.1, ap Some h.2))
  found_or_not (Some e) found h = (rw h.0 refl, h.1, ap Some h.2)

  -- the code says whether it has one
  swapped : (found : Bool) → is_name name ≡ true → SwapsGrid (lookup (is_named name) s.grids.entries) s name t was is found
      → IsSwapped name s t (Some was) (Some is) (if found then done else no_grid)
  unfolding IsSwapped
  swapped found valid h = inl (valid, found_or_not (lookup (is_named name) s.grids.entries) found h)

pub returns-then-found : goal.returns-then-found
returns-then-found c = rw (sym c.in-Some.ensures.value, c.put-2.ensures) (swapped _ _ c.args.name.now _ _ true c.in-Some-new.ensures.valid (rw (sym c.if-found.true, sym c.in-Some-new.ensures.some, sym c.deref_mut.ensures.value) c.swap-found.ensures))

pub returns-else-found : goal.returns-else-found
returns-else-found c = rw (sym c.in-Some.ensures.value, c.put-2.ensures) (swapped _ _ c.args.name.now _ _ false c.in-Some-new.ensures.valid (rw (sym c.if-found.false, sym c.in-Some-new.ensures.some, sym c.deref_mut.ensures.value) c.swap-found.ensures))
