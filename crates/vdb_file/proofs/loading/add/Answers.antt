-- A scene whose grids' accessors were never used, with a further grid.
use Rattle.vdb_file.proofs.Common.{ℕ, List, sym, subst, nat_cmp, slice_cmp, HaveUnusedAccessors}
use Rattle.std.specs.List.{All}
use Rattle.std.specs.Map.{values_of}
use Rattle.std.proofs.lemmas.Map.Views.{All-values-insert_entry}
use Rattle.vdb_scene.specs.Doing.{AddsGrid}
use Rattle.vdb_scene.specs.declared.grid_entry.GridEntry.{GridEntry}
use Rattle.vdb_scene.specs.declared.scene.Scene.{Scene}
use Rattle.vdb_scene.specs.Accessors.{HasUnusedAccessors}
use Rattle.vdb_file.proofs.loading.add.Goals as goal

abbrev IsUnused : GridEntry → Type 0
IsUnused e = HasUnusedAccessors e.grid

-- a scene with a further grid
one_more_unused : (old new : Scene) (name : List ℕ) (e : GridEntry) → AddsGrid old name e new → IsUnused e → HaveUnusedAccessors old → HaveUnusedAccessors new
one_more_unused old new name e adds unused all =
    subst (λ (es : List (List ℕ × GridEntry)). All IsUnused (values_of es)) (sym adds) (All-values-insert_entry (slice_cmp nat_cmp) name e IsUnused old.grids.entries all unused)

pub returns-in-Ok-clause-unused : goal.returns-in-Ok-clause-unused
returns-in-Ok-clause-unused c = one_more_unused c.args.scene.now c.insert_with.new.self c.args.named.name (record { grid = c.args.named.grid; metas = c.args.named.metas }) c.in-Ok.ensures.added
