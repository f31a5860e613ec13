use Rattle.vdb_scene.proofs.Common.{◌≡◌, ◌∙◌, ap, refl, sym, false, true, rules, None, Some, Option, is_none, grid_of, is_named}
use Rattle.vdb_scene.specs.Replies as replies
use Rattle.vdb_scene.proofs.Entries.{over, remove_entry-over}
use Rattle.vdb_scene.proofs.Borrowed.{absent_is, missing}
use Rattle.vdb_scene.proofs.scene.Scene.take.Goals as goal

none_from : {A : Type 0} (o : Option A) → is_none o ≡ true → o ≡ None
none_from None h = refl
none_from (Some a) h = cc

pub returns-then-is_none-clause-step : goal.returns-then-is_none-clause-step
returns-then-is_none-clause-step c =
    let grids = c.args.self.now.grids.entries in
    let none : c.remove.result ≡ None = none_from c.remove.result (search rules) in
    (rw (missing grids c.args.name.now (sym c.remove.ensures.value ∙ none)) refl, ap (over grid_of) (rw none at c.remove.ensures.unchanged))

pub returns-clause-step : goal.returns-clause-step
returns-clause-step c =
    let grids = c.args.self.now.grids.entries in
    let name = c.args.name.now in
    let some : is_none c.remove.result ≡ false = search rules in (
      rw (absent_is grids name ∙ ap is_none (sym c.remove.ensures.value) ∙ some) refl,
      (replies.Done, refl, refl),
      ap (over grid_of) c.remove.ensures.entries ∙ sym (remove_entry-over grid_of (is_named name) grids),
    )

pub returns-then-is_none-clause-trees : goal.returns-then-is_none-clause-trees
returns-then-is_none-clause-trees c =
    let none : c.remove.result ≡ None = none_from c.remove.result (search rules) in
    rw none at c.remove.ensures.unchanged

pub returns-clause-trees : goal.returns-clause-trees
returns-clause-trees c = c.remove.ensures.entries
