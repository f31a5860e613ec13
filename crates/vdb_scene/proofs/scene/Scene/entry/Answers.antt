use Rattle.vdb_scene.proofs.Common.{◌≡◌, ◌∙◌, ap, sym, refl, Option, Some, None, option_map, grid_of, GridEntry, is_named}
use Rattle.std.specs.Option.{option_copied}
use Rattle.std.specs.Borrow.{Bor}
use Rattle.vdb_scene.proofs.Entries.{lookup-over}
use Rattle.vdb_scene.proofs.scene.Scene.entry.Goals as goal

-- a borrowed entry as the abstract scene has it
lent : (o : Option (Bor GridEntry)) → option_map (λ entry. grid_of entry.now) o ≡ option_map grid_of (option_copied o)
lent None = refl
lent (Some e) = refl

pub returns-clause-field : goal.returns-clause-field
returns-clause-field c = lent c.get.result ∙ ap (option_map grid_of) c.get.ensures.value ∙ sym (lookup-over grid_of (is_named c.args.name.now) c.args.self.now.grids.entries)

-- the entry itself
itself : (o : Option (Bor GridEntry)) → option_map (λ entry. entry.now) o ≡ option_copied o
itself None = refl
itself (Some e) = refl

pub returns-clause-entry : goal.returns-clause-entry
returns-clause-entry c = itself c.get.result ∙ c.get.ensures.value
