use Rattle.vdb_scene.proofs.Common.{◌≡◌, ◌∙◌, ap, sym, refl, is_some, Option, Some, None, option_map, grid_of, is_named}
use Rattle.vdb_scene.proofs.Entries.{lookup-over}
use Rattle.vdb_scene.proofs.scene.Scene.has.Goals as goal

some_map : {X Y : Type 0} (f : X → Y) (o : Option X) → is_some o ≡ is_some (option_map f o)
some_map f None = refl
some_map f (Some x) = refl

pub returns : goal.returns
returns c =
    c.contains_key.ensures ∙ some_map grid_of _ ∙ ap is_some (sym (lookup-over grid_of (is_named c.args.name.now) c.args.self.now.grids.entries))
