use Rattle.vdb_scene.proofs.Common.{◌∙◌, ap, sym, grid_of, is_named}
use Rattle.vdb_scene.proofs.Entries.{over, remove_entry-over}
use Rattle.vdb_scene.proofs.scene.Scene.move_out.Goals as goal

pub returns-in-Some-clause-scene : goal.returns-in-Some-clause-scene
returns-in-Some-clause-scene c = ap (over grid_of) c.remove.ensures.entries ∙ sym (remove_entry-over grid_of (is_named c.args.name.now) c.args.self.now.grids.entries)

pub returns-in-None-clause-scene : goal.returns-in-None-clause-scene
returns-in-None-clause-scene c = ap (over grid_of) c.remove.ensures.entries ∙ sym (remove_entry-over grid_of (is_named c.args.name.now) c.args.self.now.grids.entries)
