use Rattle.vdb_scene.proofs.Common.{◌∙◌, sym, grid_of}
use Rattle.vdb_scene.proofs.Entries.{keys-over}
use Rattle.vdb_scene.proofs.scene.Scene.names.Goals as goal

pub returns-clause-names : goal.returns-clause-names
returns-clause-names c = c.keys.ensures.rest ∙ sym (keys-over grid_of c.args.self.now.grids.entries)
