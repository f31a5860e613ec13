use Rattle.vdb_scene.proofs.Common.{◌∙◌, ap, sym, nat_cmp, slice_cmp, grid_of}
use Rattle.vdb_scene.proofs.Entries.{insert_entry-over, over}
use Rattle.vdb_scene.proofs.scene.Scene.put.Goals as goal

pub returns-in-Ok-clause-ok : goal.returns-in-Ok-clause-ok
returns-in-Ok-clause-ok c = ap (over grid_of) c.in-Ok.ensures.entries ∙ sym (insert_entry-over grid_of (slice_cmp nat_cmp) c.args.self.now.grids.entries c.args.name c.args.entry)
