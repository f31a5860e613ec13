use Rattle.vdb_scene.proofs.Common.{sym, ◌∙◌, unwrap_or, everywhere}
use Rattle.vdb_scene.proofs.Reports.{made_count}
use Rattle.vdb_scene.proofs.grid_tree.count.Goals as goal

pub returns : goal.returns
returns g c = c.count.ensures.value ∙ sym (made_count g.V.GridValue.as_scalar c.args.tree.now (unwrap_or c.args.bounds everywhere))
