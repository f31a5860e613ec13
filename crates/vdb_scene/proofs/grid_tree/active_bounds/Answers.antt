use Rattle.vdb_scene.proofs.Reports.{made_bounds}
use Rattle.vdb_scene.proofs.grid_tree.active_bounds.Goals as goal

pub returns : goal.returns
returns g c = made_bounds g.V.GridValue.as_scalar c.args.tree.now c.active_bounds.result c.active_bounds.ensures
