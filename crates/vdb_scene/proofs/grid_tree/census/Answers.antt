use Rattle.vdb_scene.proofs.Common.{sym, ◌∙◌, scalar_eq}
use Rattle.vdb_scene.proofs.Reports.{made_census}
use Rattle.vdb_scene.proofs.grid_tree.census.Goals as goal

pub returns : goal.returns
returns g c = c.census.ensures ∙ sym (made_census g.V.GridValue.as_scalar c.args.tree.now g.V.PartialEq.eq scalar_eq g.met.V.GridValue.same_eq)
