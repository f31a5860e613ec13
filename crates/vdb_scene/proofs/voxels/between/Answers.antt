use Rattle.std.proofs.Common.{◌∙◌, sym}
use Rattle.vdb_scene.proofs.Listings.{made_box, none_some, some_exact}
use Rattle.vdb_scene.proofs.voxels.between.Goals as goal

pub unreachable-requires : goal.unreachable-requires
unreachable-requires c = none_some _ (sym c.in-None.is ∙ made_box c.args.corner c.args.opposite _ _ _ c.lesser.ensures c.greater.ensures c.new.ensures)

pub returns : goal.returns
returns c = some_exact _ _ (sym c.in-Some.is ∙ made_box c.args.corner c.args.opposite _ _ _ c.lesser.ensures c.greater.ensures c.new.ensures)
