use Rattle.vdb_scene.proofs.Common.{ap, ◌∙◌, vdb, Coord, active, grid_field, box_across}
use Rattle.vdb_scene.proofs.Listings.{across_box, both}
use Rattle.vdb_scene.proofs.voxels.Voxels.new.Goals as goal

pub returns-clause-voxels : goal.returns-clause-voxels
returns-clause-voxels c =
    ap (active vdb (grid_field c.args.grid.now)) (ap (λ (p : Coord). box_across p c.max.result) c.min.ensures.corner ∙ ap (λ (p : Coord). box_across c.args.bounds.min p) c.max.ensures.corner ∙ across_box c.args.bounds (both _ _ c.min.ensures.bounds).0)
