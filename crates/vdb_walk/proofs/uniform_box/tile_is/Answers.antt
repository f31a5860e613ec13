use Rattle.vdb_walk.proofs.Common.{both, min_inside, Field, bits_of, field_of, exact_by}
use Rattle.vdb_walk.proofs.PartCells.{tile_uniform}
use Rattle.vdb_walk.proofs.uniform_box.tile_is.Goals as goal

pub returns : goal.returns
returns g c =
    let exact = exact_by g.V.PartialEq.eq g.V.Ord.cmp g.met.V.Ord.matches_eq g.met.V.Voxel.exact in
    let f : Field g.row.V.Denot = field_of (bits_of g.row.U g.row.L g.row.F) c.args.tree.now in
    tile_uniform g.V.PartialEq.eq exact g.met.V.Eq.laws.refl f c.args.part c.args.cell c.args.part.min (min_inside c.args.part (both _ _ c.min.ensures.bounds).0) c.args.tile c.requires c.eq.result c.eq.ensures
