use Rattle.vdb_tree.proofs.Common.{Lower, bits_of}
use Rattle.vdb_tree.proofs.BlockTests.{tile_test}
use Rattle.vdb_tree.proofs.Descents.{tile_upper}
use Rattle.vdb_tree.proofs.Uniform.{exact_by}
use Rattle.vdb_tree.proofs.tree.TreeOf.block_of_lower_is.Goals as goal

pub returns-in-Tile : goal.returns-in-Tile
returns-in-Tile g c =
    let exact = exact_by g.V.PartialEq.eq g.V.Ord.cmp g.met.V.Ord.matches_eq g.met.V.Voxel.exact in
    let bits = bits_of g.row.U g.row.L g.row.F in
    let t = c.args.self.now in
    tile_test g.V.PartialEq.eq exact g.met.V.Eq.laws.refl bits t Lower c.args.p c.in-Tile.tile c.args.cell c.eq.result (tile_upper bits t c.in-Tile.tile c.args.p c.in-Tile.ensures) c.eq.ensures
