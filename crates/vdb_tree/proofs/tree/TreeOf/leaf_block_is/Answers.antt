use Rattle.vdb_tree.proofs.Common.{Leaf, bits_of}
use Rattle.vdb_tree.proofs.BlockTests.{tile_test}
use Rattle.vdb_tree.proofs.Uniform.{exact_by}
use Rattle.vdb_tree.proofs.tree.TreeOf.leaf_block_is.Goals as goal

pub returns-in-Tile : goal.returns-in-Tile
returns-in-Tile g c =
    let exact = exact_by g.V.PartialEq.eq g.V.Ord.cmp g.met.V.Ord.matches_eq g.met.V.Voxel.exact in
    tile_test g.V.PartialEq.eq exact g.met.V.Eq.laws.refl (bits_of g.row.U g.row.L g.row.F) c.args.self.now Leaf c.args.p c.in-Tile.tile c.args.cell c.eq.result c.in-Tile.ensures.value c.eq.ensures
