use Rattle.vdb_tree.proofs.Common.{Leaf, bits_of}
use Rattle.vdb_tree.proofs.BlockTests.{none_test, one_test}
use Rattle.vdb_tree.proofs.Uniform.{exact_by}
use Rattle.vdb_tree.proofs.tree.TreeOf.leaf_is.Goals as goal

pub returns-in-Some : goal.returns-in-Some
returns-in-Some g c =
    let exact = exact_by g.V.PartialEq.eq g.V.Ord.cmp g.met.V.Ord.matches_eq g.met.V.Voxel.exact in
    one_test g.V.PartialEq.eq exact g.met.V.Eq.laws.refl (bits_of g.row.U g.row.L g.row.F) c.args.self.now Leaf c.args.p c.in-Some.one c.args.cell c.leaf_constant.result c.eq.result c.in-Some.is c.leaf_constant.ensures c.eq.ensures

pub returns-in-None : goal.returns-in-None
returns-in-None g c = none_test (bits_of g.row.U g.row.L g.row.F) c.args.self.now Leaf c.args.p c.args.cell c.leaf_constant.result c.in-None.is c.leaf_constant.ensures
