use Rattle.vdb_tree.proofs.Common.{rules, fits_everywhere, bits_of}
use Rattle.vdb_tree.proofs.Blocks.{uniform_test}
use Rattle.vdb_tree.proofs.Uniform.{exact_by}
use Rattle.vdb_tree.proofs.tree.TreeOf.is_block_of.Goals as goal

pub returns : goal.returns
returns g c =
    let exact = exact_by g.V.PartialEq.eq g.V.Ord.cmp g.met.V.Ord.matches_eq g.met.V.Voxel.exact in
    let inside = fits_everywhere c.args.p (search rules) (search rules) (search rules) in
    uniform_test g.V.PartialEq.eq exact g.met.V.Eq.laws.refl (bits_of g.row.U g.row.L g.row.F) c.self.invariant.0.bits c.args.level c.args.self.now c.args.p inside c.args.cell c.block_is.result c.block_is.ensures
