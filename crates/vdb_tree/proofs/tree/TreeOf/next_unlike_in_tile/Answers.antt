use Rattle.vdb_tree.proofs.Common.{rules, fits_everywhere, bits_of}
use Rattle.vdb_tree.proofs.BlockTests.{tile_test}
use Rattle.vdb_tree.proofs.Uniform.{exact_by}
use Rattle.vdb_tree.proofs.UnlikeEntries.{unlike_in_tile}
use Rattle.vdb_tree.proofs.tree.TreeOf.next_unlike_in_tile.Goals as goal

pub returns-then-eq : goal.returns-then-eq
returns-then-eq g c =
    let exact = exact_by g.V.PartialEq.eq g.V.Ord.cmp g.met.V.Ord.matches_eq g.met.V.Voxel.exact in
    let bits = bits_of g.row.U g.row.L g.row.F in
    let t = c.args.self.now in
    let inside = fits_everywhere c.args.p (search rules) (search rules) (search rules) in
    let test = tile_test g.V.PartialEq.eq exact g.met.V.Eq.laws.refl bits t c.args.level c.args.p c.args.tile c.args.cell c.eq.result c.requires.tile c.eq.ensures in
    unlike_in_tile bits c.self.invariant.0.bits c.args.level t c.args.p inside c.args.cell c.args.from (test.0 c.if-eq.true)
