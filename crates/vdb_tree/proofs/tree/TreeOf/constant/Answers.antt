use Rattle.vdb_tree.proofs.Common.{rules, fits_everywhere, bits_of}
use Rattle.vdb_tree.proofs.Uniform.{exact_by}
use Rattle.vdb_tree.proofs.UnlikeEntries.{one_constant, one_non_constant, one_none, one_some}
use Rattle.vdb_tree.proofs.tree.TreeOf.constant.Goals as goal

pub returns-then-block_is-clause-cell : goal.returns-then-block_is-clause-cell
returns-then-block_is-clause-cell g c =
    let bits = bits_of g.row.U g.row.L g.row.F in
    let inside = fits_everywhere c.args.p (search rules) (search rules) (search rules) in
    one_some bits c.self.invariant.0.bits c.args.level c.args.self.now c.args.p inside c.cell-cell.result c.cell-cell.ensures.cell c.block_is.result c.block_is.ensures c.if-block_is.true

pub returns-then-block_is-clause-test : goal.returns-then-block_is-clause-test
returns-then-block_is-clause-test g c =
    let exact = exact_by g.V.PartialEq.eq g.V.Ord.cmp g.met.V.Ord.matches_eq g.met.V.Voxel.exact in
    let bits = bits_of g.row.U g.row.L g.row.F in
    let inside = fits_everywhere c.args.p (search rules) (search rules) (search rules) in
    one_constant bits c.self.invariant.0.bits c.args.level c.args.self.now c.args.p inside c.cell-cell.result c.cell-cell.ensures.cell c.block_is.result c.block_is.ensures g.V.PartialEq.eq exact g.met.V.Eq.laws.refl c.if-block_is.true

pub returns-else-block_is-clause-cell : goal.returns-else-block_is-clause-cell
returns-else-block_is-clause-cell g c =
    let bits = bits_of g.row.U g.row.L g.row.F in
    let inside = fits_everywhere c.args.p (search rules) (search rules) (search rules) in
    one_none bits c.self.invariant.0.bits c.args.level c.args.self.now c.args.p inside c.cell-cell.result c.cell-cell.ensures.cell c.block_is.result c.block_is.ensures c.if-block_is.false

pub returns-else-block_is-clause-test : goal.returns-else-block_is-clause-test
returns-else-block_is-clause-test g c =
    let exact = exact_by g.V.PartialEq.eq g.V.Ord.cmp g.met.V.Ord.matches_eq g.met.V.Voxel.exact in
    let bits = bits_of g.row.U g.row.L g.row.F in
    let inside = fits_everywhere c.args.p (search rules) (search rules) (search rules) in
    one_non_constant bits c.self.invariant.0.bits c.args.level c.args.self.now c.args.p inside c.cell-cell.result c.cell-cell.ensures.cell c.block_is.result c.block_is.ensures g.V.PartialEq.eq exact g.met.V.Eq.laws.refl c.if-block_is.false
