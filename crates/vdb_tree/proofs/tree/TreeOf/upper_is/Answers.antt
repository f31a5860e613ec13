use Rattle.vdb_tree.proofs.Common.{arith, refl, Upper, bits_of}
use Rattle.vdb_tree.proofs.BlockTests.{entry_differs, entry_test, none_below}
use Rattle.vdb_tree.proofs.Constants.{entries_few}
use Rattle.vdb_tree.proofs.UnlikeEntries.{below_all, below_next, index_after, index_fits, least, nearer}
use Rattle.vdb_tree.proofs.tree.TreeOf.upper_is.Goals as goal

pub loop-index-init : goal.loop-index-init
loop-index-init g c =
    record {
      below = none_below (bits_of g.row.U g.row.L g.row.F) c.args.self.now Upper c.args.p c.args.cell;
      within = least _;
    }

pub returns-then-not-lower_block_is : goal.returns-then-not-lower_block_is
returns-then-not-lower_block_is g c =
    let bits = bits_of g.row.U g.row.L g.row.F in
    entry_differs bits c.args.self.now Upper c.args.p c.args.cell c.in-Some.index c.lower_block_is.result c.if-not-lower_block_is.true
    (entry_test bits c.args.self.now Upper c.args.p c.args.cell c.in-Some.index c.lower_corner-corner.result c.lower_corner-corner.ensures.block c.lower_corner-corner.ensures.entry c.lower_block_is.result c.lower_block_is.ensures)

pub overflow_add-from : goal.overflow_add-from
overflow_add-from g c = let k = index_fits c.in-Some.index _ c.in-Some.ensures.within (entries_few (bits_of g.row.U g.row.L g.row.F) Upper c.self.invariant.0.bits) in omega (arith, k)

pub loop-index-preserved : goal.loop-index-preserved
loop-index-preserved g c =
    let bits = bits_of g.row.U g.row.L g.row.F in
    record {
      below =
          below_next bits c.args.self.now Upper c.args.p c.args.cell c.loop-index.from c.in-Some.index c.loop-index.invariant.below c.in-Some.ensures
          ((entry_test bits c.args.self.now Upper c.args.p c.args.cell c.in-Some.index c.lower_corner-corner.result c.lower_corner-corner.ensures.block c.lower_corner-corner.ensures.entry c.lower_block_is.result c.lower_block_is.ensures).0 c.if-not-lower_block_is.false);
      within = index_after c.in-Some.index _ c.in-Some.ensures.within;
    }

pub loop-index-smaller : goal.loop-index-smaller
loop-index-smaller g c = nearer c.loop-index.from c.in-Some.index _ c.in-Some.ensures.from_on c.in-Some.ensures.within

pub returns : goal.returns
returns g c = (
  (λ _. below_all (bits_of g.row.U g.row.L g.row.F) c.args.self.now Upper c.args.p c.args.cell c.loop-index.from c.loop-index.invariant.below c.in_default.ensures),
  (λ _. refl),
)
