use Rattle.vdb_c.proofs.Common.{ap, false, refl, vdb, Field}
use Rattle.vdb_composite.proofs.MixWalks.{passed_end, passed_next, passed_start}
use Rattle.vdb_composite.proofs.TreeSizes.{tree_small}
use Rattle.vdb_tree.proofs.Blocks.{never}
use Rattle.vdb_tree.proofs.Sizes.{internal_small, leaf_small}
use Rattle.vdb_tree.proofs.Uniform.{exact_by}
use Rattle.vdb_c.proofs.EqualCells.{IsSameAt, background_same, backgrounds_differ, backgrounds_same, fields_same, refuted}
use Rattle.vdb_c.proofs.grids.equality.are_equal_trees.Goals as goal

pub returns-then-ne : goal.returns-then-ne
returns-then-ne g c =
    refuted false refl (backgrounds_differ c.args.tree.now c.args.other.now g.V.PartialEq.eq g.met.V.Eq.laws.refl c.background.result c.background-2.result c.background.ensures c.background-2.ensures c.ne.result c.ne.ensures c.if-ne.true)

pub pairs-walk-requires : goal.pairs-walk-requires
pairs-walk-requires g c =
    let small = g.met.V.Voxel.small in
    let upper = g.met.V.Stored-1.row_small in
    let lower = g.met.V.Stored-2.row_small in
    let leaf = g.met.V.Stored-3.row_small in (
      tree_small _ _ _ small.1 small.1 small.0,
      (
        internal_small _ _ 512 _ c.mask_words.ensures.upper upper.1 upper.1 upper.0,
        (internal_small _ _ 64 _ c.mask_words.ensures.lower lower.1 lower.1 lower.0, leaf_small _ _ 8 _ c.mask_words.ensures.leaf leaf.1 leaf.1 leaf.0),
      ),
    )

pub pairs-init : goal.pairs-init
pairs-init g c =
    let t = c.args.tree.now in
    let u = c.args.other.now in
    let exact = exact_by g.V.PartialEq.eq g.V.Ord.cmp g.met.V.Ord.matches_eq g.met.V.Voxel.exact in
    let background = backgrounds_same t u g.V.PartialEq.eq exact c.background.result c.background-2.result c.background.ensures c.background-2.ensures c.ne.result c.ne.ensures c.if-ne.false in
    record { walk = c.pairs-walk.ensures.walk; passed = passed_start vdb t u (IsSameAt t u) (background_same t u background) c.pairs-walk.result.at c.pairs-walk.ensures.at }

pub returns-then-not-are_equal_in : goal.returns-then-not-are_equal_in
returns-then-not-are_equal_in g c =
    refuted false refl (λ same. never c.if-not-are_equal_in.true (c.are_equal_in.ensures.1 (λ q i. ap (λ (f : Field g.row.V.Denot). f.cell q) same)))

pub pairs-preserved : goal.pairs-preserved
pairs-preserved g c =
    let t = c.args.tree.now in
    let u = c.args.other.now in
    let exact = exact_by g.V.PartialEq.eq g.V.Ord.cmp g.met.V.Ord.matches_eq g.met.V.Voxel.exact in
    let background = backgrounds_same t u g.V.PartialEq.eq exact c.background.result c.background-2.result c.background.ensures c.background-2.ensures c.ne.result c.ne.ensures c.if-ne.false in
    record {
      walk = c.in-Some.ensures.walk;
      passed = passed_next vdb t u (IsSameAt t u) (background_same t u background) c.pairs.walk c.next_pair.new.walk c.in-Some.pair.bounds c.in-Some.ensures.block c.pairs.invariant.passed (c.are_equal_in.ensures.0 c.if-not-are_equal_in.false);
    }

pub returns : goal.returns
returns g c =
    let t = c.args.tree.now in
    let u = c.args.other.now in
    let exact = exact_by g.V.PartialEq.eq g.V.Ord.cmp g.met.V.Ord.matches_eq g.met.V.Voxel.exact in
    let background = backgrounds_same t u g.V.PartialEq.eq exact c.background.result c.background-2.result c.background.ensures c.background-2.ensures c.ne.result c.ne.ensures c.if-ne.false in
    (λ _. fields_same t u background (passed_end vdb t u (IsSameAt t u) (background_same t u background) c.pairs.walk c.next_pair.new.walk c.in_default.ensures.end c.in_default.ensures.none_left c.pairs.invariant.passed), λ _. refl)
