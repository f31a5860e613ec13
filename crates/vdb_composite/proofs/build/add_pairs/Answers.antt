use Rattle.vdb_composite.proofs.Common.{rules, ◌∙◌, refl, vdb, Field, field_of, blended, internal_small, leaf_small}
use Rattle.vdb_composite.proofs.MixWalks.{built_end, built_next, built_start}
use Rattle.vdb_composite.proofs.TreeSizes.{tree_small}
use Rattle.vdb_composite.proofs.build.add_pairs.Goals as goal

pub pairs-walk-requires : goal.pairs-walk-requires
pairs-walk-requires g c =
    let small = g.met.V.Voxel.small in
    let upper = g.met.V.Stored-1.row_small in
    let lower = g.met.V.Stored-2.row_small in
    let leaf = g.met.V.Stored-3.row_small in (
      tree_small _ _ _ small.1 small.1 small.0,
      (
        internal_small _ _ 512 _ c.mask_words.ensures.upper upper.1 upper.1 upper.0,
        (internal_small _ _ 64 _ c.mask_words.ensures.lower lower.1 lower.1 lower.0, leaf_small _ _ 8 _ c.mask_words.ensures.leaf leaf.1 leaf.1 leaf.0),
      ),
    )

pub pairs-init : goal.pairs-init
pairs-init g c =
    let f : Field g.row.V.Denot = field_of vdb c.args.tree.now in
    let h : Field g.row.V.Denot = field_of vdb c.args.other.now in
    record {
      walk = c.pairs-walk.ensures.walk;
      limit = refl;
      built = built_start vdb c.args.tree.now c.args.other.now (blended g.V.Voxel.greater g.V.Voxel.lesser g.V.Voxel.sum_of) c.args.mix c.args.background (field_of vdb c.args.made.now) c.pairs-walk.result.at c.pairs-walk.ensures.at c.requires.empty;
    }

pub pairs-preserved : goal.pairs-preserved
pairs-preserved g c =
    let f : Field g.row.V.Denot = field_of vdb c.args.tree.now in
    let h : Field g.row.V.Denot = field_of vdb c.args.other.now in
    let had = c.pairs.invariant in
    record {
      walk = c.next_pair.ensures.walk;
      limit = c.add_pair.ensures.limit ∙ had.limit;
      built = built_next vdb c.args.tree.now c.args.other.now (blended g.V.Voxel.greater g.V.Voxel.lesser g.V.Voxel.sum_of) c.args.mix c.args.background c.requires.background c.pairs.walk c.next_pair.new.walk c.in-Some.pair.bounds c.in-Some.ensures.block
          (field_of vdb c.pairs.made) (field_of vdb c.add_pair.new.made) had.built (c.add_pair.ensures.adds c.if-not-add_pair.false);
    }

pub returns-clause-background : goal.returns-clause-background
returns-clause-background g c = λ _. c.pairs.invariant.built.background

pub returns-clause-cells : goal.returns-clause-cells
returns-clause-cells g c = λ _.
    let f : Field g.row.V.Denot = field_of vdb c.args.tree.now in
    let h : Field g.row.V.Denot = field_of vdb c.args.other.now in
    built_end vdb c.args.tree.now c.args.other.now (blended g.V.Voxel.greater g.V.Voxel.lesser g.V.Voxel.sum_of) c.args.mix c.args.background c.requires.background c.pairs.walk c.next_pair.new.walk (field_of vdb c.pairs.made) c.pairs.invariant.built c.in_default.ensures.end c.in_default.ensures.none_left
