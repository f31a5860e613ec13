use Rattle.vdb_composite.proofs.Common.{rules, IsSome, vdb, Coord, Field, field_of, blended, mixed_cell, internal_small, leaf_small}
use Rattle.vdb_composite.proofs.Mixed.{flat_some}
use Rattle.vdb_composite.proofs.MixWalks.{passed_end, passed_next, passed_start}
use Rattle.vdb_composite.proofs.TreeSizes.{tree_small}
use Rattle.vdb_composite.proofs.search.lacks.Goals as goal

pub pairs-walk-requires : goal.pairs-walk-requires
pairs-walk-requires g c =
    let small = g.met.V.Voxel.small in
    let upper = g.met.V.Stored-1.row_small in
    let lower = g.met.V.Stored-2.row_small in
    let leaf = g.met.V.Stored-3.row_small in (
      tree_small _ _ _ small.1 small.1 small.0,
      (
        internal_small _ _ 512 _ c.mask_words.ensures.upper upper.1 upper.1 upper.0,
        (internal_small _ _ 64 _ c.mask_words.ensures.lower lower.1 lower.1 lower.0, leaf_small _ _ 8 _ c.mask_words.ensures.leaf leaf.1 leaf.1 leaf.0),
      ),
    )

pub pairs-init : goal.pairs-init
pairs-init g c =
    let f : Field g.row.V.Denot = field_of vdb c.args.tree.now in
    let h : Field g.row.V.Denot = field_of vdb c.args.other.now in
    let P : Coord → Type 0 = λ q. IsSome (mixed_cell (blended g.V.Voxel.greater g.V.Voxel.lesser g.V.Voxel.sum_of) c.args.mix (f.cell q) (h.cell q)) in
    record { walk = c.pairs-walk.ensures.walk; passed = passed_start vdb c.args.tree.now c.args.other.now P (λ q i both. flat_some (blended g.V.Voxel.greater g.V.Voxel.lesser g.V.Voxel.sum_of) c.args.mix f.background h.background c.requires.background (f.cell q) (h.cell q) both.0 both.1) c.pairs-walk.result.at c.pairs-walk.ensures.at }

pub returns-then-pair_meets-clause-found : goal.returns-then-pair_meets-clause-found
returns-then-pair_meets-clause-found g c = λ _.
    let found = c.pair_meets.ensures.met c.if-pair_meets.true in
    (found.0, c.in-Some.ensures.block.inside found.0 found.1, found.2)

pub pairs-preserved : goal.pairs-preserved
pairs-preserved g c =
    let f : Field g.row.V.Denot = field_of vdb c.args.tree.now in
    let h : Field g.row.V.Denot = field_of vdb c.args.other.now in
    let P : Coord → Type 0 = λ q. IsSome (mixed_cell (blended g.V.Voxel.greater g.V.Voxel.lesser g.V.Voxel.sum_of) c.args.mix (f.cell q) (h.cell q)) in
    record {
      walk = c.next_pair.ensures.walk;
      passed = passed_next vdb c.args.tree.now c.args.other.now P (λ q i both. flat_some (blended g.V.Voxel.greater g.V.Voxel.lesser g.V.Voxel.sum_of) c.args.mix f.background h.background c.requires.background (f.cell q) (h.cell q) both.0 both.1) c.pairs.walk c.next_pair.new.walk c.in-Some.pair.bounds c.in-Some.ensures.block c.pairs.invariant.passed (c.pair_meets.ensures.missed c.if-pair_meets.false);
    }

pub returns-clause-none : goal.returns-clause-none
returns-clause-none g c = λ _.
    let f : Field g.row.V.Denot = field_of vdb c.args.tree.now in
    let h : Field g.row.V.Denot = field_of vdb c.args.other.now in
    let P : Coord → Type 0 = λ q. IsSome (mixed_cell (blended g.V.Voxel.greater g.V.Voxel.lesser g.V.Voxel.sum_of) c.args.mix (f.cell q) (h.cell q)) in
    passed_end vdb c.args.tree.now c.args.other.now P (λ q i both. flat_some (blended g.V.Voxel.greater g.V.Voxel.lesser g.V.Voxel.sum_of) c.args.mix f.background h.background c.requires.background (f.cell q) (h.cell q) both.0 both.1) c.pairs.walk c.next_pair.new.walk c.in_default.ensures.end c.in_default.ensures.none_left c.pairs.invariant.passed
