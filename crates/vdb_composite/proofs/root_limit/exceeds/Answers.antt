use Rattle.vdb_composite.proofs.Common.{◌≡◌, ◌+◌, ◌≤◌, ◌<◌, ◌∙◌, ap, arith, sym, subst, rules, Some, key, vdb, Bits, Coord, Field, field_of, blended, mixed, exact_by, internal_small, leaf_small}
use Rattle.vdb_composite.proofs.MixLeaves.{bounds_corner}
use Rattle.vdb_composite.proofs.MixRoots.{HasFound, found_again, found_all, found_flat, found_many, found_more, found_start}
use Rattle.vdb_composite.proofs.Mixed.{mixed_flat, mixed_off, mixed_unlike}
use Rattle.vdb_composite.proofs.TreeSizes.{tree_small}
use Rattle.vdb_composite.proofs.root_limit.exceeds.Goals as goal

pub pairs-walk-requires : goal.pairs-walk-requires
pairs-walk-requires g c =
    let small = g.met.V.Voxel.small in
    let upper = g.met.V.Stored-1.row_small in
    let lower = g.met.V.Stored-2.row_small in
    let leaf = g.met.V.Stored-3.row_small in (
      tree_small _ _ _ small.1 small.1 small.0,
      (
        internal_small _ _ 512 _ c.mask_words.ensures.upper upper.1 upper.1 upper.0,
        (internal_small _ _ 64 _ c.mask_words.ensures.lower lower.1 lower.1 lower.0, leaf_small _ _ 8 _ c.mask_words.ensures.leaf leaf.1 leaf.1 leaf.0),
      ),
    )

pub pairs-init : goal.pairs-init
pairs-init g c =
    let exact = exact_by g.V.PartialEq.eq g.V.Ord.cmp g.met.V.Ord.matches_eq g.met.V.Voxel.exact in
    let itself = g.met.V.Eq.laws.refl in
    let f : Field g.row.V.Denot = field_of vdb c.args.tree.now in
    let h : Field g.row.V.Denot = field_of vdb c.args.other.now in
    let configured = rw c.bits-bits.ensures.value at c.bits-bits.ensures.configured in
    let m : Field g.row.V.Denot = mixed (blended g.V.Voxel.greater g.V.Voxel.lesser g.V.Voxel.sum_of) c.args.mix f h in
    record {
      walk = c.pairs-walk.ensures.walk;
      few = omega arith;
      found = found_start g.V.PartialEq.eq exact itself vdb configured c.args.tree.now c.args.other.now m c.pairs-walk.result.at c.pairs-walk.ensures.at;
    }

pub pairs-preserved-then-not-is_other : goal.pairs-preserved-then-not-is_other
pairs-preserved-then-not-is_other g c =
    let exact = exact_by g.V.PartialEq.eq g.V.Ord.cmp g.met.V.Ord.matches_eq g.met.V.Voxel.exact in
    let itself = g.met.V.Eq.laws.refl in
    let f : Field g.row.V.Denot = field_of vdb c.args.tree.now in
    let h : Field g.row.V.Denot = field_of vdb c.args.other.now in
    let configured = rw c.bits-bits.ensures.value at c.bits-bits.ensures.configured in
    let m : Field g.row.V.Denot = mixed (blended g.V.Voxel.greater g.V.Voxel.lesser g.V.Voxel.sum_of) c.args.mix f h in
    let here : c.key_in-key.result ≡ key vdb c.in-Some.pair.bounds.min = c.key_in-key.ensures.key ∙ ap (λ (b : Bits). key b c.min.result) c.bits-bits.ensures.value ∙ ap (key vdb) c.min.ensures.corner in
    record {
      walk = c.next_pair.ensures.walk;
      few = c.pairs.invariant.few;
      found = found_again g.V.PartialEq.eq exact itself vdb configured c.args.tree.now c.args.other.now m (λ q inside both. mixed_off (blended g.V.Voxel.greater g.V.Voxel.lesser g.V.Voxel.sum_of) c.args.mix f h c.args.background c.requires.background c.requires.whole q inside both.0 both.1) c.pairs.walk c.next_pair.new.walk c.in-Some.pair.bounds c.in-Some.ensures.block (bounds_corner c.in-Some.pair.bounds c.min.ensures.bounds) c.in-Some.ensures.root c.pairs.last c.pairs.count c.pairs.invariant.found (c.is_other.ensures.same c.if-not-is_other.true ∙ ap (λ (k : Coord). Some k) here);
    }

pub pairs-preserved-then-not-pair_meets : goal.pairs-preserved-then-not-pair_meets
pairs-preserved-then-not-pair_meets g c =
    let exact = exact_by g.V.PartialEq.eq g.V.Ord.cmp g.met.V.Ord.matches_eq g.met.V.Voxel.exact in
    let itself = g.met.V.Eq.laws.refl in
    let f : Field g.row.V.Denot = field_of vdb c.args.tree.now in
    let h : Field g.row.V.Denot = field_of vdb c.args.other.now in
    let configured = rw c.bits-bits.ensures.value at c.bits-bits.ensures.configured in
    let m : Field g.row.V.Denot = mixed (blended g.V.Voxel.greater g.V.Voxel.lesser g.V.Voxel.sum_of) c.args.mix f h in
    record {
      walk = c.next_pair.ensures.walk;
      few = c.pairs.invariant.few;
      found = found_flat g.V.PartialEq.eq exact itself vdb configured c.args.tree.now c.args.other.now m (λ q inside both. mixed_off (blended g.V.Voxel.greater g.V.Voxel.lesser g.V.Voxel.sum_of) c.args.mix f h c.args.background c.requires.background c.requires.whole q inside both.0 both.1) c.pairs.walk c.next_pair.new.walk c.in-Some.pair.bounds c.in-Some.ensures.block (bounds_corner c.in-Some.pair.bounds c.min.ensures.bounds) c.in-Some.ensures.root c.pairs.last c.pairs.count c.pairs.invariant.found
          (λ q i. mixed_flat (blended g.V.Voxel.greater g.V.Voxel.lesser g.V.Voxel.sum_of) c.args.mix f h c.args.background c.requires.background c.requires.whole q (c.in-Some.ensures.block.inside q i) (c.pair_meets.ensures.missed c.if-not-pair_meets.true q i));
    }

pub pairs-preserved : goal.pairs-preserved
pairs-preserved g c =
    let exact = exact_by g.V.PartialEq.eq g.V.Ord.cmp g.met.V.Ord.matches_eq g.met.V.Voxel.exact in
    let itself = g.met.V.Eq.laws.refl in
    let f : Field g.row.V.Denot = field_of vdb c.args.tree.now in
    let h : Field g.row.V.Denot = field_of vdb c.args.other.now in
    let configured = rw c.bits-bits.ensures.value at c.bits-bits.ensures.configured in
    let m : Field g.row.V.Denot = mixed (blended g.V.Voxel.greater g.V.Voxel.lesser g.V.Voxel.sum_of) c.args.mix f h in
    let here : c.key_in-key.result ≡ key vdb c.in-Some.pair.bounds.min = c.key_in-key.ensures.key ∙ ap (λ (b : Bits). key b c.min.result) c.bits-bits.ensures.value ∙ ap (key vdb) c.min.ensures.corner in
    let met = c.pair_meets.ensures.met c.if-not-pair_meets.false in
    let unlike = mixed_unlike (blended g.V.Voxel.greater g.V.Voxel.lesser g.V.Voxel.sum_of) c.args.mix f h c.args.background c.requires.background c.requires.whole met.0 (c.in-Some.ensures.block.inside met.0 met.1) met.2 in
    let more = found_more g.V.PartialEq.eq exact itself vdb configured c.args.tree.now c.args.other.now m (λ q inside both. mixed_off (blended g.V.Voxel.greater g.V.Voxel.lesser g.V.Voxel.sum_of) c.args.mix f h c.args.background c.requires.background c.requires.whole q inside both.0 both.1) c.pairs.walk c.next_pair.new.walk c.in-Some.pair.bounds c.in-Some.ensures.block (bounds_corner c.in-Some.pair.bounds c.min.ensures.bounds) c.in-Some.ensures.root c.pairs.last c.pairs.count c.pairs.invariant.found (λ e. c.is_other.ensures.other c.if-not-is_other.false (e ∙ ap (λ (k : Coord). Some k) (sym here))) met.0 met.1 unlike in
    record {
      walk = c.next_pair.ensures.walk;
      few = let limit = c.limit-limit.ensures.value in let less : c.pairs.count < c.limit-limit.result = c.if-count-limit.false in omega (arith, limit, less);
      found = subst (λ (k : Coord). HasFound g.V.PartialEq.eq vdb c.args.tree.now c.args.other.now m c.next_pair.new.walk.at (Some k) (c.pairs.count + 1)) (sym here) more;
    }

pub returns-then-count-limit-clause-more : goal.returns-then-count-limit-clause-more
returns-then-count-limit-clause-more g c = λ _.
    let exact = exact_by g.V.PartialEq.eq g.V.Ord.cmp g.met.V.Ord.matches_eq g.met.V.Voxel.exact in
    let itself = g.met.V.Eq.laws.refl in
    let f : Field g.row.V.Denot = field_of vdb c.args.tree.now in
    let h : Field g.row.V.Denot = field_of vdb c.args.other.now in
    let configured = rw c.bits-bits.ensures.value at c.bits-bits.ensures.configured in
    let m : Field g.row.V.Denot = mixed (blended g.V.Voxel.greater g.V.Voxel.lesser g.V.Voxel.sum_of) c.args.mix f h in
    let here : c.key_in-key.result ≡ key vdb c.in-Some.pair.bounds.min = c.key_in-key.ensures.key ∙ ap (λ (b : Bits). key b c.min.result) c.bits-bits.ensures.value ∙ ap (key vdb) c.min.ensures.corner in
    let met = c.pair_meets.ensures.met c.if-not-pair_meets.false in
    let unlike = mixed_unlike (blended g.V.Voxel.greater g.V.Voxel.lesser g.V.Voxel.sum_of) c.args.mix f h c.args.background c.requires.background c.requires.whole met.0 (c.in-Some.ensures.block.inside met.0 met.1) met.2 in
    let many = found_many g.V.PartialEq.eq exact itself vdb configured c.args.tree.now c.args.other.now m (λ q inside both. mixed_off (blended g.V.Voxel.greater g.V.Voxel.lesser g.V.Voxel.sum_of) c.args.mix f h c.args.background c.requires.background c.requires.whole q inside both.0 both.1) c.pairs.walk c.next_pair.new.walk c.in-Some.pair.bounds c.in-Some.ensures.block (bounds_corner c.in-Some.pair.bounds c.min.ensures.bounds) c.in-Some.ensures.root c.pairs.last c.pairs.count c.pairs.invariant.found (λ e. c.is_other.ensures.other c.if-not-is_other.false (e ∙ ap (λ (k : Coord). Some k) (sym here))) met.0 met.1 unlike in
    let limit = c.limit-limit.ensures.value in
    let full : c.limit-limit.result ≤ c.pairs.count = c.if-count-limit.true in
    omega (arith, many, limit, full)

pub returns-clause-few : goal.returns-clause-few
returns-clause-few g c = λ _.
    let exact = exact_by g.V.PartialEq.eq g.V.Ord.cmp g.met.V.Ord.matches_eq g.met.V.Voxel.exact in
    let itself = g.met.V.Eq.laws.refl in
    let f : Field g.row.V.Denot = field_of vdb c.args.tree.now in
    let h : Field g.row.V.Denot = field_of vdb c.args.other.now in
    let configured = rw c.bits-bits.ensures.value at c.bits-bits.ensures.configured in
    let m : Field g.row.V.Denot = mixed (blended g.V.Voxel.greater g.V.Voxel.lesser g.V.Voxel.sum_of) c.args.mix f h in
    let most = found_all g.V.PartialEq.eq exact itself vdb configured c.args.tree.now c.args.other.now m (λ q inside both. mixed_off (blended g.V.Voxel.greater g.V.Voxel.lesser g.V.Voxel.sum_of) c.args.mix f h c.args.background c.requires.background c.requires.whole q inside both.0 both.1) c.pairs.walk c.next_pair.new.walk c.pairs.last c.pairs.count c.pairs.invariant.found c.in_default.ensures.end c.in_default.ensures.none_left in
    let few = c.pairs.invariant.few in
    omega (arith, most, few)
