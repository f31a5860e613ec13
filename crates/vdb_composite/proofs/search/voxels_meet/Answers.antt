use Rattle.vdb_composite.proofs.Common.{◌≡◌, ◌<◌, ◌≤◌, ◌∙◌, ℕ, ap, subst, entries, vdb, Bits, Leaf, Field, field_of, blended}
use Rattle.vdb_composite.proofs.MixSearch.{meets_here, misses_all, misses_next, misses_none}
use Rattle.vdb_composite.proofs.search.voxels_meet.Goals as goal

pub loop-index-init : goal.loop-index-init
loop-index-init g c =
    let f : Field g.row.V.Denot = field_of vdb c.args.tree.now in
    let h : Field g.row.V.Denot = field_of vdb c.args.other.now in
    misses_none (blended g.V.Voxel.greater g.V.Voxel.lesser g.V.Voxel.sum_of) vdb c.args.bounds c.args.mix c.args.sought f h

pub returns-then-is_met-clause-met : goal.returns-then-is_met-clause-met
returns-then-is_met-clause-met g c = λ _.
    let f : Field g.row.V.Denot = field_of vdb c.args.tree.now in
    let h : Field g.row.V.Denot = field_of vdb c.args.other.now in
    let end : c.entries-index-end.result ≡ entries vdb Leaf = c.entries-index-end.ensures ∙ ap (λ (b : Bits). entries b Leaf) c.bits.ensures.value in
    meets_here (blended g.V.Voxel.greater g.V.Voxel.lesser g.V.Voxel.sum_of) vdb c.args.bounds c.args.mix c.args.sought f h c.loop-index.index c.voxel-a.result c.voxel-b.result c.voxel-a.ensures c.voxel-b.ensures c.requires.block (subst (λ (n : ℕ). c.loop-index.index < n) end c.loop-index-test.true) (rw (← c.of.ensures) (c.is_met.ensures.met c.if-is_met.true))

pub loop-index-preserved : goal.loop-index-preserved
loop-index-preserved g c =
    let f : Field g.row.V.Denot = field_of vdb c.args.tree.now in
    let h : Field g.row.V.Denot = field_of vdb c.args.other.now in
    misses_next (blended g.V.Voxel.greater g.V.Voxel.lesser g.V.Voxel.sum_of) vdb c.args.bounds c.args.mix c.args.sought f h c.loop-index.index c.voxel-a.result c.voxel-b.result c.voxel-a.ensures c.voxel-b.ensures c.loop-index.invariant (rw (← c.of.ensures) (c.is_met.ensures.missed c.if-is_met.false))

pub returns-clause-missed : goal.returns-clause-missed
returns-clause-missed g c = λ _.
    let f : Field g.row.V.Denot = field_of vdb c.args.tree.now in
    let h : Field g.row.V.Denot = field_of vdb c.args.other.now in
    let end : c.entries-index-end.result ≡ entries vdb Leaf = c.entries-index-end.ensures ∙ ap (λ (b : Bits). entries b Leaf) c.bits.ensures.value in
    misses_all (blended g.V.Voxel.greater g.V.Voxel.lesser g.V.Voxel.sum_of) vdb c.args.bounds c.args.mix c.args.sought f h c.loop-index.index (subst (λ (n : ℕ). n ≤ c.loop-index.index) end c.loop-index-test.false) c.loop-index.invariant
