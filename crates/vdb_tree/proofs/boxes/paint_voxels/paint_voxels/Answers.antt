use Rattle.vdb_tree.proofs.Common.{◌≡◌, ◌∙◌, ◌<◌, ◌≤◌, ◌+◌, ℕ, SFits, ap, arith, rules, w32, entries, Leaf, both, entries_is, entry_count}
use Rattle.vdb_tree.proofs.PaintedVoxels.{voxels_all, voxels_next, voxels_none}
use Rattle.vdb_tree.proofs.Sizes.{leaf_small}
use Rattle.vdb_tree.proofs.VoxelRuns.{not_further, run_from}
use Rattle.vdb_tree.proofs.boxes.paint_voxels.paint_voxels.Goals as goal

in_order : (a b x y : ℕ) → a ≡ x → b ≡ y → x ≤ y → a ≤ b + 1
in_order a b x y e f h = omega (arith, e, f, h)

within : (a b m n : ℕ) → a ≡ b → b < m → m ≡ n → a + 1 ≤ n
within a b m n e h k = omega (arith, e, h, k)

pub loop-next-init : goal.loop-next-init
loop-next-init g c = rw c.min-p.ensures.corner (voxels_none c.args.bits c.args.part c.args.cell c.args.leaf.now (both _ _ c.min-p.ensures.bounds).0)

pub run_end-last-requires-clause-inside : goal.run_end-last-requires-clause-inside
run_end-last-requires-clause-inside g c = c.loop-next.invariant.inside

pub fill_run-requires : goal.fill_run-requires
fill_run-requires g c =
    let small = g.met.V.Stored.row_small in
    let count = entries_is c.args.bits Leaf ∙ ap entry_count c.requires.leaf in
    let from = c.from-from.ensures ∙ c.offset_in.ensures.value in
    let to = c.from-to.ensures ∙ c.offset_in-in-loop-next.ensures.value in (
      leaf_small _ _ g.row.W _ c.requires.few_words small.1 small.1 small.0,
      (
        in_order _ _ _ _ from to (run_from c.args.bits c.args.part c.loop-next.p _ c.run_end-last.ensures),
        within c.from-to.result c.offset_in-in-loop-next.result (entries c.args.bits Leaf) (entry_count g.row.F) c.from-to.ensures c.offset_in-in-loop-next.ensures.bound count,
      ),
    )

pub next_voxel-requires : goal.next_voxel-requires
next_voxel-requires g c = c.run_end-last.ensures.inside

pub loop-next-smaller : goal.loop-next-smaller
loop-next-smaller g c =
    let x : SFits w32 c.run_end-last.result.x = search rules in
    let y : SFits w32 c.run_end-last.result.y = search rules in
    let z : SFits w32 c.run_end-last.result.z = search rules in
    nearer _ _ _ c.in-Some.ensures.nearer (not_further c.loop-next.p _ c.run_end-last.ensures.behind x y z)
  where
    nearer : (a b n : ℕ) → a < b → b ≤ n → a < n
    nearer a b n h k = omega (arith, h, k)

pub loop-next-preserved : goal.loop-next-preserved
loop-next-preserved g c =
    let from = c.from-from.ensures ∙ c.offset_in.ensures.value in
    let to = c.from-to.ensures ∙ c.offset_in-in-loop-next.ensures.value in
    voxels_next c.args.bits c.args.part c.args.cell c.args.leaf.now c.loop-next.leaf c.fill_run.new.self c.loop-next.p c.loop-next.invariant _ c.run_end-last.ensures
    (rw (from, to) at c.fill_run.ensures) c.in-Some.next c.in-Some.ensures.next

pub returns-in-None : goal.returns-in-None
returns-in-None g c =
    let from = c.from-from.ensures ∙ c.offset_in.ensures.value in
    let to = c.from-to.ensures ∙ c.offset_in-in-loop-next.ensures.value in
    voxels_all c.args.bits c.args.part c.args.cell c.args.leaf.now c.loop-next.leaf c.fill_run.new.self c.loop-next.p c.loop-next.invariant _ c.run_end-last.ensures
    (rw (from, to) at c.fill_run.ensures) c.in-None.ensures.next
