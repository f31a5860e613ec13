use Rattle.std.proofs.Common.{◌≡◌, ◌+◌, ◌-◌, ap, arith}
use Rattle.vdb_walk.proofs.VoxelCounts.{set_end, set_from, set_run_less}
use Rattle.vdb_walk.proofs.active_count.count_states.Goals as goal

pub voxels-preserved : goal.voxels-preserved
voxels-preserved g c =
    let end = c.run_end-end.ensures in
    let past = end.past in
    let near = end.near in
    let k = c.run_end-end.result - c.in-Some.entry - 1 in
    let same : c.in-Some.entry + k + 1 ≡ c.run_end-end.result = omega (arith, past) in
    let less = set_run_less c.args.bits c.args.states.now c.args.part c.requires.block c.voxels.from c.in-Some.entry c.in-Some.p c.in-Some.ensures.next k (omega (arith, past, near))
    (λ i h l. end.set i h (omega (arith, same, l))) in
    let counted = c.voxels.invariant.counted in
    let few = c.voxels.invariant.few in
    let from_on = c.in-Some.ensures.next.from_on in
    let from_end = ap (set_from c.args.bits c.args.states.now c.args.part) same in
    record {
      counted = omega (arith, less, counted, from_end, past);
      within = end.within;
      few = omega (arith, few, from_on, past);
    }

pub returns : goal.returns
returns g c =
    let none = set_end c.args.bits c.args.states.now c.args.part c.voxels.from c.in_default.ensures.next in
    let counted = c.voxels.invariant.counted in
    omega (arith, none, counted)
