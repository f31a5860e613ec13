use Rattle.std.proofs.Common.{◌∙◌, arith, sym}
use Rattle.vdb_walk.proofs.VoxelSeeks.{set_found, set_passed}
use Rattle.vdb_walk.proofs.voxels.next_set_in.Goals as goal

pub returns-then-contains-clause-next : goal.returns-then-contains-clause-next
returns-then-contains-clause-next g c =
    set_found c.args.bits c.args.states.now c.args.part c.args.from c.loop-index.at _ c.loop-index.invariant.inactive c.in-Some.index c.in-Some.ensures c.requires.past_end
    c.voxel_at-p.result (rw c.min.ensures.corner at c.voxel_at-p.ensures) (sym c.contains.ensures ∙ c.if-contains.true)

pub loop-index-preserved : goal.loop-index-preserved
loop-index-preserved g c = record {
  inactive =
      set_passed c.args.bits c.args.states.now c.args.part c.args.from c.loop-index.at _ c.loop-index.invariant.inactive c.in-Some.index c.in-Some.ensures c.requires.past_end
      c.voxel_at-p.result (rw c.min.ensures.corner at c.voxel_at-p.ensures) c.requires.block (sym c.contains.ensures ∙ c.if-contains.false);
  within = let below = c.in-Some.ensures.within in omega (arith, below);
}
