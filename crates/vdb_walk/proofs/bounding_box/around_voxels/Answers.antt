use Rattle.vdb_walk.proofs.Surrounds.{reaches_all, reaches_next}
use Rattle.vdb_walk.proofs.bounding_box.around_voxels.Goals as goal

pub voxels-preserved : goal.voxels-preserved
voxels-preserved g c =
    record {
      reaches =
          reaches_next c.args.bits c.args.states.now c.args.found c.args.part c.requires.block c.voxels.from c.in-Some.entry c.in-Some.p c.single.result c.voxels.around c.joined-grown.result c.past_run-from.result c.voxels.invariant.reaches
          c.in-Some.ensures.next c.single.ensures c.joined-grown.ensures.least c.past_run-from.ensures.run;
      within = c.past_run-from.ensures.within;
      order = c.joined-grown.ensures.order;
    }

pub returns-clause-least : goal.returns-clause-least
returns-clause-least g c = reaches_all c.args.bits c.args.states.now c.args.found c.args.part c.voxels.from c.voxels.around c.voxels.invariant.reaches c.in_default.ensures.next
