use Rattle.std.proofs.Common.{refl, sym}
use Rattle.vdb_scene.proofs.PairSteps.{pairs_removed, remove_missing}
use Rattle.vdb_scene.proofs.scene.Scene.remove_meta.Goals as goal

pub returns-in-None-clause-step : goal.returns-in-None-clause-step
returns-in-None-clause-step c =
    remove_missing c.args.self.now.grids.entries c.args.name.now c.args.key.now _ (sym c.in-None.ensures.value) (rw c.get_mut.follows.holds-at-none refl)

pub returns-in-Some-clause-step : goal.returns-in-Some-clause-step
returns-in-Some-clause-step c =
    let entry = c.in-Some.entry.now in
    pairs_removed c.args.self.now.grids.entries _ c.args.name.now c.args.key.now entry c.remove.new.self (sym c.in-Some.ensures.value)
    (c.get_mut.follows.holds (record entry { metas = c.remove.new.self })).0 tt c.remove.ensures

pub returns-in-Some-clause-trees : goal.returns-in-Some-clause-trees
returns-in-Some-clause-trees c =
    let entry = c.in-Some.entry.now in
    (entry, c.remove.new.self, sym c.in-Some.ensures.value, (c.get_mut.follows.holds (record entry { metas = c.remove.new.self })).0)
