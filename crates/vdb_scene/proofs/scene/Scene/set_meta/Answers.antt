use Rattle.std.proofs.Common.{refl, sym}
use Rattle.vdb_scene.proofs.PairSteps.{pairs_set, set_missing, set_trees}
use Rattle.vdb_scene.proofs.scene.Scene.set_meta.Goals as goal

pub returns-in-None-clause-step : goal.returns-in-None-clause-step
returns-in-None-clause-step c =
    set_missing c.args.self.now.grids.entries c.args.name.now c.args.key _ (sym c.in-None.ensures.value) (rw c.get_mut.follows.holds-at-none refl) c.args.text

pub returns-in-Some-clause-step : goal.returns-in-Some-clause-step
returns-in-Some-clause-step c =
    let entry = c.in-Some.entry.now in
    pairs_set c.args.self.now.grids.entries _ c.args.name.now c.args.key entry c.set.new.self (sym c.in-Some.ensures.value)
    (c.get_mut.follows.holds (record entry { metas = c.set.new.self })).0 c.args.text c.set.result c.set.ensures

pub returns-in-Some-clause-trees : goal.returns-in-Some-clause-trees
returns-in-Some-clause-trees c =
    let entry = c.in-Some.entry.now in
    set_trees c.args.self.now (record c.args.self.now { grids = c.get_mut.follows.lender (record entry { metas = c.set.new.self }) }) c.args.name.now c.args.key c.args.text entry c.set.new.self (sym c.in-Some.ensures.value)
    (c.get_mut.follows.holds (record entry { metas = c.set.new.self })).0 c.set.result c.set.ensures
