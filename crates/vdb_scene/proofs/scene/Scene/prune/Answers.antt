use Rattle.std.proofs.Common.{refl, sym}
use Rattle.vdb_scene.specs.Replies as replies
use Rattle.vdb_scene.proofs.Borrowed.{found, missing, unchanged}
use Rattle.vdb_scene.proofs.scene.Scene.prune.Goals as goal

pub returns-in_default-clause-step : goal.returns-in_default-clause-step
returns-in_default-clause-step c =
    let grids = c.args.self.now.grids.entries in
    (rw (missing grids c.args.name.now (sym c.in_default.ensures.value)) refl, rw c.get_mut.follows.holds-at-none refl)

pub returns-clause-step : goal.returns-clause-step
returns-clause-step c =
    let grids = c.args.self.now.grids.entries in
    let entry = c.in-Some.entry.now in
    let there = sym c.in-Some.ensures.value in (
      rw (found grids c.args.name.now entry there) refl,
      (replies.Done, refl, refl),
      unchanged grids c.args.name.now _ entry there c.prune.new.self (c.get_mut.follows.holds (record entry { grid = c.prune.new.self })).0 c.prune.ensures.field c.prune.ensures.limit,
    )

pub returns-clause-trees : goal.returns-clause-trees
returns-clause-trees c =
    (c.in-Some.entry.now, record c.in-Some.entry.now { grid = c.prune.new.self }, (sym c.in-Some.ensures.value, (c.get_mut.follows.holds (record c.in-Some.entry.now { grid = c.prune.new.self })).0, c.prune.ensures.last), c.prune.ensures.least)
