use Rattle.vdb_scene.proofs.Common.{sym, refl, err_from_is_err_and}
use Rattle.vdb_scene.proofs.Borrowed.{same_scene}
use Rattle.vdb_scene.proofs.Lookups.{get_accessor_refused, get_done, get_missing, get_coord_refused}
use Rattle.vdb_scene.proofs.Steps.{test_fails, test_passes}
use Rattle.vdb_scene.proofs.Trees.{accessed, in_leaf_by, same_back}
use Rattle.vdb_scene.proofs.scene.Scene.look_up.Goals as goal

pub returns-in_default-clause-step : goal.returns-in_default-clause-step
returns-in_default-clause-step c =
    get_missing c.args.self.now.grids.entries c.args.name.now c.args.accessor c.args.at.now _ (sym c.in_default.ensures.value) (rw c.get_mut.follows.holds-at-none refl)

pub returns-in_default-named_coord-clause-step : goal.returns-in_default-named_coord-clause-step
returns-in_default-named_coord-clause-step c =
    let grids = c.args.self.now.grids.entries in
    let entry = c.in-Some.entry.now in
    let there = sym c.in-Some.ensures.value in
    get_coord_refused grids c.args.name.now c.args.accessor c.args.at.now _ entry there (test_fails _ _ (sym c.in_default-named_coord.ensures))
    (same_scene grids c.args.name.now _ entry there (c.get_mut.follows.holds entry).0)

pub returns-in_err-accessor-clause-step : goal.returns-in_err-accessor-clause-step
returns-in_err-accessor-clause-step c =
    let grids = c.args.self.now.grids.entries in
    let entry = c.in-Some.entry.now in
    let there = sym c.in-Some.ensures.value in
    let exit = err_from_is_err_and c.from_residual.result c.from_residual.ensures.1 in
    rw (exit.1, exit.2, c.in_err-accessor.ensures.refusal.0) (get_accessor_refused grids c.args.name.now c.args.accessor c.args.at.now _ entry there
    (test_passes _ _ _ (sym c.in-Some-named_coord.ensures)).0 c.in_err-accessor.ensures.refusal.1
    (same_scene grids c.args.name.now _ entry there (c.get_mut.follows.holds entry).0))

pub returns-clause-step : goal.returns-clause-step
returns-clause-step c =
    let at = test_passes _ _ _ (sym c.in-Some-named_coord.ensures) in
    get_done c.args.self.now.grids.entries c.args.name.now c.args.accessor c.args.at.now _ c.in-Some.entry.now (sym c.in-Some.ensures.value)
    at.0 c.in_ok-accessor.ensures.valid c.in-Some-named_coord.at at.1 c.probe-cell.result c.probe-cell.ensures.cell c.probe-cell.new.self c.probe-cell.ensures.tree
    (c.get_mut.follows.holds (record c.in-Some.entry.now { grid = c.probe-cell.new.self })).0

pub returns-in_default-named_coord-clause-trees : goal.returns-in_default-named_coord-clause-trees
returns-in_default-named_coord-clause-trees c = same_back c.args.self.now.grids.entries _ c.args.name.now c.in-Some.entry.now (sym c.in-Some.ensures.value) (c.get_mut.follows.holds c.in-Some.entry.now).0

pub returns-in_err-accessor-clause-trees : goal.returns-in_err-accessor-clause-trees
returns-in_err-accessor-clause-trees c =
    let exit = err_from_is_err_and c.from_residual.result c.from_residual.ensures.1 in
    rw (exit.1, exit.2, c.in_err-accessor.ensures.refusal.0)
    (same_back c.args.self.now.grids.entries _ c.args.name.now c.in-Some.entry.now (sym c.in-Some.ensures.value) (c.get_mut.follows.holds c.in-Some.entry.now).0)

pub returns-clause-trees : goal.returns-clause-trees
returns-clause-trees c =
    let at = test_passes _ _ _ (sym c.in-Some-named_coord.ensures) in (
      c.in-Some.entry.now,
      record c.in-Some.entry.now { grid = c.probe-cell.new.self },
      (sym c.in-Some.ensures.value, (c.get_mut.follows.holds (record c.in-Some.entry.now { grid = c.probe-cell.new.self })).0, accessed c.args.accessor c.args.at.now _ _ _ _ c.in_ok-accessor.ensures.number at.1 c.probe-cell.ensures.last),
      c.probe-cell.ensures.tree,
    )

pub returns-clause-near : goal.returns-clause-near
returns-clause-near c = λ near.
    let at = test_passes _ _ _ (sym c.in-Some-named_coord.ensures) in
    c.probe-cell.ensures.near (in_leaf_by c.args.self.now c.args.name.now c.args.accessor c.args.at.now c.in-Some.entry.now _ _ (sym c.in-Some.ensures.value) c.in_ok-accessor.ensures.number at.1 near)
