use Rattle.vdb_scene.proofs.Common.{refl, sym, err_from_is_err_and}
use Rattle.vdb_scene.proofs.Borrowed.{same_scene}
use Rattle.vdb_scene.proofs.Steps.{test_fails, test_passes}
use Rattle.vdb_scene.proofs.Trees.{same_back, tree_refused_leaves}
use Rattle.vdb_scene.proofs.Iterating.{erode_done, erode_missing, erode_out_of_range, erode_refused}
use Rattle.vdb_scene.specs.declared.command.Command.TheVariants as commands
use Rattle.vdb_scene.proofs.scene.Scene.erode.Goals as goal

pub returns-in_default-clause-step : goal.returns-in_default-clause-step
returns-in_default-clause-step c = erode_missing c.args.self.now.grids.entries c.args.name.now c.args.iterations _ (rw c.get_mut.follows.holds-at-none refl) (sym c.in_default.ensures.value)

pub returns-in_default-iterations_of-clause-step : goal.returns-in_default-iterations_of-clause-step
returns-in_default-iterations_of-clause-step c =
    let grids = c.args.self.now.grids.entries in
    let entry = c.in-Some.entry.now in
    let there = sym c.in-Some.ensures.value in
    erode_out_of_range grids c.args.name.now c.args.iterations _ (same_scene grids c.args.name.now _ entry there (c.get_mut.follows.holds entry).0) entry there (test_fails _ _ (sym c.in_default-iterations_of.ensures.iterations))

pub returns-in_err-erode-clause-step : goal.returns-in_err-erode-clause-step
returns-in_err-erode-clause-step c =
    let fits = test_passes _ _ _ (sym c.in-Some-iterations_of.ensures.iterations) in
    let exit = err_from_is_err_and c.from_residual.result c.from_residual.ensures.1 in
    rw (exit.1, exit.2) (erode_refused c.args.self.now.grids.entries _ c.args.name.now c.args.iterations c.in-Some.entry.now c.erode.new.self (sym c.in-Some.ensures.value)
    (c.get_mut.follows.holds (record c.in-Some.entry.now { grid = c.erode.new.self })).0 c.in_err-erode.ensures.limit fits.0 c.in-Some-iterations_of.count fits.1 c.in_err-erode.field-0.0 c.in_err-erode.ensures.memory c.in_err-erode.ensures.outcome)

pub returns-clause-step : goal.returns-clause-step
returns-clause-step c =
    let fits = test_passes _ _ _ (sym c.in-Some-iterations_of.ensures.iterations) in
    erode_done c.args.self.now.grids.entries _ c.args.name.now c.args.iterations c.in-Some.entry.now c.erode.new.self (sym c.in-Some.ensures.value)
    (c.get_mut.follows.holds (record c.in-Some.entry.now { grid = c.erode.new.self })).0 c.in_ok-erode.ensures.limit fits.0 c.in-Some-iterations_of.count fits.1 tt c.in_ok-erode.ensures.outcome

pub returns-in_default-iterations_of-clause-trees : goal.returns-in_default-iterations_of-clause-trees
returns-in_default-iterations_of-clause-trees c = same_back c.args.self.now.grids.entries _ c.args.name.now c.in-Some.entry.now (sym c.in-Some.ensures.value) (c.get_mut.follows.holds c.in-Some.entry.now).0

pub returns-in_err-erode-clause-trees : goal.returns-in_err-erode-clause-trees
returns-in_err-erode-clause-trees c =
    let exit = err_from_is_err_and c.from_residual.result c.from_residual.ensures.1 in
    rw (exit.1, exit.2) (tree_refused_leaves c.args.self.now (record c.args.self.now { grids = c.get_mut.follows.lender (record c.in-Some.entry.now { grid = c.erode.new.self }) }) (commands.Erode c.args.name.now c.args.iterations) c.args.name.now refl (record c.in-Some.entry.now { grid = c.erode.new.self }) (c.get_mut.follows.holds (record c.in-Some.entry.now { grid = c.erode.new.self })).0 c.in-Some.entry.now (sym c.in-Some.ensures.value) c.in_err-erode.ensures.last c.in_err-erode.field-0.0 (λ _. tt))

pub returns-clause-trees : goal.returns-clause-trees
returns-clause-trees c = (c.in-Some.entry.now, record c.in-Some.entry.now { grid = c.erode.new.self }, (sym c.in-Some.ensures.value, (c.get_mut.follows.holds (record c.in-Some.entry.now { grid = c.erode.new.self })).0, c.in_ok-erode.ensures.last))
