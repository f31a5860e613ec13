use Rattle.vdb_scene.proofs.Common.{◌∙◌, sym, subst, ap, refl, err_from_is_err_and, Err, Some, fill, grid_field, grid_root_limit}
use Rattle.vdb_scene.proofs.Borrowed.{changed_field, kept, same_scene, unchanged}
use Rattle.vdb_scene.proofs.Filling.{fill_corners_refused, fill_done, fill_missing, fill_refused, fill_value_refused}
use Rattle.vdb_scene.specs.Grids.{IsTiled}
use Rattle.vdb_scene.proofs.Trees.{corners_refused, others_keep, same_back, tree_refused_leaves, value_refused}
use Rattle.vdb_scene.specs.declared.command.Command.TheVariants as commands
use Rattle.vdb_scene.proofs.scene.Scene.fill.Goals as goal

pub returns-in_default-clause-step : goal.returns-in_default-clause-step
returns-in_default-clause-step c =
    fill_missing c.args.self.now.grids.entries c.args.name.now c.args.corners.now c.args.value c.args.on _ (sym c.in_default.ensures.value) (rw c.get_mut.follows.holds-at-none refl)

pub returns-in_err-value-clause-step : goal.returns-in_err-value-clause-step
returns-in_err-value-clause-step c =
    let grids = c.args.self.now.grids.entries in
    let entry = c.in-Some.entry.now in
    let there = sym c.in-Some.ensures.value in
    let exit = err_from_is_err_and c.from_residual.result c.from_residual.ensures.1 in
    rw exit.1 (fill_value_refused grids c.args.name.now c.args.corners.now c.args.value c.args.on _ entry there c.kind.result c.kind.ensures _ (c.in_err-value.ensures.refusal ∙ ap Some (sym exit.2))
    (same_scene grids c.args.name.now _ entry there (c.get_mut.follows.holds entry).0))

pub returns-in_err-bounds-clause-step : goal.returns-in_err-bounds-clause-step
returns-in_err-bounds-clause-step c =
    let grids = c.args.self.now.grids.entries in
    let entry = c.in-Some.entry.now in
    let there = sym c.in-Some.ensures.value in
    let exit = err_from_is_err_and c.from_residual-in_err-bounds.result c.from_residual-in_err-bounds.ensures.1 in
    rw exit.1 (fill_corners_refused grids c.args.name.now c.args.corners.now c.args.value c.args.on _ entry there c.kind.result c.kind.ensures c.in_ok-value.ensures.form c.in_ok-value.ensures.range
    _ (c.in_err-bounds.ensures.refusal ∙ ap Some (sym exit.2)) (same_scene grids c.args.name.now _ entry there (c.get_mut.follows.holds entry).0))

pub returns-in_err-fill-clause-step : goal.returns-in_err-fill-clause-step
returns-in_err-fill-clause-step c =
    let grids = c.args.self.now.grids.entries in
    let entry = c.in-Some.entry.now in
    let there = sym c.in-Some.ensures.value in
    let exit = err_from_is_err_and c.from_residual-in_err-fill.result c.from_residual-in_err-fill.ensures.1 in
    let same = kept c.in_err-fill.field-0.0 (grid_root_limit entry.grid) (grid_field entry.grid) (fill c.in_ok-bounds.bounds (record { value = c.in_ok-value.value; on = c.args.on }) (grid_field entry.grid)) (grid_field c.fill.new.self)
    c.in_err-fill.ensures.outcome in
    rw (exit.1, exit.2) (fill_refused grids c.args.name.now c.args.corners.now c.args.value c.args.on _ entry there c.kind.result c.kind.ensures c.in_ok-value.ensures.form c.in_ok-value.ensures.range
    c.in_ok-bounds.ensures.coords c.in_ok-bounds.ensures.ordered c.in_ok-bounds.bounds c.in_ok-bounds.ensures.bounds c.in_ok-value.value c.in_ok-value.ensures.value
    c.in_err-fill.field-0.0 (grid_field c.fill.new.self) c.in_err-fill.ensures.outcome
    (unchanged grids c.args.name.now _ entry there c.fill.new.self (c.get_mut.follows.holds (record entry { grid = c.fill.new.self })).0 same c.in_err-fill.ensures.limit))

pub returns-clause-step : goal.returns-clause-step
returns-clause-step c =
    let grids = c.args.self.now.grids.entries in
    let entry = c.in-Some.entry.now in
    let there = sym c.in-Some.ensures.value in
    fill_done grids c.args.name.now c.args.corners.now c.args.value c.args.on _ entry there c.kind.result c.kind.ensures c.in_ok-value.ensures.form c.in_ok-value.ensures.range
    c.in_ok-bounds.ensures.coords c.in_ok-bounds.ensures.ordered c.in_ok-bounds.bounds c.in_ok-bounds.ensures.bounds c.in_ok-value.value c.in_ok-value.ensures.value c.in_ok-fill.ensures.outcome.1
    (changed_field grids c.args.name.now _ entry there c.fill.new.self (c.get_mut.follows.holds (record entry { grid = c.fill.new.self })).0 (fill c.in_ok-bounds.bounds (record { value = c.in_ok-value.value; on = c.args.on }))
    c.in_ok-fill.ensures.outcome.0 c.in_ok-fill.ensures.limit)

pub returns-in_err-value-clause-trees : goal.returns-in_err-value-clause-trees
returns-in_err-value-clause-trees c =
    let exit = err_from_is_err_and c.from_residual.result c.from_residual.ensures.1 in
    rw exit.1 (others_keep c.args.self.now (record c.args.self.now { grids = c.get_mut.follows.lender c.in-Some.entry.now }) (commands.Fill c.args.name.now c.args.corners.now c.args.value c.args.on) _
    (value_refused _ _ _ (c.in_err-value.ensures.refusal ∙ ap Some (sym exit.2)))
    (same_back c.args.self.now.grids.entries _ c.args.name.now c.in-Some.entry.now (sym c.in-Some.ensures.value) (c.get_mut.follows.holds c.in-Some.entry.now).0))

pub returns-in_err-bounds-clause-trees : goal.returns-in_err-bounds-clause-trees
returns-in_err-bounds-clause-trees c =
    let exit = err_from_is_err_and c.from_residual-in_err-bounds.result c.from_residual-in_err-bounds.ensures.1 in
    rw exit.1 (others_keep c.args.self.now (record c.args.self.now { grids = c.get_mut.follows.lender c.in-Some.entry.now }) (commands.Fill c.args.name.now c.args.corners.now c.args.value c.args.on) _
    (corners_refused _ _ _ (c.in_err-bounds.ensures.refusal ∙ ap Some (sym exit.2)))
    (same_back c.args.self.now.grids.entries _ c.args.name.now c.in-Some.entry.now (sym c.in-Some.ensures.value) (c.get_mut.follows.holds c.in-Some.entry.now).0))

pub returns-in_err-fill-clause-trees : goal.returns-in_err-fill-clause-trees
returns-in_err-fill-clause-trees c =
    let exit = err_from_is_err_and c.from_residual-in_err-fill.result c.from_residual-in_err-fill.ensures.1 in
    rw (exit.1, exit.2) (tree_refused_leaves c.args.self.now (record c.args.self.now { grids = c.get_mut.follows.lender (record c.in-Some.entry.now { grid = c.fill.new.self }) }) (commands.Fill c.args.name.now c.args.corners.now c.args.value c.args.on) c.args.name.now refl (record c.in-Some.entry.now { grid = c.fill.new.self }) (c.get_mut.follows.holds (record c.in-Some.entry.now { grid = c.fill.new.self })).0 c.in-Some.entry.now (sym c.in-Some.ensures.value) c.in_err-fill.ensures.last c.in_err-fill.field-0.0
    (λ e. c.in_err-fill.ensures.given_back (ap Err e)))

pub returns-clause-trees : goal.returns-clause-trees
returns-clause-trees c = (c.in-Some.entry.now, record c.in-Some.entry.now { grid = c.fill.new.self }, (sym c.in-Some.ensures.value, (c.get_mut.follows.holds (record c.in-Some.entry.now { grid = c.fill.new.self })).0, c.in_ok-fill.ensures.last), subst (IsTiled c.fill.new.self) c.in_ok-bounds.ensures.bounds c.in_ok-fill.ensures.tiles)
