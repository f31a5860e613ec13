use Rattle.vdb_scene.proofs.Common.{◌∙◌, sym, ap, refl, err_from_is_err_and, Some, write, grid_field, grid_root_limit, write_command}
use Rattle.vdb_scene.proofs.Borrowed.{changed_field, kept, same_scene, unchanged}
use Rattle.vdb_scene.proofs.Steps.{test_fails, test_passes}
use Rattle.vdb_scene.proofs.Writing.{write_accessor_refused, write_done, write_missing, write_coord_refused, write_refused, write_value_refused}
use Rattle.vdb_scene.proofs.Trees.{accessed, in_leaf_by, others_keep, same_back, tree_refused_leaves, value_refused, write_changes, write_gives, write_in_leaf_by, write_leaves, write_moves}
use Rattle.vdb_scene.proofs.scene.Scene.write.Goals as goal

pub returns-in_default-clause-step : goal.returns-in_default-clause-step
returns-in_default-clause-step c =
    write_missing c.args.self.now.grids.entries c.args.name.now c.args.accessor c.args.at.now c.args.change _ (sym c.in_default.ensures.value) (rw c.get_mut.follows.holds-at-none refl)

pub returns-in_err-change-clause-step : goal.returns-in_err-change-clause-step
returns-in_err-change-clause-step c =
    let grids = c.args.self.now.grids.entries in
    let entry = c.in-Some.entry.now in
    let there = sym c.in-Some.ensures.value in
    let exit = err_from_is_err_and c.from_residual.result c.from_residual.ensures.1 in
    rw exit.1 (write_value_refused grids c.args.name.now c.args.accessor c.args.at.now c.args.change _ entry there c.kind.result c.kind.ensures _ (c.in_err-change.ensures.refusal ∙ ap Some (sym exit.2))
    (same_scene grids c.args.name.now _ entry there (c.get_mut.follows.holds entry).0))

pub returns-in_default-named_coord-clause-step : goal.returns-in_default-named_coord-clause-step
returns-in_default-named_coord-clause-step c =
    let grids = c.args.self.now.grids.entries in
    let entry = c.in-Some.entry.now in
    let there = sym c.in-Some.ensures.value in
    write_coord_refused grids c.args.name.now c.args.accessor c.args.at.now c.args.change _ entry there c.kind.result c.kind.ensures
    c.in_ok-change.ensures.form c.in_ok-change.ensures.range (test_fails _ _ (sym c.in_default-named_coord.ensures))
    (same_scene grids c.args.name.now _ entry there (c.get_mut.follows.holds entry).0)

pub returns-in_err-accessor-clause-step : goal.returns-in_err-accessor-clause-step
returns-in_err-accessor-clause-step c =
    let grids = c.args.self.now.grids.entries in
    let entry = c.in-Some.entry.now in
    let there = sym c.in-Some.ensures.value in
    let exit = err_from_is_err_and c.from_residual-in_err-accessor.result c.from_residual-in_err-accessor.ensures.1 in
    rw (exit.1, exit.2, c.in_err-accessor.ensures.refusal.0) (write_accessor_refused grids c.args.name.now c.args.accessor c.args.at.now c.args.change _ entry there c.kind.result c.kind.ensures
    c.in_ok-change.ensures.form c.in_ok-change.ensures.range (test_passes _ _ _ (sym c.in-Some-named_coord.ensures)).0 c.in_err-accessor.ensures.refusal.1
    (same_scene grids c.args.name.now _ entry there (c.get_mut.follows.holds entry).0))

pub returns-in_err-write-clause-step : goal.returns-in_err-write-clause-step
returns-in_err-write-clause-step c =
    let grids = c.args.self.now.grids.entries in
    let entry = c.in-Some.entry.now in
    let there = sym c.in-Some.ensures.value in
    let at = test_passes _ _ _ (sym c.in-Some-named_coord.ensures) in
    let exit = err_from_is_err_and c.from_residual-in_err-write.result c.from_residual-in_err-write.ensures.1 in
    rw (exit.1, exit.2) (write_refused grids c.args.name.now c.args.accessor c.args.at.now c.args.change _ entry there c.kind.result c.kind.ensures
    c.in_ok-change.ensures.form c.in_ok-change.ensures.range at.0 c.in_ok-accessor.ensures.valid
    c.in-Some-named_coord.at at.1 c.in_ok-change.change c.in_ok-change.ensures.value c.in_err-write.field-0.0 (grid_field c.write.new.self) c.in_err-write.ensures.outcome c.in_err-write.ensures.memory
    (unchanged grids c.args.name.now _ entry there c.write.new.self (c.get_mut.follows.holds (record entry { grid = c.write.new.self })).0 (kept c.in_err-write.field-0.0 (grid_root_limit entry.grid) (grid_field entry.grid) (write c.in-Some-named_coord.at c.in_ok-change.change (grid_field entry.grid)) (grid_field c.write.new.self) c.in_err-write.ensures.outcome) c.in_err-write.ensures.limit))

pub returns-clause-step : goal.returns-clause-step
returns-clause-step c =
    let grids = c.args.self.now.grids.entries in
    let entry = c.in-Some.entry.now in
    let there = sym c.in-Some.ensures.value in
    let at = test_passes _ _ _ (sym c.in-Some-named_coord.ensures) in
    write_done grids c.args.name.now c.args.accessor c.args.at.now c.args.change _ entry there c.kind.result c.kind.ensures
    c.in_ok-change.ensures.form c.in_ok-change.ensures.range at.0 c.in_ok-accessor.ensures.valid
    c.in-Some-named_coord.at at.1 c.in_ok-change.change c.in_ok-change.ensures.value c.in_ok-write.ensures.outcome.1
    (changed_field grids c.args.name.now _ entry there c.write.new.self (c.get_mut.follows.holds (record entry { grid = c.write.new.self })).0 (write c.in-Some-named_coord.at c.in_ok-change.change)
    c.in_ok-write.ensures.outcome.0 c.in_ok-write.ensures.limit)

pub returns-in_err-change-clause-trees : goal.returns-in_err-change-clause-trees
returns-in_err-change-clause-trees c =
    let exit = err_from_is_err_and c.from_residual.result c.from_residual.ensures.1 in
    rw exit.1 (others_keep c.args.self.now (record c.args.self.now { grids = c.get_mut.follows.lender c.in-Some.entry.now }) (write_command c.args.name.now c.args.accessor c.args.at.now c.args.change) _
    (value_refused _ _ _ (c.in_err-change.ensures.refusal ∙ ap Some (sym exit.2)))
    (same_back c.args.self.now.grids.entries _ c.args.name.now c.in-Some.entry.now (sym c.in-Some.ensures.value) (c.get_mut.follows.holds c.in-Some.entry.now).0))

pub returns-in_default-named_coord-clause-trees : goal.returns-in_default-named_coord-clause-trees
returns-in_default-named_coord-clause-trees c = same_back c.args.self.now.grids.entries _ c.args.name.now c.in-Some.entry.now (sym c.in-Some.ensures.value) (c.get_mut.follows.holds c.in-Some.entry.now).0

pub returns-in_err-accessor-clause-trees : goal.returns-in_err-accessor-clause-trees
returns-in_err-accessor-clause-trees c =
    let exit = err_from_is_err_and c.from_residual-in_err-accessor.result c.from_residual-in_err-accessor.ensures.1 in
    rw (exit.1, exit.2, c.in_err-accessor.ensures.refusal.0)
    (same_back c.args.self.now.grids.entries _ c.args.name.now c.in-Some.entry.now (sym c.in-Some.ensures.value) (c.get_mut.follows.holds c.in-Some.entry.now).0)

pub returns-clause-trees : goal.returns-clause-trees
returns-clause-trees c =
    let at = test_passes _ _ _ (sym c.in-Some-named_coord.ensures) in
    write_leaves c.args.self.now (record c.args.self.now { grids = c.get_mut.follows.lender (record c.in-Some.entry.now { grid = c.write.new.self }) }) c.args.name.now c.args.accessor c.args.at.now c.args.change
    c.in-Some.entry.now (record c.in-Some.entry.now { grid = c.write.new.self })
    (sym c.in-Some.ensures.value, (c.get_mut.follows.holds (record c.in-Some.entry.now { grid = c.write.new.self })).0, accessed c.args.accessor c.args.at.now _ _ _ _ c.in_ok-accessor.ensures.number at.1 c.in_ok-write.ensures.last)

pub returns-in_err-write-clause-trees : goal.returns-in_err-write-clause-trees
returns-in_err-write-clause-trees c =
    let at = test_passes _ _ _ (sym c.in-Some-named_coord.ensures) in
    let exit = err_from_is_err_and c.from_residual-in_err-write.result c.from_residual-in_err-write.ensures.1 in
    rw (exit.1, exit.2) (tree_refused_leaves c.args.self.now (record c.args.self.now { grids = c.get_mut.follows.lender (record c.in-Some.entry.now { grid = c.write.new.self }) }) (write_command c.args.name.now c.args.accessor c.args.at.now c.args.change) c.args.name.now (write_changes c.args.name.now c.args.accessor c.args.at.now c.args.change) (record c.in-Some.entry.now { grid = c.write.new.self }) (c.get_mut.follows.holds (record c.in-Some.entry.now { grid = c.write.new.self })).0
    c.in-Some.entry.now (sym c.in-Some.ensures.value)
    (rw (write_moves c.args.name.now c.args.accessor c.args.at.now c.args.change) (accessed c.args.accessor c.args.at.now _ _ _ _ c.in_ok-accessor.ensures.number at.1 c.in_err-write.ensures.last)) c.in_err-write.field-0.0
    (λ _. write_gives c.args.name.now c.args.accessor c.args.at.now c.args.change c.write.new.self))

pub returns-in_err-write-clause-near : goal.returns-in_err-write-clause-near
returns-in_err-write-clause-near c = λ near.
    let at = test_passes _ _ _ (sym c.in-Some-named_coord.ensures) in
    c.in_err-write.ensures.near (in_leaf_by c.args.self.now c.args.name.now c.args.accessor c.args.at.now c.in-Some.entry.now _ _ (sym c.in-Some.ensures.value) c.in_ok-accessor.ensures.number at.1
    (write_in_leaf_by c.args.self.now c.args.name.now c.args.accessor c.args.at.now c.args.change near))

pub returns-clause-near : goal.returns-clause-near
returns-clause-near c = λ near.
    let at = test_passes _ _ _ (sym c.in-Some-named_coord.ensures) in
    c.in_ok-write.ensures.near (in_leaf_by c.args.self.now c.args.name.now c.args.accessor c.args.at.now c.in-Some.entry.now _ _ (sym c.in-Some.ensures.value) c.in_ok-accessor.ensures.number at.1
    (write_in_leaf_by c.args.self.now c.args.name.now c.args.accessor c.args.at.now c.args.change near))
