use Rattle.vdb_scene.proofs.Common.{◌∙◌, ap, refl, sym, Err, Some, err_from_is_err_and, clip, of_tree, changed, grid_field, grid_root_limit, scene_of}
use Rattle.vdb_scene.specs.Replies as replies
use Rattle.vdb_scene.proofs.Borrowed.{changed_field, found, kept, missing, same_scene, unchanged}
use Rattle.vdb_scene.proofs.Steps.{corners_first, refused}
use Rattle.vdb_scene.specs.declared.command.Command.TheVariants as commands
use Rattle.vdb_scene.proofs.Trees.{corners_refused, others_keep, same_back, tree_refused_leaves}
use Rattle.vdb_scene.proofs.scene.Scene.clip.Goals as goal

pub returns-in_default-clause-step : goal.returns-in_default-clause-step
returns-in_default-clause-step c =
    let grids = c.args.self.now.grids.entries in
    (rw (missing grids c.args.name.now (sym c.in_default.ensures.value)) refl, rw c.get_mut.follows.holds-at-none refl)

pub returns-in_err-bounds-clause-step : goal.returns-in_err-bounds-clause-step
returns-in_err-bounds-clause-step c =
    let grids = c.args.self.now.grids.entries in
    let entry = c.in-Some.entry.now in
    let there = sym c.in-Some.ensures.value in
    let exit = err_from_is_err_and c.from_residual.result c.from_residual.ensures.1 in
    let first = corners_first _ _ _ _ (c.in_err-bounds.ensures.refusal ∙ ap Some (sym exit.2)) in
    rw exit.1 (refused (scene_of c.args.self.now) (commands.Clip c.args.name.now c.args.corners.now) _ _ (rw (found grids c.args.name.now entry there) first.0) first.1
    (same_scene grids c.args.name.now _ entry there (c.get_mut.follows.holds entry).0))

pub returns-in_err-clip-clause-step : goal.returns-in_err-clip-clause-step
returns-in_err-clip-clause-step c =
    let grids = c.args.self.now.grids.entries in
    let entry = c.in-Some.entry.now in
    let there = sym c.in-Some.ensures.value in
    let exit = err_from_is_err_and c.from_residual-in_err-clip.result c.from_residual-in_err-clip.ensures.1 in
    let same = kept c.in_err-clip.field-0.0 (grid_root_limit entry.grid) (grid_field entry.grid) (clip c.in_ok-bounds.bounds (grid_field entry.grid)) (grid_field c.clip.new.self) c.in_err-clip.ensures.outcome in
    rw (exit.1, exit.2 ∙ ap of_tree c.in_err-clip.ensures.memory) (
      rw (found grids c.args.name.now entry there, c.in_ok-bounds.ensures.coords, c.in_ok-bounds.ensures.ordered) refl,
      refl,
      unchanged grids c.args.name.now _ entry there c.clip.new.self (c.get_mut.follows.holds (record entry { grid = c.clip.new.self })).0 same c.in_err-clip.ensures.limit,
    )

pub returns-clause-step : goal.returns-clause-step
returns-clause-step c =
    let grids = c.args.self.now.grids.entries in
    let entry = c.in-Some.entry.now in
    let there = sym c.in-Some.ensures.value in (
      rw (found grids c.args.name.now entry there, c.in_ok-bounds.ensures.coords, c.in_ok-bounds.ensures.ordered) refl,
      (replies.Done, refl, refl),
      changed_field grids c.args.name.now _ entry there c.clip.new.self (c.get_mut.follows.holds (record entry { grid = c.clip.new.self })).0 (clip c.in_ok-bounds.bounds) c.in_ok-clip.ensures.outcome.0 c.in_ok-clip.ensures.limit
          ∙ ap (λ box. changed (scene_of c.args.self.now) c.args.name.now (clip box)) c.in_ok-bounds.ensures.bounds,
    )

pub returns-in_err-bounds-clause-trees : goal.returns-in_err-bounds-clause-trees
returns-in_err-bounds-clause-trees c =
    let exit = err_from_is_err_and c.from_residual.result c.from_residual.ensures.1 in
    rw exit.1 (others_keep c.args.self.now (record c.args.self.now { grids = c.get_mut.follows.lender c.in-Some.entry.now }) (commands.Clip c.args.name.now c.args.corners.now) _
    (corners_refused _ _ _ (c.in_err-bounds.ensures.refusal ∙ ap Some (sym exit.2)))
    (same_back c.args.self.now.grids.entries _ c.args.name.now c.in-Some.entry.now (sym c.in-Some.ensures.value) (c.get_mut.follows.holds c.in-Some.entry.now).0))

pub returns-in_err-clip-clause-trees : goal.returns-in_err-clip-clause-trees
returns-in_err-clip-clause-trees c =
    let exit = err_from_is_err_and c.from_residual-in_err-clip.result c.from_residual-in_err-clip.ensures.1 in
    rw (exit.1, exit.2) (tree_refused_leaves c.args.self.now (record c.args.self.now { grids = c.get_mut.follows.lender (record c.in-Some.entry.now { grid = c.clip.new.self }) }) (commands.Clip c.args.name.now c.args.corners.now) c.args.name.now refl (record c.in-Some.entry.now { grid = c.clip.new.self }) (c.get_mut.follows.holds (record c.in-Some.entry.now { grid = c.clip.new.self })).0 c.in-Some.entry.now (sym c.in-Some.ensures.value) c.in_err-clip.ensures.last c.in_err-clip.field-0.0
    (λ e. c.in_err-clip.ensures.given_back (ap Err e)))

pub returns-clause-trees : goal.returns-clause-trees
returns-clause-trees c = (c.in-Some.entry.now, record c.in-Some.entry.now { grid = c.clip.new.self }, (sym c.in-Some.ensures.value, (c.get_mut.follows.holds (record c.in-Some.entry.now { grid = c.clip.new.self })).0, c.in_ok-clip.ensures.last))
