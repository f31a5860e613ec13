use Rattle.vdb_scene.proofs.Common.{◌∙◌, ◌<◌, ◌≤◌, ap, refl, subst, sym, Some, le-ltb, lt-ltb, err_from_is_err_and, box_between, of_tree, scene_of}
use Rattle.vdb_coord.specs.Space.{volume}
use Rattle.vdb_scene.specs.Replies as replies
use Rattle.vdb_scene.proofs.Borrowed.{found, missing, same_scene, unchanged}
use Rattle.vdb_scene.proofs.Steps.{corners_first, refused}
use Rattle.vdb_scene.specs.Grids.{IsVoxelised}
use Rattle.vdb_scene.specs.declared.command.Command.TheVariants as commands
use Rattle.vdb_scene.proofs.Trees.{corners_refused, others_keep, same_back, tree_refused_leaves}
use Rattle.vdb_scene.proofs.scene.Scene.voxelise.Goals as goal

pub returns-in_default-clause-step : goal.returns-in_default-clause-step
returns-in_default-clause-step c =
    let grids = c.args.self.now.grids.entries in
    (rw (missing grids c.args.name.now (sym c.in_default.ensures.value)) refl, rw c.get_mut.follows.holds-at-none refl)

pub returns-in_err-bounds-clause-step : goal.returns-in_err-bounds-clause-step
returns-in_err-bounds-clause-step c =
    let grids = c.args.self.now.grids.entries in
    let entry = c.in-Some.entry.now in
    let there = sym c.in-Some.ensures.value in
    let exit = err_from_is_err_and c.from_residual.result c.from_residual.ensures.1 in
    let first = corners_first _ _ _ _ (c.in_err-bounds.ensures.refusal ∙ ap Some (sym exit.2)) in
    rw exit.1 (refused (scene_of c.args.self.now) (commands.Voxelise c.args.name.now c.args.corners.now) _ _ (rw (found grids c.args.name.now entry there) first.0) first.1
    (same_scene grids c.args.name.now _ entry there (c.get_mut.follows.holds entry).0))

pub returns-then-volume-gt-VOXELISE_LIMIT-clause-step : goal.returns-then-volume-gt-VOXELISE_LIMIT-clause-step
returns-then-volume-gt-VOXELISE_LIMIT-clause-step c =
    let grids = c.args.self.now.grids.entries in
    let entry = c.in-Some.entry.now in
    let there = sym c.in-Some.ensures.value in
    let many : 2097152 < volume (box_between c.args.corners.now) = rw (c.volume.ensures.value ∙ ap volume c.in_ok-bounds.ensures.bounds) at c.if-volume-gt-VOXELISE_LIMIT.true in (
      rw (found grids c.args.name.now entry there, c.in_ok-bounds.ensures.coords, c.in_ok-bounds.ensures.ordered, lt-ltb 2097152 (volume (box_between c.args.corners.now)) many) refl,
      same_scene grids c.args.name.now _ entry there (c.get_mut.follows.holds entry).0,
    )

pub returns-in_err-voxelise-clause-step : goal.returns-in_err-voxelise-clause-step
returns-in_err-voxelise-clause-step c =
    let grids = c.args.self.now.grids.entries in
    let entry = c.in-Some.entry.now in
    let there = sym c.in-Some.ensures.value in
    let exit = err_from_is_err_and c.from_residual-in_err-voxelise.result c.from_residual-in_err-voxelise.ensures.1 in
    let few : volume (box_between c.args.corners.now) ≤ 2097152 = rw (c.volume.ensures.value ∙ ap volume c.in_ok-bounds.ensures.bounds) at c.if-volume-gt-VOXELISE_LIMIT.false in
    rw (exit.1, exit.2 ∙ ap of_tree c.in_err-voxelise.ensures.memory) (
      rw (found grids c.args.name.now entry there, c.in_ok-bounds.ensures.coords, c.in_ok-bounds.ensures.ordered, le-ltb 2097152 (volume (box_between c.args.corners.now)) few) refl,
      refl,
      unchanged grids c.args.name.now _ entry there c.voxelise.new.self (c.get_mut.follows.holds (record entry { grid = c.voxelise.new.self })).0 c.in_err-voxelise.ensures.field c.in_err-voxelise.ensures.limit,
    )

pub returns-clause-step : goal.returns-clause-step
returns-clause-step c =
    let grids = c.args.self.now.grids.entries in
    let entry = c.in-Some.entry.now in
    let there = sym c.in-Some.ensures.value in
    let few : volume (box_between c.args.corners.now) ≤ 2097152 = rw (c.volume.ensures.value ∙ ap volume c.in_ok-bounds.ensures.bounds) at c.if-volume-gt-VOXELISE_LIMIT.false in (
      rw (found grids c.args.name.now entry there, c.in_ok-bounds.ensures.coords, c.in_ok-bounds.ensures.ordered, le-ltb 2097152 (volume (box_between c.args.corners.now)) few) refl,
      (replies.Done, refl, refl),
      unchanged grids c.args.name.now _ entry there c.voxelise.new.self (c.get_mut.follows.holds (record entry { grid = c.voxelise.new.self })).0 c.in_ok-voxelise.ensures.field c.in_ok-voxelise.ensures.limit,
    )

pub returns-in_err-bounds-clause-trees : goal.returns-in_err-bounds-clause-trees
returns-in_err-bounds-clause-trees c =
    let exit = err_from_is_err_and c.from_residual.result c.from_residual.ensures.1 in
    rw exit.1 (others_keep c.args.self.now (record c.args.self.now { grids = c.get_mut.follows.lender c.in-Some.entry.now }) (commands.Voxelise c.args.name.now c.args.corners.now) _
    (corners_refused _ _ _ (c.in_err-bounds.ensures.refusal ∙ ap Some (sym exit.2)))
    (same_back c.args.self.now.grids.entries _ c.args.name.now c.in-Some.entry.now (sym c.in-Some.ensures.value) (c.get_mut.follows.holds c.in-Some.entry.now).0))

pub returns-then-volume-gt-VOXELISE_LIMIT-clause-trees : goal.returns-then-volume-gt-VOXELISE_LIMIT-clause-trees
returns-then-volume-gt-VOXELISE_LIMIT-clause-trees c = same_back c.args.self.now.grids.entries _ c.args.name.now c.in-Some.entry.now (sym c.in-Some.ensures.value) (c.get_mut.follows.holds c.in-Some.entry.now).0

pub returns-clause-trees : goal.returns-clause-trees
returns-clause-trees c = (c.in-Some.entry.now, record c.in-Some.entry.now { grid = c.voxelise.new.self }, (sym c.in-Some.ensures.value, (c.get_mut.follows.holds (record c.in-Some.entry.now { grid = c.voxelise.new.self })).0, c.in_ok-voxelise.ensures.last), subst (IsVoxelised c.voxelise.new.self) c.in_ok-bounds.ensures.bounds c.in_ok-voxelise.ensures.leaves)

pub returns-in_err-voxelise-clause-trees : goal.returns-in_err-voxelise-clause-trees
returns-in_err-voxelise-clause-trees c =
    let exit = err_from_is_err_and c.from_residual-in_err-voxelise.result c.from_residual-in_err-voxelise.ensures.1 in
    rw (exit.1, exit.2) (tree_refused_leaves c.args.self.now (record c.args.self.now { grids = c.get_mut.follows.lender (record c.in-Some.entry.now { grid = c.voxelise.new.self }) }) (commands.Voxelise c.args.name.now c.args.corners.now) c.args.name.now refl (record c.in-Some.entry.now { grid = c.voxelise.new.self }) (c.get_mut.follows.holds (record c.in-Some.entry.now { grid = c.voxelise.new.self })).0 c.in-Some.entry.now (sym c.in-Some.ensures.value) c.in_err-voxelise.ensures.last c.in_err-voxelise.field-0.0
    (λ _. c.in_err-voxelise.ensures.given_back))
