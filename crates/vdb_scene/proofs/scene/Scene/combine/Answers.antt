use Rattle.vdb_scene.proofs.Common.{refl, err_from_is_err_and, scene_of}
use Rattle.vdb_scene.proofs.TwoNames.{done_leaves, is_there, other_name, refused_trees, same_name, two_done, two_refused, twice_refused}
use Rattle.vdb_scene.proofs.scene.Scene.combine.Goals as goal

pub returns-then-eq-clause-step : goal.returns-then-eq-clause-step
returns-then-eq-clause-step c =
    (twice_refused (scene_of c.args.self.now) c.args.name.now c.args.other.now c.args.operation c.if-not-has.ensures c.if-not-has-2.ensures (same_name c.args.name.now c.args.other.now c.if-eq.ensures), refl)

pub change_by-requires-clause-there : goal.change_by-requires-clause-there
change_by-requires-clause-there c = is_there c.args.self.now.grids.entries c.args.name.now c.if-not-has.ensures

pub change_by-requires-clause-other : goal.change_by-requires-clause-other
change_by-requires-clause-other c = is_there c.args.self.now.grids.entries c.args.other.now c.if-not-has-2.ensures

pub returns-in_err-change_by-clause-step : goal.returns-in_err-change_by-clause-step
returns-in_err-change_by-clause-step c =
    let g = c.in_err-change_by.ensures.grids in
    let exit = err_from_is_err_and c.from_residual.result c.from_residual.ensures.1 in
    rw (exit.1, exit.2) (two_refused c.args.self.now.grids.entries c.change_by.new.self.grids.entries c.args.name.now c.args.other.now g.0 g.1 g.2 c.args.operation g.3 g.4
    (other_name c.args.name.now c.args.other.now c.if-eq.ensures) g.5 g.6 c.in_err-change_by.field-0.0 g.8)

pub returns-clause-step : goal.returns-clause-step
returns-clause-step c =
    let g = c.in_ok-change_by.ensures.grids in
    two_done c.args.self.now.grids.entries c.change_by.new.self.grids.entries c.args.name.now c.args.other.now g.0 g.1 g.2 c.args.operation g.3 g.4
    (other_name c.args.name.now c.args.other.now c.if-eq.ensures) g.5 g.6 tt g.8

pub returns-in_err-change_by-clause-trees : goal.returns-in_err-change_by-clause-trees
returns-in_err-change_by-clause-trees c =
    let g = c.in_err-change_by.ensures.grids in
    let exit = err_from_is_err_and c.from_residual.result c.from_residual.ensures.1 in
    rw (exit.1, exit.2) (refused_trees c.args.operation c.args.self.now c.change_by.new.self c.args.name.now c.args.other.now g.0 g.2 c.in_err-change_by.field-0.0 g.3 g.5 g.7 g.9)

pub returns-clause-trees : goal.returns-clause-trees
returns-clause-trees c =
    let g = c.in_ok-change_by.ensures.grids in
    done_leaves c.args.operation c.args.self.now c.change_by.new.self c.args.name.now c.args.other.now g.0 (record g.0 { grid = g.2 }) (g.3, g.5, g.7)
