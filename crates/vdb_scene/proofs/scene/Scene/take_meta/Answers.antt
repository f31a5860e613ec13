use Rattle.vdb_scene.proofs.Common.{refl, err_from_is_err_and, scene_of}
use Rattle.vdb_scene.proofs.PairSteps.{done_too, refused_too}
use Rattle.vdb_scene.specs.declared.command.Command.TheVariants as commands
use Rattle.vdb_scene.proofs.scene.Scene.take_meta.Goals as goal

pub returns-in_err-remove_meta-clause-step : goal.returns-in_err-remove_meta-clause-step
returns-in_err-remove_meta-clause-step c =
    let exit = err_from_is_err_and c.from_residual.result c.from_residual.ensures.1 in
    rw (exit.1, exit.2) (refused_too (scene_of c.args.self.now) (commands.Unmeta c.args.name.now c.args.key.now) (scene_of c.remove_meta.new.self) c.in_err-remove_meta.field-0.0 c.in_err-remove_meta.ensures.step)

pub returns-clause-step : goal.returns-clause-step
returns-clause-step c = done_too (scene_of c.args.self.now) (commands.Unmeta c.args.name.now c.args.key.now) (scene_of c.remove_meta.new.self) tt refl c.in_ok-remove_meta.ensures.step

pub returns-in_err-remove_meta-clause-trees : goal.returns-in_err-remove_meta-clause-trees
returns-in_err-remove_meta-clause-trees c =
    let exit = err_from_is_err_and c.from_residual.result c.from_residual.ensures.1 in
    rw (exit.1, exit.2) c.in_err-remove_meta.ensures.trees
