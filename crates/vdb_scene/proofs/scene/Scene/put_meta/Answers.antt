use Rattle.vdb_scene.proofs.Common.{refl, err_from_is_err_and, scene_of}
use Rattle.vdb_scene.proofs.PairSteps.{done_too, refused_too}
use Rattle.vdb_scene.specs.declared.command.Command.TheVariants as commands
use Rattle.vdb_scene.proofs.scene.Scene.put_meta.Goals as goal

pub returns-in_err-set_meta-clause-step : goal.returns-in_err-set_meta-clause-step
returns-in_err-set_meta-clause-step c =
    let exit = err_from_is_err_and c.from_residual.result c.from_residual.ensures.1 in
    rw (exit.1, exit.2) (refused_too (scene_of c.args.self.now) (commands.Meta c.args.name.now c.args.key c.args.text) (scene_of c.set_meta.new.self) c.in_err-set_meta.field-0.0 c.in_err-set_meta.ensures.step)

pub returns-clause-step : goal.returns-clause-step
returns-clause-step c = done_too (scene_of c.args.self.now) (commands.Meta c.args.name.now c.args.key c.args.text) (scene_of c.set_meta.new.self) tt refl c.in_ok-set_meta.ensures.step

pub returns-in_err-set_meta-clause-trees : goal.returns-in_err-set_meta-clause-trees
returns-in_err-set_meta-clause-trees c =
    let exit = err_from_is_err_and c.from_residual.result c.from_residual.ensures.1 in
    rw (exit.1, exit.2) c.in_err-set_meta.ensures.trees
