use Rattle.std.proofs.Common.{refl}
use Rattle.vdb_scene.proofs.Steps.{step_refused}
use Rattle.vdb_scene.proofs.scene.Scene.apply.Goals as goal

pub returns-in-Err : goal.returns-in-Err
returns-in-Err c =
    let refused = rw c.in-Err.is at c.carry_out.follows.holds-at-none in ((refl, λ _. tt, (step_refused _ _ c.in-Err.refusal _ refused.0, refused.1)), record { step = tt })
