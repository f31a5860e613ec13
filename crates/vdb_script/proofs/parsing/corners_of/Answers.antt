use Rattle.vdb_script.proofs.Common.{[], ◌∷◌, rules, ◌≡◌, None, refl, point}
use Rattle.vdb_script.proofs.Forms.{point_none}
use Rattle.vdb_script.proofs.parsing.corners_of.Goals as goal

pub returns-in_err-min : goal.returns-in_err-min
returns-in_err-min c =
    let none : c.from_residual.result ≡ None = search rules in
    let first : point (c.args.x0.now ∷ c.args.y0.now ∷ c.args.z0.now ∷ []) ≡ None = search rules in
    rw (none, point_none c.args.x0.now c.args.y0.now c.args.z0.now (c.args.x1.now ∷ c.args.y1.now ∷ c.args.z1.now ∷ []) first) refl
