use Rattle.vdb_scene.proofs.Common.{◌≡◌, ◌∙◌, ap, refl, subst, sym, Some, [], ◌∷◌, err_from_is_err_and, scene_of, are_coords, first_of_all, no_box, out_of_range, Corners}
use Rattle.vdb_scene.proofs.Steps.{corners_first, refused}
use Rattle.vdb_scene.specs.declared.command.Command.TheVariants as commands
use Rattle.vdb_scene.proofs.scene.Scene.slice.Goals as goal

pub returns-in_err-bounds : goal.returns-in_err-bounds
returns-in_err-bounds c =
    let exit = err_from_is_err_and c.from_residual.result c.from_residual.ensures.1 in
    let first = corners_first _ _ _ _ (subst (λ (k : Corners). first_of_all (out_of_range (are_coords k) ∷ no_box k ∷ []) ≡ Some c.in_err-bounds.field-0.0) c.flat.ensures c.in_err-bounds.ensures.refusal ∙ ap Some (sym exit.2)) in
    rw exit.1 (refused (scene_of c.args.self.now) (commands.Slice c.args.name.now c.args.z c.args.area) _ _ (rw (sym c.in-Some.ensures.field) first.0) first.1 refl)
