use Rattle.vdb_file.proofs.Common.{◌≡◌, ◌∙◌, ap, sym, subst, on_ok_weaker, Some, scene_of, grid_at, grid_bytes, head_bytes}
use Rattle.vdb_file.proofs.Outputs.{puts_same}
use Rattle.vdb_file.proofs.Passing.{same_some}
use Rattle.vdb_file.proofs.SavedGrids.{grid_of_position, name_of_position}
use Rattle.vdb_file.proofs.saving.put_nth.Goals as goal

pub returns-in-Some-clause-puts : goal.returns-in-Some-clause-puts
returns-in-Some-clause-puts g c e h =
    let name = same_some _ _ (c.in-Some.ensures.name ∙ name_of_position (scene_of c.args.scene.now) c.args.i e h) in
    on_ok_weaker c.put_named.result (λ h. puts_same _ _ _ _ (ap (λ n. grid_bytes head_bytes (n, e.1)) name) h)
    (c.put_named.ensures.puts e.1 (subst (λ n. grid_at (scene_of c.args.scene.now) n ≡ Some e.1) (sym name) (grid_of_position (scene_of c.args.scene.now) c.in-Some.ensures.rising c.args.i e h)))

pub returns-in-None-clause-puts : goal.returns-in-None-clause-puts
returns-in-None-clause-puts g c e h = let k = c.in-None.ensures.name ∙ name_of_position (scene_of c.args.scene.now) c.args.i e h in cc
