use Rattle.vdb_file.proofs.Common.{on_ok_weaker, scene_of, Grid, grid_at}
use Rattle.vdb_file.proofs.Outputs.{puts_same}
use Rattle.vdb_file.proofs.SavedGrids.{made_there, not_there, parts_same}
use Rattle.vdb_file.proofs.saving.put_named.Goals as goal

pub returns-in_default-clause-puts : goal.returns-in_default-clause-puts
returns-in_default-clause-puts g c d h = absurd (not_there (λ (e : Grid). e.field) (grid_at (scene_of c.args.scene.now) c.args.name.now) d c.in_default.ensures.field h)

pub returns-in_default-metas-clause-puts : goal.returns-in_default-metas-clause-puts
returns-in_default-metas-clause-puts g c d h = absurd (not_there (λ (e : Grid). e.pairs) (grid_at (scene_of c.args.scene.now) c.args.name.now) d c.in_default-metas.ensures h)

pub returns-clause-puts : goal.returns-clause-puts
returns-clause-puts g c d h =
    let at = grid_at (scene_of c.args.scene.now) c.args.name.now in
    let field = made_there (λ (e : Grid). e.field) at d _ c.in-Some.ensures.field h in
    let limit = made_there (λ (e : Grid). e.limit) at d _ c.in-Some.ensures.limit h in
    let pairs = made_there (λ (e : Grid). e.pairs) at d _ c.in-Some-metas.ensures h in
    on_ok_weaker c.put_entry.result (λ k. puts_same _ _ _ _ (parts_same c.args.name.now d _ _ _ field limit pairs) k) c.put_entry.ensures.puts
