use Rattle.std.proofs.lemmas.Result.{err_from_is_err_and}
use Rattle.vdb_file.proofs.SceneParts.{no_grid_count, no_grids}
use Rattle.vdb_file.proofs.loading.take_scene.Goals as goal

pub returns-in_err-count-clause-reads : goal.returns-in_err-count-clause-reads
returns-in_err-count-clause-reads g c =
    let p = err_from_is_err_and c.from_residual.result c.from_residual.ensures.1 in
    rw (p.1, p.2) (no_grid_count c.args.version c.in_err-count.field-0.0 _ c.in_err-count.ensures.reads)

pub returns-in_err-scene-clause-reads : goal.returns-in_err-scene-clause-reads
returns-in_err-scene-clause-reads g c =
    let p = err_from_is_err_and c.from_residual-in_err-scene.result c.from_residual-in_err-scene.ensures.1 in
    rw (p.1, p.2) (no_grids c.args.version c.in_err-scene.field-0.0 _ _ c.in_ok-count.count c.in_ok-count.ensures.reads.0 c.in_ok-count.ensures.reads.1 c.in_err-scene.ensures.reads)
