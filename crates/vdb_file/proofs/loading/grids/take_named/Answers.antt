use Rattle.std.proofs.lemmas.Result.{err_from_is_err_and}
use Rattle.vdb_scene.specs.Grids.{grid_with}
use Rattle.vdb_file.proofs.GridParts.{named_read, no_grid_body, no_grid_name}
use Rattle.vdb_file.proofs.loading.grids.take_named.Goals as goal

pub returns-in_err-name-clause-reads : goal.returns-in_err-name-clause-reads
returns-in_err-name-clause-reads g c =
    let p = err_from_is_err_and c.from_residual.result c.from_residual.ensures.1 in
    rw (p.1, p.2) (no_grid_name c.args.version c.args.before c.in_err-name.field-0.0 _ c.in_err-name.ensures.reads)

pub returns-in_err-read-clause-reads : goal.returns-in_err-read-clause-reads
returns-in_err-read-clause-reads g c =
    let p = err_from_is_err_and c.from_residual-in_err-read.result c.from_residual-in_err-read.ensures.1 in
    rw (p.1, p.2) (no_grid_body c.args.version c.args.before c.in_err-read.field-0.0 _ _ c.in_ok-name.name c.in_ok-name.ensures.reads.1 c.in_err-read.ensures.reads)

pub returns-clause-reads : goal.returns-clause-reads
returns-clause-reads g c =
    named_read c.args.version c.args.before _ _ _ c.in_ok-name.name (grid_with c.in_ok-read.read.0 c.in_ok-read.read.1) c.in_ok-name.ensures.reads.0 c.in_ok-read.ensures.reads.0 c.in_ok-name.ensures.reads.1 c.in_ok-read.ensures.reads.1
