use Rattle.std.proofs.Common.{SFits, w32}
use Rattle.std.proofs.lemmas.Result.{err_from_is_err_and}
use Rattle.std.proofs.lemmas.Int.{to_z-of_z}
use Rattle.vdb_file.proofs.KeyCodes.{no_x, no_y, no_z, three_read}
use Rattle.vdb_file.proofs.loading.block_head.take_coord.Goals as goal

pub returns-in_err-x-clause-reads : goal.returns-in_err-x-clause-reads
returns-in_err-x-clause-reads g c =
    let e = err_from_is_err_and c.from_residual.result c.from_residual.ensures.1 in
    rw (e.1, e.2) (no_x c.in_err-x.field-0.0 _ c.in_err-x.ensures.reads)

pub returns-in_err-y-clause-reads : goal.returns-in_err-y-clause-reads
returns-in_err-y-clause-reads g c =
    let e = err_from_is_err_and c.from_residual-in_err-y.result c.from_residual-in_err-y.ensures.1 in
    rw (e.1, e.2) (no_y c.in_ok-x.x c.in_ok-x.ensures.reads.0 _ _ c.in_ok-x.ensures.reads.1 c.in_err-y.field-0.0 c.in_err-y.ensures.reads)

pub returns-in_err-z-clause-reads : goal.returns-in_err-z-clause-reads
returns-in_err-z-clause-reads g c =
    let e = err_from_is_err_and c.from_residual-in_err-z.result c.from_residual-in_err-z.ensures.1 in
    rw (e.1, e.2) (no_z c.in_ok-x.x c.in_ok-x.ensures.reads.0 _ _ c.in_ok-x.ensures.reads.1 c.in_ok-y.y c.in_ok-y.ensures.reads.0 _ c.in_ok-y.ensures.reads.1 c.in_err-z.field-0.0 c.in_err-z.ensures.reads)

pub returns-clause-reads : goal.returns-clause-reads
returns-clause-reads g c =
    let fits_x : SFits w32 c.in_ok-x.x = c.in_ok-x.ensures.reads.0 in
    let fits_y : SFits w32 c.in_ok-y.y = c.in_ok-y.ensures.reads.0 in
    let fits_z : SFits w32 c.in_ok-z.z = c.in_ok-z.ensures.reads.0 in
    simp to_z-of_z ((fits_x, fits_y, fits_z), three_read c.in_ok-x.x fits_x _ _ c.in_ok-x.ensures.reads.1 c.in_ok-y.y c.in_ok-z.z _ _ c.in_ok-y.ensures.reads.1 c.in_ok-z.ensures.reads.1)
