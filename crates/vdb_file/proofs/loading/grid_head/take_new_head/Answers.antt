use Rattle.std.proofs.lemmas.Result.{err_from_is_err_and}
use Rattle.vdb_file.proofs.HeadParts.{head_read, no_head_limit, no_head_pairs}
use Rattle.vdb_file.proofs.loading.grid_head.take_new_head.Goals as goal

pub returns-in_err-limit-clause-reads : goal.returns-in_err-limit-clause-reads
returns-in_err-limit-clause-reads g c =
    let p = err_from_is_err_and c.from_residual.result c.from_residual.ensures.1 in
    rw (p.1, p.2) (no_head_limit c.in_err-limit.field-0.0 _ c.in_err-limit.ensures.reads)

pub returns-in_err-metas-clause-reads : goal.returns-in_err-metas-clause-reads
returns-in_err-metas-clause-reads g c =
    let p = err_from_is_err_and c.from_residual-in_err-metas.result c.from_residual-in_err-metas.ensures.1 in
    rw (p.1, p.2) (no_head_pairs c.in_err-metas.field-0.0 _ _ c.in_ok-limit.limit c.in_ok-limit.ensures.reads.0 c.in_ok-limit.ensures.reads.1 c.in_err-metas.ensures.reads)

pub returns-clause-reads : goal.returns-clause-reads
returns-clause-reads g c =
    head_read _ _ _ c.in_ok-limit.limit c.in_ok-metas.metas c.in_ok-limit.ensures.reads.0 c.in_ok-metas.ensures.reads.0 c.in_ok-limit.ensures.reads.1 c.in_ok-metas.ensures.reads.1
