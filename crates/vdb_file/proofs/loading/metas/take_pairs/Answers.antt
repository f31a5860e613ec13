use Rattle.std.proofs.lemmas.Result.{err_from_is_err_and}
use Rattle.vdb_file.proofs.PairParts.{no_pair_count}
use Rattle.vdb_file.proofs.loading.metas.take_pairs.Goals as goal

pub returns-in_err-count-clause-reads : goal.returns-in_err-count-clause-reads
returns-in_err-count-clause-reads g c =
    let p = err_from_is_err_and c.from_residual.result c.from_residual.ensures.1 in
    rw (p.1, p.2) (no_pair_count c.in_err-count.field-0.0 _ c.in_err-count.ensures.reads)
