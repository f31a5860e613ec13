use Rattle.std.proofs.lemmas.Result.{err_from_is_err_and}
use Rattle.vdb_file.proofs.PairParts.{no_key, no_pair_text, pair_read}
use Rattle.vdb_file.proofs.loading.metas.take_pair.Goals as goal

pub returns-in_err-key-clause-reads : goal.returns-in_err-key-clause-reads
returns-in_err-key-clause-reads g c =
    let p = err_from_is_err_and c.from_residual.result c.from_residual.ensures.1 in
    rw (p.1, p.2) (no_key c.args.before c.in_err-key.field-0.0 _ c.in_err-key.ensures.reads)

pub returns-in_err-text-clause-reads : goal.returns-in_err-text-clause-reads
returns-in_err-text-clause-reads g c =
    let p = err_from_is_err_and c.from_residual-in_err-text.result c.from_residual-in_err-text.ensures.1 in
    rw (p.1, p.2) (no_pair_text c.args.before c.in_err-text.field-0.0 _ _ c.in_ok-key.key c.in_ok-key.ensures.reads.1 c.in_err-text.ensures.reads)

pub returns-clause-reads : goal.returns-clause-reads
returns-clause-reads g c =
    pair_read c.args.before _ _ _ c.in_ok-key.key c.in_ok-text.text c.in_ok-key.ensures.reads.0 c.in_ok-text.ensures.reads.0 c.in_ok-key.ensures.reads.1 c.in_ok-text.ensures.reads.1
