use Rattle.vdb_file.proofs.Common.{◌≤◌, arith, err_from_is_err_and}
use Rattle.vdb_file.proofs.HeadCodes.{no_u16}
use Rattle.vdb_file.proofs.loading.block_head.take_count.Goals as goal

pub returns-in_err-count-clause-reads : goal.returns-in_err-count-clause-reads
returns-in_err-count-clause-reads g c =
    let p = err_from_is_err_and c.from_residual.result c.from_residual.ensures.1 in
    rw (p.1, p.2) (no_u16 (λ n. (1 ≤ n) × (n ≤ c.args.most)) c.in_err-count.field-0.0 _ (λ n p. let h = p.1 in omega (arith, h)) c.in_err-count.ensures.reads)
