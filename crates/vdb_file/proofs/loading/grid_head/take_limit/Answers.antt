use Rattle.vdb_file.proofs.Common.{◌≡◌, true, false, sym, ◌∙◌, err_from_is_err_and}
use Rattle.vdb_file.proofs.HeadParts.{no_limit, other_limit}
use Rattle.vdb_file.proofs.loading.grid_head.take_limit.Goals as goal

pub returns-in_err-limit-clause-reads : goal.returns-in_err-limit-clause-reads
returns-in_err-limit-clause-reads g c =
    let p = err_from_is_err_and c.from_residual.result c.from_residual.ensures.1 in
    rw (p.1, p.2) (no_limit c.in_err-limit.field-0.0 _ c.in_err-limit.ensures.reads)

pub returns-then-not-is_limit-clause-reads : goal.returns-then-not-is_limit-clause-reads
returns-then-not-is_limit-clause-reads g c =
    other_limit _ _ _ c.in_ok-limit.limit c.in_ok-limit.ensures.reads.0 c.in_ok-limit.ensures.reads.1 (λ h. let never : false ≡ true = sym c.if-not-is_limit.true ∙ c.is_limit.ensures.1 h in cc)
