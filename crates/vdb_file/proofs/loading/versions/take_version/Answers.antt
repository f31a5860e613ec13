use Rattle.vdb_file.proofs.Common.{◌≡◌, subst, sym, err_from_is_err_and, Claims, IsInner, Truncated}
use Rattle.vdb_file.specs.declared.fault.LoadFault.TheVariants.{Version}
use Rattle.vdb_file.proofs.Beginnings.{inner_version, no_other, no_version}
use Rattle.vdb_file.proofs.loading.versions.take_version.Goals as goal

pub returns-in_err-number-clause-reads : goal.returns-in_err-number-clause-reads
returns-in_err-number-clause-reads g c =
    let p = err_from_is_err_and c.from_residual.result c.from_residual.ensures.1 in
    rw (p.1, p.2) (no_version c.in_err-number.field-0.0 _ c.in_err-number.ensures.reads)

pub returns-in_err-number-clause-fault : goal.returns-in_err-number-clause-fault
returns-in_err-number-clause-fault g c =
    let p = err_from_is_err_and c.from_residual.result c.from_residual.ensures.1 in
    rw (p.1, p.2) (inner_version c.in_err-number.field-0.0 c.in_err-number.ensures.inner)

pub returns-in_err-number-clause-version : goal.returns-in_err-number-clause-version
returns-in_err-number-clause-version g c =
    let p = err_from_is_err_and c.from_residual.result c.from_residual.ensures.1 in
    rw (p.1, p.2) (λ e. let k : c.in_err-number.field-0.0 ≡ Version = cc in absurd (subst IsInner k c.in_err-number.ensures.inner))

pub returns-in_err-number-clause-short : goal.returns-in_err-number-clause-short
returns-in_err-number-clause-short g c =
    let p = err_from_is_err_and c.from_residual.result c.from_residual.ensures.1 in
    rw (p.1, p.2) (λ e fits.
    let k : c.in_err-number.field-0.0 ≡ Truncated = cc in
    no_other c.in_err-number.field-0.0 _ (subst Claims (sym k) tt) fits c.in_err-number.ensures.reads)
