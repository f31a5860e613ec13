use Rattle.vdb_file.proofs.Common.{◌≡◌, ◌<◌, ◌^◌, length, refl, w16, to_be_bytes, err_from_is_err_and}
use Rattle.vdb_file.proofs.Fronts.{fails_turn}
use Rattle.vdb_file.proofs.loading.fields.take_u16.Goals as goal

pub returns-in_err-bytes-clause-reads : goal.returns-in_err-bytes-clause-reads
returns-in_err-bytes-clause-reads g c =
    let p = err_from_is_err_and c.from_residual.result c.from_residual.ensures.1 in
    rw (p.1, p.2) (fails_turn (λ n. n < 2 ^ 16) (to_be_bytes w16) (λ b. length b ≡ 2) (λ b. b) (to_be_bytes w16) c.in_err-bytes.field-0.0 _ (λ a q. refl) (λ a q. refl) c.in_err-bytes.ensures.reads)
