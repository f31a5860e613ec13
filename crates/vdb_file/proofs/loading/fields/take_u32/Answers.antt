use Rattle.vdb_file.proofs.Common.{◌≡◌, ◌<◌, ◌^◌, length, refl, w32, to_be_bytes, err_from_is_err_and}
use Rattle.vdb_file.proofs.Fronts.{fails_turn}
use Rattle.vdb_file.proofs.loading.fields.take_u32.Goals as goal

pub returns-in_err-bytes-clause-reads : goal.returns-in_err-bytes-clause-reads
returns-in_err-bytes-clause-reads g c =
    let p = err_from_is_err_and c.from_residual.result c.from_residual.ensures.1 in
    rw (p.1, p.2) (fails_turn (λ n. n < 2 ^ 32) (to_be_bytes w32) (λ b. length b ≡ 4) (λ b. b) (to_be_bytes w32) c.in_err-bytes.field-0.0 _ (λ a q. refl) (λ a q. refl) c.in_err-bytes.ensures.reads)
