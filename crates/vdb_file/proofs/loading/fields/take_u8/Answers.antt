use Rattle.vdb_file.proofs.Common.{[], ◌∷◌, length, refl, ◌≡◌, err_from_is_err_and, ⊤}
use Rattle.vdb_file.proofs.Fronts.{fails_turn}
use Rattle.vdb_file.proofs.loading.fields.take_u8.Goals as goal

pub returns-in_err-byte-clause-reads : goal.returns-in_err-byte-clause-reads
returns-in_err-byte-clause-reads g c =
    let p = err_from_is_err_and c.from_residual.result c.from_residual.ensures.1 in
    rw (p.1, p.2) (fails_turn (λ n. ⊤) (λ n. n ∷ []) (λ b. length b ≡ 1) (λ b. b) (λ n. n ∷ []) c.in_err-byte.field-0.0 _ (λ a q. refl) (λ a q. refl) c.in_err-byte.ensures.reads)
