-- `place_bytes` reads the word of a type's bytes. Assumes `Logic`.
use Rattle.vdb_pool.proofs.Common.{◌≡◌, ℕ, ◌^◌, ◌<◌, List, [], ◌∷◌, refl, w64, type_size, Fn, inst_fn, Val, vint, SProp, emp, ftrue, capped_fits, capped, fact, fact_i, tables, ‵, raw, ◌⊛◌, ◌$◌, ◌∵◌, !, qed, by, keep, use0, split, fjoin, feq_i, flt_i, size_word, of_opd, returns, enter, alloc_all, pass_all, free_all, look_at, sets, nothing, Clauses, Ended, alive, walk_of, El, R, args, proved_at, leaves}
use Rattle.vdb_pool.specs.contracts.storage.place_bytes as F
use Rattle.vdb_pool.specs.contracts.storage.place_bytes.Key.{name as #self}
use Rattle.vdb_pool.proofs.storage.place_bytes.Statement.{statement}
use Rattle.vdb_pool.proofs.storage.place_bytes.Code as code

pub place_bytes_spec : {M : Type 1} → statement M
place_bytes_spec 𝓤 𝓛 𝓜 𝓡 wired X LX =
    let E : El = record { row = X; laws = LX } in
    let T : Ended = F.ended X in
    let c : Clauses 𝓤 T = F.clauses X 𝓛 𝓜.mem 𝓡.returns in
    let fn : Fn = inst_fn (args E) code.function in
    let C = (tables 𝓤 𝓛.H 𝓜 𝓡 𝓡.env).C in
    let Λ = (tables 𝓤 𝓛.H 𝓜 𝓡 𝓡.env).Λ in
    proved_at 𝓛 T tt c 𝓜 𝓡 tt (#self (args E)) fn (code.unfolded 𝓤 𝓛.H 𝓜 𝓡 wired (X, tt)) (λ y are.
    let Post : Val → SProp 𝓤 = (walk_of 𝓛 T tt c).post y in
    let bytes : ℕ = capped (type_size (R E)) in
    let fits : bytes < 2 ^ 64 = capped_fits (type_size (R E)) in
    let Said : Type 0 = bytes ≡ bytes in
    qed 𝓛 ((raw (alive 𝓛 T.signature y.0.0 y.0.1) ⊛ ‵ ftrue) ∷ raw ((c y.0.0 y.0.3).requires y.1) ∷ []) ∵
    split ! $ keep ! (0 ∷ []) $
    enter ! C Λ fn [] Post $ alloc_all ! (λ l. pass_all ! refl tt $
    sets ! (of_opd ! (size_word !)) refl (tt, record { fits = fits }) $
    use0 𝓛 (raw (fact 𝓤 Said)) (fact_i 𝓤 Said (emp 𝓤) refl) $ flt_i ! bytes (2 ^ 64) fits $
    feq_i ! (List Val) (vint w64 bytes ∷ []) (vint w64 bytes ∷ []) refl $ fjoin ! $ nothing ! $
    returns ! (look_at ! 0 refl) $ free_all ! refl $ keep ! (3 ∷ 0 ∷ 1 ∷ 2 ∷ []) $
    by ! (leaves 𝓛 T tt c y (vint w64 bytes) bytes tt tt)))
