-- `new` makes a storage that owns nothing. Assumes `Logic`.
use Rattle.vdb_pool.proofs.Common.{◌≡◌, [], ◌∷◌, refl, Fn, inst_fn, Val, SProp, emp, ftrue, flft, Env, fact, fact_i, ◌⊑◌, tables, Item, ‵, raw, ◌⊛◌, ◌$◌, ◌∵◌, !, qed, by, move, keep, use0, split, fjoin, agg, and_then, no_more, returns, enter, alloc_all, pass_all, free_all, look_at, get, sets, env, nothing, Clauses, Ended, walk_of, El, args, proved_at, leaves}
use types.Kit.{drop as skip}
use Rattle.vdb_pool.proofs.Walks.{Store, Mark, mark_val, mark_made}
use Rattle.vdb_pool.specs.contracts.storage.Storage.new as F
use Rattle.vdb_pool.specs.contracts.storage.Storage.new.Key.{name as #self}
use Rattle.vdb_pool.proofs.storage.Storage.new.Statement.{statement}
use Rattle.vdb_pool.proofs.storage.Storage.new.Code as code

pub new_spec : {M : Type 1} → statement M
new_spec 𝓤 𝓛 𝓜 𝓡 wired X LX =
    let E : El = record { row = X; laws = LX } in
    let T : Ended = F.ended X in
    let c : Clauses 𝓤 T = F.clauses X 𝓛 𝓜.mem 𝓡.returns in
    let fn : Fn = inst_fn (args E) code.function in
    let C = (tables 𝓤 𝓛.H 𝓜 𝓡 𝓡.env).C in
    let Λ = (tables 𝓤 𝓛.H 𝓜 𝓡 𝓡.env).Λ in
    proved_at 𝓛 T tt c 𝓜 𝓡 tt (#self (args E)) fn (code.unfolded 𝓤 𝓛.H 𝓜 𝓡 wired (X, tt)) (λ y are.
    let Post : Val → SProp 𝓤 = (walk_of 𝓛 T tt c).post y in
    let κs = y.0.0 in let qs = y.0.1 in
    let Alive : Item 𝓤 = ‵ (flft κs.0 qs.0) ⊛ ‵ ftrue in
    let made : (Store E).Denot = record { mark = record {}; places = []; items = [] } in
    let Said : Type 0 = (made.places ≡ []) × (made.items ≡ []) in
    qed 𝓛 ((Alive ⊛ ‵ ftrue) ∷ (raw (fact 𝓤 (κs.0 ⊑ X.lives)) ⊛ ‵ ftrue) ∷ []) ∵
    move ! (1 ∷ []) $ skip ! $ split ! $ keep ! (0 ∷ []) $
    enter ! C Λ fn [] Post $ alloc_all ! (λ l. pass_all ! refl tt $
    let En : Env 𝓤 𝓛.H = env fn.locals l in
    sets ! (agg ! (no_more !)) refl (tt, tt) $ sets ! (agg ! (and_then ! (get ! refl) (no_more !))) refl (tt, (tt, tt)) $
    returns ! (look_at ! 0 refl) $ free_all ! refl $
    nothing ! $ use0 𝓛 (‵ ((Mark E).own_val (tt, tt) (mark_val ∷ []))) (mark_made E 𝓛) $ fjoin ! $
    use0 𝓛 (raw (fact 𝓤 Said)) (fact_i 𝓤 Said (emp 𝓤) (refl, refl)) $ nothing ! $ move ! (3 ∷ 0 ∷ 2 ∷ 1 ∷ []) $
    by ! (leaves 𝓛 T tt c y mark_val made tt tt)))
