-- `split_off` cuts a row of free places in two. Assumes `Logic`.
use Rattle.vdb_pool.proofs.Common.{◌≡◌, List, [], ◌∷◌, ◌++◌, take, refl, w64, Fn, inst_fn, Val, vptr, vint, SProp, emp, ftrue, flft, Env, WpFn, fact, fact_i, ◌⊑◌, tables, Item, ‵, raw, ◌⊛◌, prop, ◌$◌, ◌∵◌, !, qed, by, move, keep, use0, use1, split, join, rewrite, regoal, fsplit, fsplit3, fjoin, fjoin3, feq_i, agg, and_then, no_more, returns, enter, alloc_all, pass_all, free_all, look_at, get, sets, env, yes, owns, plain, types_at, nothing, heard, opens, closes, Clauses, Ended, Stays, stay_dropped, stay_ref, walk_of, Goes-dropped, Goes-ref, El, R, args, proved_at, leaves, storage_owns}
use Rattle.std.proofs.Common.{drop}
use types.Kit.{drop as skip}
use Rattle.vdb_pool.proofs.Places.{cut}
use Rattle.vdb_pool.proofs.Walks.{slot, Store, Mark, mark_val, mark_made}
use Rattle.vdb_pool.specs.contracts.storage.Storage.split_off as F
use Rattle.vdb_pool.specs.contracts.storage.Storage.split_off.Key.{name as #self}
use Rattle.vdb_pool.proofs.storage.Storage.split_off.Statement.{statement}
use Rattle.vdb_pool.proofs.storage.Storage.split_off.Code as code

pub split_off_spec : {M : Type 1} → statement M
split_off_spec 𝓤 𝓛 𝓜 𝓡 wired X LX =
    let E : El = record { row = X; laws = LX } in
    let T : Ended = F.ended X in
    let c : Clauses 𝓤 T = F.clauses X 𝓛 𝓜.mem 𝓡.returns in
    let fn : Fn = inst_fn (args E) code.function in
    let C = (tables 𝓤 𝓛.H 𝓜 𝓡 𝓡.env).C in
    let Λ = (tables 𝓤 𝓛.H 𝓜 𝓡 𝓡.env).Λ in
    let from = slot 1 T.signature.params in
    let stays : Stays T.signature.params T.kept = (stay_ref (0 ∷ []) tt (plain (λ _. Store E)), (stay_dropped from yes, tt)) in
    proved_at 𝓛 T stays c 𝓜 𝓡
    (Goes-ref 𝓛 2 0 tt (plain (λ _. Store E)), (Goes-dropped 𝓛 2 from yes (λ κs x f. refl), tt))
    (#self (args E)) fn (code.unfolded 𝓤 𝓛.H 𝓜 𝓡 wired (X, tt)) (λ y are.
    let Post : Val → SProp 𝓤 = (walk_of 𝓛 T stays c).post y in
    let κs = y.0.0 in let qs = y.0.1 in let a = y.0.3 in let vss = y.0.4 in
    let s = a.0.now in let rb = a.0.ref_ptr.0 in let ro = a.0.ref_ptr.1 in let n = a.1.0 in
    let Alive : Item 𝓤 = ‵ (flft κs.0 qs.0) ⊛ ‵ (flft κs.1.0 qs.1.0) ⊛ ‵ ftrue in
    qed 𝓛 ((Alive ⊛ ‵ (owns (types_at T.signature.params κs) a vss)) ∷ (raw (fact 𝓤 (κs.1.0 ⊑ X.lives)) ⊛ raw (fact 𝓤 (s.items ≡ []))) ∷ []) ∵
    move ! (1 ∷ []) $ split ! $ skip ! $ heard ! _ (λ empty. split ! $ move ! (1 ∷ []) $
    fsplit ! $ move ! (1 ∷ []) $ skip ! $ fsplit3 ! $ skip ! $ move ! (2 ∷ []) $ split ! $ keep ! (2 ∷ 3 ∷ 0 ∷ 1 ∷ []) $
    let passed : vss.0 ≡ vptr rb ro ∷ [] = are.0.0 in
    let passed₁ : vss.1.0 ≡ vint w64 n ∷ [] = are.1.0.0 in
    let new : (Store E).Denot = record { mark = s.mark; places = take n s.places; items = [] } in
    let rest : (Store E).Denot = record { mark = s.mark; places = drop n s.places; items = [] } in
    let Keeps : Type 0 = (new.places ≡ take n s.places) × (new.items ≡ []) in
    let Gives : Type 0 = (rest.places ≡ drop n s.places) × (rest.items ≡ []) in
    regoal ! (λ (us : List Val). prop (WpFn 𝓤 𝓛.H C Λ fn us Post)) (λ j. passed j ++ (passed₁ j ++ [])) refl $
    enter ! C Λ fn (vptr rb ro ∷ vint w64 n ∷ []) Post $
    alloc_all ! (λ l. pass_all ! refl ((tt, tt), ((tt, record { fits = are.1.0.1 }), tt)) $
    let En : Env 𝓤 𝓛.H = env fn.locals l in
    opens ! tt (Store E) {h = s} rb ro (λ vs. move ! (1 ∷ []) $ fsplit ! $ move ! (1 ∷ []) $
    rewrite ! 0 (λ (xs : List X.Denot). ‵ (storage_owns (R E) s.places xs)) empty refl $
    use1 𝓛 (‵ (storage_owns (R E) new.places []) ⊛ ‵ (storage_owns (R E) rest.places [])) (cut (R E) 𝓛 n s.places) $ split ! $
    -- [the first places; the others; the mark; the storage's cell; the open borrow, in three entries; the other token; the locals]
    sets ! (agg ! (no_more !)) refl (tt, tt) $ sets ! (agg ! (and_then ! (get ! refl) (no_more !))) refl (tt, (tt, tt)) $
    move ! (2 ∷ 0 ∷ []) $ fjoin ! $ move ! (2 ∷ 0 ∷ 3 ∷ 4 ∷ 5 ∷ []) $ closes ! tt (Store E) new vs rb ro $
    returns ! (look_at ! 0 refl) $ free_all ! refl $
    -- [two parts of the `&mut`; its token; the other places; the other token]
    feq_i ! (List Val) vss.0 (vptr rb ro ∷ []) passed $ fjoin3 ! $ nothing ! $ nothing ! $ fjoin ! $ move ! (1 ∷ 0 ∷ []) $ fjoin ! $
    move ! (2 ∷ []) $ use0 𝓛 (‵ ((Mark E).own_val (tt, tt) (mark_val ∷ []))) (mark_made E 𝓛) $ fjoin ! $
    use0 𝓛 (raw (fact 𝓤 Gives)) (fact_i 𝓤 Gives (emp 𝓤) (refl, refl)) $ use0 𝓛 (raw (fact 𝓤 Keeps)) (fact_i 𝓤 Keeps (emp 𝓤) (refl, refl)) $ join ! $
    move ! (3 ∷ 4 ∷ []) $ join ! $ move ! (0 ∷ 3 ∷ 2 ∷ 1 ∷ []) $
    by ! (leaves 𝓛 T stays c y mark_val rest (new, (tt, tt)) (tt, (tt, tt)))))))
