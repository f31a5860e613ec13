-- `append` joins two rows of places. Assumes `Logic`.
use Rattle.vdb_pool.proofs.Common.{◌≡◌, List, [], ◌∷◌, ◌++◌, refl, Fn, inst_fn, Val, vptr, vunit, SProp, emp, ftrue, flft, Env, WpFn, fact, fact_i, ◌⊑◌, tables, Item, ‵, raw, ◌⊛◌, prop, ◌$◌, ◌∵◌, !, qed, by, move, keep, use0, use2, split, join, rewrite, regoal, fsplit, fsplit3, fjoin, fjoin3, feq_i, of_opd, unit_lit, returns, enter, alloc_all, pass_all, free_all, look_at, sets, env, no, owns, plain, types_at, nothing, heard, opens, closes, Clauses, Ended, Stays, stay_dropped, stay_ref, walk_of, Goes-ref, Goes-blank, El, R, args, proved_at, leaves, storage_owns}
use types.Kit.{drop as skip}
use Rattle.vdb_pool.proofs.Places.{joined}
use Rattle.vdb_pool.proofs.Walks.{slot, Store, mark_val, mark_told}
use Rattle.vdb_pool.specs.contracts.storage.Storage.append as F
use Rattle.vdb_pool.specs.contracts.storage.Storage.append.Key.{name as #self}
use Rattle.vdb_pool.proofs.storage.Storage.append.Statement.{statement}
use Rattle.vdb_pool.proofs.storage.Storage.append.Code as code

pub append_spec : {M : Type 1} → statement M
append_spec 𝓤 𝓛 𝓜 𝓡 wired X LX =
    let E : El = record { row = X; laws = LX } in
    let T : Ended = F.ended X in
    let c : Clauses 𝓤 T = F.clauses X 𝓛 𝓜.mem 𝓡.returns in
    let fn : Fn = inst_fn (args E) code.function in
    let C = (tables 𝓤 𝓛.H 𝓜 𝓡 𝓡.env).C in
    let Λ = (tables 𝓤 𝓛.H 𝓜 𝓡 𝓡.env).Λ in
    let other = slot 1 T.signature.params in
    let stays : Stays T.signature.params T.kept = (stay_ref (0 ∷ []) tt (plain (λ _. Store E)), (stay_dropped other no, tt)) in
    proved_at 𝓛 T stays c 𝓜 𝓡
    (Goes-ref 𝓛 2 0 tt (plain (λ _. Store E)), (Goes-blank 𝓛 2 other no (λ κs x f. tt), tt))
    (#self (args E)) fn (code.unfolded 𝓤 𝓛.H 𝓜 𝓡 wired (X, tt)) (λ y are.
    let Post : Val → SProp 𝓤 = (walk_of 𝓛 T stays c).post y in
    let κs = y.0.0 in let qs = y.0.1 in let a = y.0.3 in let vss = y.0.4 in
    let s = a.0.now in let rb = a.0.ref_ptr.0 in let ro = a.0.ref_ptr.1 in let more = a.1.0 in
    let Alive : Item 𝓤 = ‵ (flft κs.0 qs.0) ⊛ ‵ (flft κs.1.0 qs.1.0) ⊛ ‵ ftrue in
    qed 𝓛 ((Alive ⊛ ‵ (owns (types_at T.signature.params κs) a vss)) ∷ (raw (fact 𝓤 (κs.1.0 ⊑ X.lives)) ⊛ raw (fact 𝓤 (more.items ≡ []))) ∷ []) ∵
    move ! (1 ∷ []) $ split ! $ skip ! $ heard ! _ (λ empty. split ! $ move ! (1 ∷ []) $
    fsplit ! $ move ! (1 ∷ []) $ fsplit ! $ fsplit ! $ move ! (3 ∷ []) $ fsplit3 ! $ skip ! $ move ! (5 ∷ []) $ split ! $ keep ! (2 ∷ 3 ∷ 0 ∷ 1 ∷ 5 ∷ []) $
    let passed : vss.0 ≡ vptr rb ro ∷ [] = are.0.0 in
    let passed₁ : vss.1.0 ≡ mark_val ∷ [] = mark_told E vss.1.0 are.1.0.0 in
    let new : (Store E).Denot = record { mark = s.mark; places = s.places ++ more.places; items = s.items } in
    let Said : Type 0 = (new.places ≡ s.places ++ more.places) × (new.items ≡ s.items) in
    rewrite ! 4 (λ (xs : List X.Denot). ‵ (storage_owns (R E) more.places xs)) empty refl $
    regoal ! (λ (us : List Val). prop (WpFn 𝓤 𝓛.H C Λ fn us Post)) (λ j. passed j ++ (passed₁ j ++ [])) refl $
    enter ! C Λ fn (vptr rb ro ∷ mark_val ∷ []) Post $
    alloc_all ! (λ l. pass_all ! refl ((tt, tt), ((tt, (tt, tt)), tt)) $
    let En : Env 𝓤 𝓛.H = env fn.locals l in
    opens ! tt (Store E) {h = s} rb ro (λ vs. move ! (1 ∷ []) $ fsplit ! $ move ! (1 ∷ 7 ∷ []) $
    -- [the storage's places; the other's; the mark; the storage's cell; the open borrow, in three entries; the other token; the locals]
    use2 𝓛 (‵ (storage_owns (R E) new.places s.items)) (joined (R E) 𝓛 s.places more.places s.items) $
    sets ! (of_opd ! (unit_lit !)) refl (tt, tt) $
    move ! (1 ∷ 0 ∷ []) $ fjoin ! $ move ! (1 ∷ 0 ∷ []) $ closes ! tt (Store E) new vs rb ro $
    returns ! (look_at ! 0 refl) $ free_all ! refl $
    -- [two parts of the `&mut`; its token; the other token]
    feq_i ! (List Val) vss.0 (vptr rb ro ∷ []) passed $ fjoin3 ! $ nothing ! $ nothing ! $ fjoin ! $ move ! (1 ∷ 0 ∷ []) $ fjoin ! $
    feq_i ! (List Val) (vunit ∷ []) (vunit ∷ []) refl $ use0 𝓛 (raw (fact 𝓤 Said)) (fact_i 𝓤 Said (emp 𝓤) (refl, refl)) $
    move ! (3 ∷ 4 ∷ []) $ join ! $ move ! (0 ∷ 3 ∷ 2 ∷ 1 ∷ []) $
    by ! (leaves 𝓛 T stays c y vunit tt (new, (tt, tt)) (tt, (tt, tt)))))))
