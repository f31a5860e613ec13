-- `get` shows one item that the storage borrows. Assumes `Logic`.
use Rattle.vdb_pool.proofs.Common.{◌≡◌, ◌<◌, List, [], ◌∷◌, ◌++◌, length, get_or, refl, sym, ap, w32, Fn, inst_fn, Val, vptr, vint, SProp, emp, never, id⊢, ftrue, Env, WpFn, fact, fact_i, ◌⊑◌, tables, ‵, raw, ◌⊛◌, prop, at_ret, ◌$◌, ◌∵◌, !, qed, by, move, drop, use0, use1, split, rewrite, regoal, fsplit, fjoin, feq_i, whole, sub, stop, fld, of_opd, addr, first, blocks, exec, returns, enter, alloc_all, pass_all, free_all, look_at, get, get_in, through, sets, sets_last, is, env, yes, no, owns, Ptr, ptr_val, null_ptr, in_block, in_a_block, unhide, types_at, nothing, heard, lent_at, Clauses, Ended, alive, Stays, stay_dropped, walk_of, Goes-dropped, El, R, args, proved_at, leaves, after, word-Good}
use denote.Memory.{shared_of}
use denote.Opens.{hide}
use denote.RawPtr.{block_of, count_of}
use Rattle.vdb_pool.proofs.Places.{some_item, same_item, item_lent}
use Rattle.vdb_pool.proofs.Walks.{slot, addr_val, addr_told}
use Rattle.vdb_pool.specs.contracts.storage.Storage.get as F
use Rattle.vdb_pool.specs.contracts.storage.Storage.get.Key.{name as #self}
use Rattle.vdb_pool.proofs.storage.Storage.get.Statement.{statement}
use Rattle.vdb_pool.proofs.storage.Storage.get.Code as code

pub get_spec : {M : Type 1} → statement M
get_spec 𝓤 𝓛 𝓜 𝓡 wired X LX =
    let E : El = record { row = X; laws = LX } in
    let T : Ended = F.ended X in
    let c : Clauses 𝓤 T = F.clauses X 𝓛 𝓜.mem 𝓡.returns in
    let fn : Fn = inst_fn (args E) code.function in
    let C = (tables 𝓤 𝓛.H 𝓜 𝓡 𝓡.env).C in
    let Λ = (tables 𝓤 𝓛.H 𝓜 𝓡 𝓡.env).Λ in
    let self = slot 0 T.signature.params in let at = slot 1 T.signature.params in let index = slot 2 T.signature.params in
    let stays : Stays T.signature.params T.kept = (stay_dropped self yes, (stay_dropped at no, (stay_dropped index yes, tt))) in
    proved_at 𝓛 T stays c 𝓜 𝓡
    (Goes-dropped 𝓛 2 self yes (λ κs x f. refl), (Goes-dropped 𝓛 2 at no (λ κs x f. refl), (Goes-dropped 𝓛 2 index yes (λ κs x f. refl), tt)))
    (#self (args E)) fn (code.unfolded 𝓤 𝓛.H 𝓜 𝓡 wired (X, tt)) (λ y are.
    let Post : Val → SProp 𝓤 = (walk_of 𝓛 T stays c).post y in
    let κs = y.0.0 in let a = y.0.3 in let vss = y.0.4 in
    let κ = κs.0 in let s = a.0.now in let rb = a.0.ref_ptr.0 in let ro = a.0.ref_ptr.1 in let p = a.1.0.pointer in let i = a.1.1.0 in
    let Asked : Type 0 = (p ≡ get_or s.places i null_ptr) × (i < length s.items) in
    qed 𝓛 ((raw (alive 𝓛 T.signature κs y.0.1) ⊛ ‵ (owns (types_at T.signature.params κs) a vss)) ∷ (raw (fact 𝓤 (κs.1.0 ⊑ X.lives)) ⊛ raw (fact 𝓤 Asked)) ∷ []) ∵
    move ! (1 ∷ []) $ split ! $ drop ! $ heard ! _ (λ asked. split ! $ move ! (1 ∷ []) $
    fsplit ! $ fsplit ! $ drop ! $ move ! (1 ∷ []) $ drop ! $
    let missing : X.Denot = some_item s.items i asked.1 in
    let x : X.Denot = get_or s.items i missing in
    let Said : Type 0 = x ≡ get_or s.items i x in
    let passed : vss.0 ≡ vptr rb ro ∷ [] = are.0.0 in
    let passed₁ : vss.1.0 ≡ addr_val p ∷ [] = addr_told E a.1.0 vss.1.0 are.1.0 in
    let passed₂ : vss.1.1.0 ≡ vint w32 i ∷ [] = are.1.1.0.0 in
    regoal ! (λ (us : List Val). prop (WpFn 𝓤 𝓛.H C Λ fn us Post)) (λ j. passed j ++ (passed₁ j ++ (passed₂ j ++ []))) refl $
    enter ! C Λ fn (vptr rb ro ∷ addr_val p ∷ vint w32 i ∷ []) Post $
    alloc_all ! (λ l. pass_all ! refl ((tt, tt), (word-Good [] p, ((tt, record { fits = are.1.1.0.1 }), tt))) $
    let En : Env 𝓤 𝓛.H = env fn.locals l in
    -- [what a `&` to the storage holds; the tokens; the locals]
    unhide ! $ fsplit ! $ drop ! $
    use1 𝓛 (‵ (lent_at (R E) (get_or s.places i null_ptr) x κ)) (item_lent (R E) 𝓛 s.places s.items i missing κ asked.1) $
    rewrite ! 0 (λ (q : Ptr). ‵ (lent_at (R E) q x κ)) (sym asked.0) refl $ fsplit ! $
    in_a_block ! p (λ q. in_block q ftrue) (id⊢ 𝓤 (never 𝓤)) (λ b o e. drop ! $
    rewrite ! 0 (λ (q : Ptr). ‵ (shared_of (R E) x (block_of q) (count_of q) κ)) e refl $ hide ! $
    sets ! (is ! (of_opd ! (get_in ! (fld ! refl (stop !)) (sub ! 0 refl (whole !)))) (ap ptr_val e)) refl (tt, tt) $
    first ! $ blocks ! $ sets_last ! (addr ! (through ! refl (stop !))) refl (tt, tt) $ exec ! C Λ En (after 2 fn.body) (at_ret En Post) $
    sets ! (of_opd ! (get ! refl)) refl (tt, tt) $ returns ! (look_at ! 0 refl) $ free_all ! refl $
    -- [what a `&` to the item holds; the tokens]
    feq_i ! (List Val) (vptr b o ∷ []) (vptr b o ∷ []) refl $ fjoin ! $
    use0 𝓛 (raw (fact 𝓤 Said)) (fact_i 𝓤 Said (emp 𝓤) (same_item s.items i missing x asked.1)) $
    nothing ! $ nothing ! $ fjoin ! $ nothing ! $ fjoin ! $ nothing ! $ fjoin ! $ move ! (3 ∷ 0 ∷ 2 ∷ 1 ∷ []) $
    by ! (leaves 𝓛 T stays c y (vptr b o) (record { ref_ptr = (b, o); now = x }) (tt, (tt, (tt, tt))) (tt, (tt, (tt, tt))))))))
