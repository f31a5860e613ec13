-- `push` fills the first free place. Assumes `Logic`.
use Rattle.vdb_pool.proofs.Common.{◌≡◌, ◌<◌, List, [], ◌∷◌, ◌++◌, length, get_or, refl, sym, ap, ◌∙◌, full_share, Fn, inst_fn, Val, vptr, vunit, SProp, emp, never, id⊢, ftrue, flft, Env, WpFn, fact, fact_i, ◌⊑◌, tables, Item, ‵, raw, ◌⊛◌, prop, at_ret, ◌$◌, ◌∵◌, !, qed, by, move, keep, drop, use0, use1, use2, split, join, rewrite, regoal, fsplit, fsplit3, fjoin, fjoin3, feq_i, whole, sub, stop, fld, of_opd, unit_lit, first, blocks, exec, returns, enter, alloc_all, pass_all, free_all, look_at, get, get_in, through, sets, is, env, no, owns, Ptr, block_ptr, null_ptr, ptr_val, lies_at, room_for, in_a_block, plain, types_at, nothing, heard, opens, closes, Clauses, Ended, Stays, stay_dropped, stay_ref, walk_of, Goes-dropped, Goes-ref, El, R, args, elτ, lawful, proved_at, leaves, as_written, after, word-Good, storage_owns, with_items}
use mir.Raw.{raw as bare}
use borrow.Table.OneValue.{part_in}
use types.Run.{init, assigns_last}
use Rattle.core.proofs.mem.Param.{one}
use Rattle.vdb_pool.proofs.Places.{around, free_out, last_in}
use Rattle.vdb_pool.proofs.Walks.{slot, Store, addr_val, addr_told}
use Rattle.vdb_pool.specs.contracts.storage.Storage.push as F
use Rattle.vdb_pool.specs.contracts.storage.Storage.push.Key.{name as #self}
use Rattle.vdb_pool.proofs.storage.Storage.push.Statement.{statement}
use Rattle.vdb_pool.proofs.storage.Storage.push.Code as code

pub push_spec : {M : Type 1} → statement M
push_spec 𝓤 𝓛 𝓜 𝓡 wired X LX =
    let E : El = record { row = X; laws = LX } in
    let T : Ended = F.ended X in
    let c : Clauses 𝓤 T = F.clauses X 𝓛 𝓜.mem 𝓡.returns in
    let fn : Fn = inst_fn (args E) code.function in
    let C = (tables 𝓤 𝓛.H 𝓜 𝓡 𝓡.env).C in
    let Λ = (tables 𝓤 𝓛.H 𝓜 𝓡 𝓡.env).Λ in
    let at = slot 1 T.signature.params in let item = slot 2 T.signature.params in
    let stays : Stays T.signature.params T.kept = (stay_ref (0 ∷ []) tt (plain (λ _. Store E)), (stay_dropped at no, (stay_dropped item no, tt))) in
    proved_at 𝓛 T stays c 𝓜 𝓡
    (Goes-ref 𝓛 2 0 tt (plain (λ _. Store E)), (Goes-dropped 𝓛 2 at no (λ κs x f. refl), (Goes-dropped 𝓛 2 item no (λ κs x f. refl), tt)))
    (#self (args E)) fn (code.unfolded 𝓤 𝓛.H 𝓜 𝓡 wired (X, tt)) (λ y are.
    let Post : Val → SProp 𝓤 = (walk_of 𝓛 T stays c).post y in
    let κs = y.0.0 in let qs = y.0.1 in let a = y.0.3 in let vss = y.0.4 in
    let s = a.0.now in let rb = a.0.ref_ptr.0 in let ro = a.0.ref_ptr.1 in let p = a.1.0.pointer in let x = a.1.1.0 in
    let Asked : Type 0 = (p ≡ get_or s.places (length s.items) null_ptr) × (length s.items < length s.places) in
    let Alive : Item 𝓤 = ‵ (flft κs.0 qs.0) ⊛ ‵ (flft κs.1.0 qs.1.0) ⊛ ‵ ftrue in
    qed 𝓛 ((Alive ⊛ ‵ (owns (types_at T.signature.params κs) a vss)) ∷ (raw (fact 𝓤 (κs.1.0 ⊑ X.lives)) ⊛ raw (fact 𝓤 Asked)) ∷ []) ∵
    move ! (1 ∷ []) $ split ! $ drop ! $ heard ! _ (λ asked. split ! $ move ! (1 ∷ []) $
    fsplit ! $ move ! (1 ∷ []) $ fsplit ! $ drop ! $ fsplit ! $ move ! (2 ∷ []) $ fsplit3 ! $ drop ! $ move ! (4 ∷ []) $ split ! $ keep ! (2 ∷ 3 ∷ 0 ∷ 1 ∷ 4 ∷ []) $
    let passed : vss.0 ≡ vptr rb ro ∷ [] = are.0.0 in
    let passed₁ : vss.1.0 ≡ addr_val p ∷ [] = addr_told E a.1.0 vss.1.0 are.1.0 in
    let alone = one E vss.1.1.0 ((lawful E 𝓛).typed x vss.1.1.0 are.1.1.0) in
    let v = alone.0 in let good = alone.2 in
    let new : (Store E).Denot = with_items s (s.items ++ x ∷ []) in
    let Said : Type 0 = (new.places ≡ s.places) × (new.items ≡ s.items ++ x ∷ []) in
    rewrite ! 4 (λ (us : List Val). ‵ (X.own_val x us)) alone.1 refl $
    regoal ! (λ (us : List Val). prop (WpFn 𝓤 𝓛.H C Λ fn us Post)) (λ j. passed j ++ (passed₁ j ++ (alone.1 j ++ []))) refl $
    enter ! C Λ fn (vptr rb ro ∷ addr_val p ∷ v ∷ []) Post $
    alloc_all ! (λ l. pass_all ! refl ((tt, tt), (word-Good [] p, (good, tt))) $
    let En : Env 𝓤 𝓛.H = env fn.locals l in
    opens ! tt (Store E) {h = s} rb ro (λ vs. move ! (1 ∷ []) $ fsplit ! $ move ! (1 ∷ []) $
    use1 𝓛 (‵ (room_for (bare (elτ E)) (get_or s.places (length s.items) null_ptr)) ⊛ ‵ (around (R E) s.places s.items)) (free_out (R E) 𝓛 s.places s.items asked.1) $ split ! $
    rewrite ! 0 (λ (q : Ptr). ‵ (room_for (bare (elτ E)) q)) (sym asked.0) refl $
    in_a_block ! p (λ q. room_for (bare (elτ E)) q) (id⊢ 𝓤 (never 𝓤)) (λ b o e. as_written ! (elτ E) b o $
    -- [the room; the other places; the mark; the storage's cell; the open borrow, in three entries; the other token; the item; the locals]
    sets ! (is ! (of_opd ! (get_in ! (fld ! refl (stop !)) (sub ! 0 refl (whole !)))) (ap ptr_val e)) refl (tt, tt) $
    first ! $ blocks ! $ sets ! (of_opd ! (get ! refl)) refl good $
    assigns_last ! (of_opd ! (get ! refl)) (through ! refl (stop !)) (init ! 0 refl good) $ exec ! C Λ En (after 2 fn.body) (at_ret En Post) $
    sets ! (of_opd ! (unit_lit !)) refl (tt, tt) $
    move ! (0 ∷ 8 ∷ []) $ use2 𝓛 (‵ (lies_at (R E) full_share (block_ptr b o) x)) (part_in 𝓛 (R E) refl full_share x b o v) $
    rewrite ! 0 (λ (q : Ptr). ‵ (lies_at (R E) full_share q x)) (sym e ∙ asked.0) refl $
    use2 𝓛 (‵ (storage_owns (R E) s.places new.items)) (last_in (R E) 𝓛 s.places s.items x) $
    move ! (1 ∷ 0 ∷ []) $ fjoin ! $ move ! (1 ∷ 0 ∷ []) $ closes ! tt (Store E) new vs rb ro $
    returns ! (look_at ! 0 refl) $ free_all ! refl $
    -- [two parts of the `&mut`; its token; the other token]
    feq_i ! (List Val) vss.0 (vptr rb ro ∷ []) passed $ fjoin3 ! $ nothing ! $ nothing ! $ fjoin ! $ nothing ! $ fjoin ! $ move ! (1 ∷ 0 ∷ []) $ fjoin ! $
    feq_i ! (List Val) (vunit ∷ []) (vunit ∷ []) refl $ use0 𝓛 (raw (fact 𝓤 Said)) (fact_i 𝓤 Said (emp 𝓤) (refl, refl)) $
    move ! (3 ∷ 4 ∷ []) $ join ! $ move ! (0 ∷ 3 ∷ 2 ∷ 1 ∷ []) $
    by ! (leaves 𝓛 T stays c y vunit tt (new, (tt, (tt, tt))) (tt, (tt, (tt, tt)))))))))
