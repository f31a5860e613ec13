-- `pop` moves the last item out, and its place is free. Assumes `Logic`.
use Rattle.vdb_pool.proofs.Common.{◌≡◌, List, [], ◌∷◌, ◌++◌, length, get_or, refl, sym, ap, ◌∙◌, full_share, Fn, inst_fn, Val, vptr, SProp, emp, never, id⊢, ftrue, froom, flft, Env, WpFn, fact, fact_i, ◌⊑◌, tables, Item, ‵, raw, ◌⊛◌, some, pick, prop, at_ret, ◌$◌, ◌∵◌, !, qed, by, move, keep, drop, use0, use1, use2, split, join, rewrite, regoal, fsplit, fsplit3, fjoin, fjoin3, feq_i, whole, sub, stop, fld, of_opd, first, blocks, exec, returns, enter, alloc_all, pass_all, free_all, look_at, get, get_in, through, sets, sets_last, is, env, no, owns, Ptr, block_ptr, null_ptr, ptr_val, lies_at, room_for, in_a_block, plain, types_at, Is, nothing, heard, opens, closes, Clauses, Ended, Stays, stay_dropped, stay_ref, walk_of, Goes-dropped, Goes-ref, El, R, args, elτ, lawful, proved_at, leaves, as_raw, after, word-Good, storage_owns, with_items}
use mir.Raw.{raw as bare}
use base.Fml.{fat}
use borrow.Table.OneValue.{part_out}
use types.Run.{load, look}
use denote.Laws.{shows}
use denote.Steps.{peeks}
use Rattle.vdb_pool.specs.internal.Rows.{IsLastAt}
use Rattle.vdb_pool.proofs.Places.{split_last, around, last_out, free_in}
use Rattle.vdb_pool.proofs.Walks.{slot, Store, addr_val, addr_told}
use Rattle.vdb_pool.specs.contracts.storage.Storage.pop as F
use Rattle.vdb_pool.specs.contracts.storage.Storage.pop.Key.{name as #self}
use Rattle.vdb_pool.proofs.storage.Storage.pop.Statement.{statement}
use Rattle.vdb_pool.proofs.storage.Storage.pop.Code as code

pub pop_spec : {M : Type 1} → statement M
pop_spec 𝓤 𝓛 𝓜 𝓡 wired X LX =
    let E : El = record { row = X; laws = LX } in
    let T : Ended = F.ended X in
    let c : Clauses 𝓤 T = F.clauses X 𝓛 𝓜.mem 𝓡.returns in
    let fn : Fn = inst_fn (args E) code.function in
    let C = (tables 𝓤 𝓛.H 𝓜 𝓡 𝓡.env).C in
    let Λ = (tables 𝓤 𝓛.H 𝓜 𝓡 𝓡.env).Λ in
    let at = slot 1 T.signature.params in
    let stays : Stays T.signature.params T.kept = (stay_ref (0 ∷ []) tt (plain (λ _. Store E)), (stay_dropped at no, tt)) in
    proved_at 𝓛 T stays c 𝓜 𝓡
    (Goes-ref 𝓛 2 0 tt (plain (λ _. Store E)), (Goes-dropped 𝓛 2 at no (λ κs x f. refl), tt))
    (#self (args E)) fn (code.unfolded 𝓤 𝓛.H 𝓜 𝓡 wired (X, tt)) (λ y are.
    let Post : Val → SProp 𝓤 = (walk_of 𝓛 T stays c).post y in
    let κs = y.0.0 in let qs = y.0.1 in let a = y.0.3 in let vss = y.0.4 in
    let s = a.0.now in let rb = a.0.ref_ptr.0 in let ro = a.0.ref_ptr.1 in let p = a.1.0.pointer in
    let Asked : Type 0 = IsLastAt s.places s.items p in
    let Alive : Item 𝓤 = ‵ (flft κs.0 qs.0) ⊛ ‵ (flft κs.1.0 qs.1.0) ⊛ ‵ ftrue in
    qed 𝓛 ((Alive ⊛ ‵ (owns (types_at T.signature.params κs) a vss)) ∷ (raw (fact 𝓤 (κs.1.0 ⊑ X.lives)) ⊛ raw (fact 𝓤 Asked)) ∷ []) ∵
    move ! (1 ∷ []) $ split ! $ drop ! $ heard ! _ (λ asked. split ! $ move ! (1 ∷ []) $
    fsplit ! $ move ! (1 ∷ []) $ drop ! $ fsplit3 ! $ drop ! $ move ! (2 ∷ []) $ split ! $ keep ! (2 ∷ 3 ∷ 0 ∷ 1 ∷ []) $
    let passed : vss.0 ≡ vptr rb ro ∷ [] = are.0.0 in
    let passed₁ : vss.1.0 ≡ addr_val p ∷ [] = addr_told E a.1.0 vss.1.0 are.1.0 in
    let parts = split_last s.items asked.0 asked.1 in
    let ys : List X.Denot = parts.0 in let x : X.Denot = parts.1 in
    let place_is : get_or s.places (length ys) null_ptr ≡ p = ap (λ n. get_or s.places n null_ptr) parts.3 ∙ sym asked.2 in
    let new : (Store E).Denot = with_items s ys in
    let Said : Type 0 = (new.places ≡ s.places) × (s.items ≡ ys ++ x ∷ []) in
    regoal ! (λ (us : List Val). prop (WpFn 𝓤 𝓛.H C Λ fn us Post)) (λ j. passed j ++ (passed₁ j ++ [])) refl $
    enter ! C Λ fn (vptr rb ro ∷ addr_val p ∷ []) Post $
    alloc_all ! (λ l. pass_all ! refl ((tt, tt), (word-Good [] p, tt)) $
    let En : Env 𝓤 𝓛.H = env fn.locals l in
    opens ! tt (Store E) {h = s} rb ro (λ vs. move ! (1 ∷ []) $ fsplit ! $ move ! (1 ∷ []) $
    rewrite ! 0 (λ (xs : List X.Denot). ‵ (storage_owns (R E) s.places xs)) parts.2 refl $
    use1 𝓛 (‵ (lies_at (R E) full_share (get_or s.places (length ys) null_ptr) x) ⊛ ‵ (around (R E) s.places ys)) (last_out (R E) 𝓛 s.places ys x) $ split ! $
    rewrite ! 0 (λ (q : Ptr). ‵ (lies_at (R E) full_share q x)) place_is refl $
    in_a_block ! p (λ q. lies_at (R E) full_share q x) (id⊢ 𝓤 (never 𝓤)) (λ b o e.
    use1 𝓛 (some (λ (v : Val). ‵ (fat full_share (elτ E) b o v) ⊛ ‵ (X.own_val x (v ∷ [])))) (part_out 𝓛 (R E) refl full_share x b o) $ pick ! (λ v. split ! $ move ! (1 ∷ []) $
    peeks ! (R E) (Is (R E)) (shows 𝓛 (R E)) x (v ∷ []) (λ is_v. move ! (1 ∷ []) $
    let good = ((lawful E 𝓛).typed x (v ∷ []) is_v).0 in
    -- [the item's cell; the item; the other places; the mark; the storage's cell; the open borrow, in three entries; the other token; the locals]
    sets ! (is ! (of_opd ! (get_in ! (fld ! refl (stop !)) (sub ! 0 refl (whole !)))) (ap ptr_val e)) refl (tt, tt) $
    first ! $ blocks ! $ sets_last ! (of_opd ! (load ! (through ! refl (stop !)) (look ! 0 refl))) refl good $ exec ! C Λ En (after 2 fn.body) (at_ret En Post) $
    sets ! (of_opd ! (get ! refl)) refl good $
    let back_at : block_ptr b o ≡ get_or s.places (length ys) null_ptr = sym e ∙ sym place_is in
    use1 𝓛 (‵ (froom (elτ E) b o)) (𝓛.laws.at_room (elτ E) b o v) $ as_raw ! (elτ E) b o $
    rewrite ! 0 (λ (q : Ptr). ‵ (room_for (bare (elτ E)) q)) back_at refl $ move ! (0 ∷ 2 ∷ []) $
    use2 𝓛 (‵ (storage_owns (R E) s.places ys)) (free_in (R E) 𝓛 s.places ys) $
    move ! (2 ∷ 0 ∷ []) $ fjoin ! $ move ! (2 ∷ 0 ∷ 3 ∷ 4 ∷ 5 ∷ []) $ closes ! tt (Store E) new vs rb ro $
    returns ! (look_at ! 0 refl) $ free_all ! refl $
    -- [two parts of the `&mut`; its token; the item; the other token]
    feq_i ! (List Val) vss.0 (vptr rb ro ∷ []) passed $ fjoin3 ! $ nothing ! $ nothing ! $ fjoin ! $ move ! (1 ∷ 0 ∷ []) $ fjoin ! $
    use0 𝓛 (raw (fact 𝓤 Said)) (fact_i 𝓤 Said (emp 𝓤) (refl, parts.2)) $
    move ! (2 ∷ 4 ∷ []) $ join ! $ move ! (0 ∷ 2 ∷ 3 ∷ 1 ∷ []) $
    by ! (leaves 𝓛 T stays c y v x (new, (tt, tt)) (tt, (tt, tt))))))))))
