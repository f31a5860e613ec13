-- `deallocate` turns free places into a block again, and hands it back with the allocator's token. Assumes `Logic`.
use Rattle.vdb_pool.proofs.Common.{◌≡◌, ℕ, ◌*◌, ◌<◌, ◌^◌, List, [], ◌∷◌, ◌++◌, refl, sym, ap, subst, ◌∙◌, arith, w64, type_size, Fn, ty_array, inst_fn, Val, vptr, vint, vunit, SProp, never, id⊢, ftrue, froom, flft, Incl-trans, align, capped, capped_fits, Env, WpFn, fact, ◌⊑◌, tables, Item, ‵, raw, ◌⊛◌, later, await, prop, at_ret, ◌$◌, ◌∵◌, !, qed, by, move, keep, drop, use1, split, join, group, rewrite, regoal, fsplit, fjoin, feq_i, feq_l, flt_l, whole, sub, stop, fld, unit_lit, of_opd, bin, size_word, align_word, and_then, no_more, first, blocks, exec, returns, enter, alloc_all, pass_all, free_all, look_at, get, get_in, sets, is, env, yes, no, owns, Ptr, block_ptr, ptr_val, in_block, in_a_block, types_at, nothing, heard, Clauses, Ended, framed, Stays, stay_dropped, walk_of, Goes-dropped, Al, Goes-blank, El, R, elτ, uncapped, block_ty, block_size, block_align, proved_at, leaves, as_raw, after, word-Good, storage_owns, row_from}
use lib.Dec.{T as Holds}
use mir.Raw.{raw as bare}
use mir.Syntax.{ty_unit}
use mir.Val.{has_ty, WT}
use types.Kit.{given, learn}
use types.ByLocal.{lands_last}
use denote.Triple.Call.{calls_at_last}
use Rattle.core.proofs.alloc.Calls.{token, Gives, at_gives, Gives-goes, Gives-Gives}
use Rattle.core.proofs.slots.Leases.{args}
use Rattle.vdb_pool.proofs.Places.{to_room}
use Rattle.vdb_pool.proofs.Walks.{slot, addr_val, addr_told, mark_val, mark_told}
use Rattle.vdb_pool.specs.contracts.storage.deallocate as F
use Rattle.vdb_pool.specs.contracts.storage.deallocate.Key.{name as #self}
use Rattle.vdb_pool.proofs.storage.deallocate.Statement.{statement}
use Rattle.vdb_pool.proofs.storage.deallocate.Code as code

pub deallocate_spec : {M : Type 1} → statement M
deallocate_spec 𝓤 𝓛 𝓜 𝓡 wired X W LX LW ghosts dict drops met met_drops =
    let E : El = record { row = X; laws = LX } in
    let Z : Al = record { row = W; laws = LW; g = ghosts; d = dict; drops = drops } in
    let T : Ended = F.ended X W ghosts dict drops in
    let c : Clauses 𝓤 T = F.clauses X W ghosts dict drops 𝓛 𝓜.mem 𝓡.returns in
    let fn : Fn = inst_fn (args E Z) code.function in
    let C = (tables 𝓤 𝓛.H 𝓜 𝓡 𝓡.env).C in
    let Λ = (tables 𝓤 𝓛.H 𝓜 𝓡 𝓡.env).Λ in
    let alloc = slot 0 T.signature.params in let base = slot 1 T.signature.params in let count = slot 2 T.signature.params in
    let store = slot 3 T.signature.params in let block = slot 4 T.signature.params in
    let stays : Stays T.signature.params T.kept = (stay_dropped alloc yes, (stay_dropped base no, (stay_dropped count yes, (stay_dropped store no, (stay_dropped block no, tt))))) in
    proved_at 𝓛 T stays c 𝓜 𝓡
    (Goes-dropped 𝓛 3 alloc yes (λ κs x f. refl), (Goes-dropped 𝓛 3 base no (λ κs x f. refl), (Goes-dropped 𝓛 3 count yes (λ κs x f. refl), (Goes-blank 𝓛 3 store no (λ κs x f. tt), (Goes-blank 𝓛 3 block no (λ κs x f. tt), tt)))))
    (#self (args E Z)) fn (code.unfolded 𝓤 𝓛.H 𝓜 𝓡 wired (X, (W, tt)) dict drops) (λ y are.
    let Post : Val → SProp 𝓤 = (walk_of 𝓛 T stays c).post y in
    let κs = y.0.0 in let qs = y.0.1 in let a = y.0.3 in let vss = y.0.4 in
    let from = a.0.now in let rb = a.0.ref_ptr.0 in let ro = a.0.ref_ptr.1 in let p = a.1.0.pointer in let n = a.1.1.0 in let s = a.1.1.1.0 in let blk = a.1.1.1.1.0 in
    let Asked : Type 0 = (s.places ≡ row_from blk.stride p n) × (s.items ≡ []) × (blk.at ≡ p) × (blk.len ≡ n) × (blk.alloc ≡ from) in
    let Others : Item 𝓤 = ‵ (flft κs.1.0 qs.1.0) ⊛ ‵ (flft κs.1.1.0 qs.1.1.0) ⊛ ‵ ftrue in
    qed 𝓛 (((‵ (flft κs.0 qs.0) ⊛ Others) ⊛ ‵ (owns (types_at T.signature.params κs) a vss)) ∷ (raw (fact 𝓤 (κs.1.0 ⊑ X.lives)) ⊛ (raw (fact 𝓤 (κs.1.1.0 ⊑ W.lives)) ⊛ raw (fact 𝓤 Asked))) ∷ []) ∵
    move ! (1 ∷ []) $ split ! $ drop ! $ split ! $ heard ! _ (λ within. heard ! _ (λ asked. split ! $ move ! (1 ∷ []) $
    fsplit ! $ fsplit ! $ drop ! $ move ! (1 ∷ []) $ fsplit ! $ drop ! $ fsplit ! $ drop ! $ fsplit ! $ fsplit ! $ drop ! $ move ! (1 ∷ []) $
    fsplit ! $ fsplit ! $ drop ! $ fsplit ! $ fsplit ! $ feq_l ! (λ stride_is. fsplit ! $ flt_l ! (λ all. in_a_block ! blk.at (λ q. in_block q ftrue) (id⊢ 𝓤 (never 𝓤)) (λ b o e.
    keep ! (3 ∷ 1 ∷ 4 ∷ 5 ∷ []) $ move ! (3 ∷ []) $ split ! $ move ! (2 ∷ 3 ∷ 4 ∷ []) $
    -- [the places; the token of the block; what a `&` to the allocator holds; its lifetime's token; the other tokens]
    let size : ℕ = type_size (R E) in let al : ℕ = capped (align (elτ E)) in
    let small : n * size < 2 ^ 63 = subst (λ k. k * size < 2 ^ 63) asked.3 all in let bytes : n * size < 2 ^ 64 = omega arith in
    let p_is : p ≡ block_ptr b o = sym asked.2 ∙ e in
    let passed : vss.0 ≡ vptr rb ro ∷ [] = are.0.0 in
    let passed₁ : vss.1.0 ≡ addr_val p ∷ [] = addr_told E a.1.0 vss.1.0 are.1.0 in
    let passed₂ : vss.1.1.0 ≡ vint w64 n ∷ [] = are.1.1.0.0 in
    let passed₃ : vss.1.1.1.0 ≡ mark_val ∷ [] = mark_told E vss.1.1.1.0 are.1.1.1.0.0 in
    let passed₄ : vss.1.1.1.1.0 ≡ mark_val ∷ [] = mark_told E vss.1.1.1.1.0 are.1.1.1.1.0.0 in
    let places_are : s.places ≡ row_from size (block_ptr b o) n = asked.0 ∙ (λ j. row_from (stride_is j) (p_is j) n) in
    rewrite ! 0 (λ (r : List Ptr × List X.Denot). ‵ (storage_owns (R E) r.0 r.1)) (λ j. (places_are j, asked.1 j)) refl $
    rewrite ! 1 (λ (r : W.Denot × Ptr × ℕ). ‵ (token Z r.0 (bare (ty_array (elτ E) r.2)) r.1)) (λ j. (asked.4 j, e j, asked.3 j)) refl $
    use1 𝓛 (‵ (froom (ty_array (elτ E) n) b o)) (to_room (R E) 𝓛 n b o) $ as_raw ! (ty_array (elτ E) n) b o $
    regoal ! (λ (us : List Val). prop (WpFn 𝓤 𝓛.H C Λ fn us Post)) (λ j. passed j ++ (passed₁ j ++ (passed₂ j ++ (passed₃ j ++ (passed₄ j ++ []))))) refl $
    enter ! C Λ fn (vptr rb ro ∷ addr_val p ∷ vint w64 n ∷ mark_val ∷ mark_val ∷ []) Post $
    alloc_all ! (λ l. pass_all ! refl ((tt, tt), (word-Good [] p, ((tt, record { fits = are.1.1.0.1 }), ((tt, (tt, tt)), ((tt, (tt, tt)), tt))))) $
    let En : Env 𝓤 𝓛.H = env fn.locals l in
    let hands : (Gives Z 𝓛 𝓜.mem 𝓡.returns).Ghost = at_gives Z 𝓛 𝓜.mem 𝓡.returns κs.0 qs.0 (rb, ro) from b o (n * size) al (block_ty E n) in
    first ! $ blocks ! $ sets ! (is ! (of_opd ! (get_in ! (fld ! refl (stop !)) (sub ! 0 refl (whole !)))) (ap ptr_val p_is)) refl (tt, tt) $
    sets ! (is ! (bin ! (get ! refl) (size_word !) (record { fits = subst (λ (k : ℕ). k < 2 ^ 64) (sym (uncapped n size bytes)) bytes })) (ap (vint w64) (uncapped n size bytes))) refl (tt, record { fits = bytes }) $
    group ! 4 $ use1 𝓛 (raw ((Gives Z 𝓛 𝓜.mem 𝓡.returns).pre hands))
    (Gives-goes Z 𝓛 𝓜.mem 𝓡.returns κs.0 qs.0 (rb, ro) from (Incl-trans y.0.2.0 within) b o (n * size) al (block_ty E n) (block_size E n bytes) (block_align E n) bytes (capped_fits (align (elτ E)))) $
    calls_at_last ! (framed 𝓤 𝓛.H 𝓜 (tables 𝓤 𝓛.H 𝓜 𝓡 𝓡.env)) (Gives Z 𝓛 𝓜.mem 𝓡.returns) (met.deallocate drops) hands (and_then ! (get ! refl) (and_then ! (get ! refl) (and_then ! (get ! refl) (and_then ! (align_word !) (no_more !))))) (λ v.
    use1 𝓛 (later (given (v ≡ vunit) (‵ (flft κs.0 qs.0)))) (Gives-Gives Z 𝓛 𝓜.mem 𝓡.returns κs.0 qs.0 (rb, ro) from b o (n * size) al (block_ty E n) v) $ await ! tt $ learn ! (λ v_is.
    lands_last ! refl (subst (λ (u : Val). Holds (has_ty ty_unit u) × WT u) (sym v_is) (tt, tt)) $ exec ! C Λ En (after 1 fn.body) (at_ret En Post) $
    sets ! (of_opd ! (unit_lit !)) refl (tt, tt) $ returns ! (look_at ! 0 refl) $ free_all ! refl $
    -- [the token; the other tokens]
    join ! $ nothing ! $ feq_i ! (List Val) (vunit ∷ []) (vunit ∷ []) refl $
    nothing ! $ nothing ! $ fjoin ! $ nothing ! $ fjoin ! $ nothing ! $ fjoin ! $ nothing ! $ fjoin ! $ nothing ! $ fjoin ! $ move ! (3 ∷ 0 ∷ 1 ∷ 2 ∷ []) $
    by ! (leaves 𝓛 T stays c y vunit tt (tt, (tt, (tt, (tt, (tt, tt))))) (tt, (tt, (tt, (tt, (tt, tt)))))))))))))))
