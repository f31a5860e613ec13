-- `allocate` turns a new block into a row of free places, and keeps the right to give it back. Assumes `Logic`.
use Rattle.vdb_pool.proofs.Common.{◌≡◌, ℕ, ◌*◌, ◌<◌, ◌^◌, List, [], ◌∷◌, ◌++◌, refl, sym, ap, subst, arith, w64, type_size, Fn, ty_array, inst_fn, Val, vptr, vint, vstruct, vcons, vnil, SProp, emp, ftrue, flft, Incl-trans, align, capped, capped_fits, Env, WpFn, fact, fact_i, ◌⊑◌, tables, Item, ‵, raw, ◌⊛◌, later, await, prop, at_ret, ◌$◌, ◌∵◌, !, qed, by, move, drop, use0, use1, use2, split, join, regoal, fsplit, fjoin, feq_i, flt_i, whole, agg, stop, fld, of_opd, bin, size_word, align_word, and_then, no_more, first, exec, returns, enter, alloc_all, pass_all, free_all, look_at, get, get_in, sets, sets_last, is, env, yes, Is, RattleType, owns, Ptr, block_ptr, types_at, nothing, heard, Struct, Tuple, Clauses, Ended, framed, Stays, stay_dropped, walk_of, Goes-dropped, Al, El, R, elτ, uncapped, block_ty, block_size, block_align, proved_at, leaves, as_written, word-Good, after, storage_owns, row_from}
use Rattle.std.proofs.Common.{true, false, IfOk, Ok, Err, lit<}
use Rattle.std.specs.Vec.Ownership.{FitsInBlock}
use mir.Syntax.{Body}
use prog.Wp.{Wp, after_seq, at_return}
use types.Kit.{any_q, Post as After, use3}
use types.Match.{live, vrt, in_variant}
use types.Run.{lit, switches_on}
use types.ByLocal.{get_tag, lands_as}
use denote.Param.{layout}
use denote.Steps.{owned}
use denote.Struct.Declared as Declared
use denote.Struct.Struct.{Struct-Makes}
use denote.Triple.Call.{calls_at}
use Rattle.core.proofs.alloc.Calls.{Answer-typed, Takes, at_takes, Answered, Takes-goes, Takes-gives, answers}
use Rattle.core.proofs.slots.Leases.{args, P}
use Rattle.core.specs.contracts.alloc.AllocError as refusal
use Rattle.core.specs.contracts.result.Result as outcome
use Rattle.std_alloc.proofs.RcSteps.{Good, first_Good}
use Rattle.std_alloc.proofs.ResultValues.{ok_of, err_of}
use Rattle.std_alloc.proofs.VecSteps.Shapes.{head, arm_body}
use Rattle.vdb_pool.proofs.Places.{of_room}
use Rattle.vdb_pool.proofs.Walks.{slot, Addr, Store, Mark, addr_val, addr_made, mark_val, mark_made, three_val, three_made}
use Rattle.vdb_pool.specs.contracts.storage.Block as block
use Rattle.vdb_pool.specs.contracts.storage.allocate as F
use Rattle.vdb_pool.specs.contracts.storage.allocate.Key.{name as #self}
use Rattle.vdb_pool.proofs.storage.allocate.Statement.{statement}
use Rattle.vdb_pool.proofs.storage.allocate.Code as code

pub allocate_spec : {M : Type 1} → statement M
allocate_spec 𝓤 𝓛 𝓜 𝓡 wired X W LX LW ghosts dict drops met met_drops =
    let E : El = record { row = X; laws = LX } in
    let Z : Al = record { row = W; laws = LW; g = ghosts; d = dict; drops = drops } in
    let T : Ended = F.ended X W ghosts dict drops in
    let c : Clauses 𝓤 T = F.clauses X W ghosts dict drops 𝓛 𝓜.mem 𝓡.returns in
    let fn : Fn = inst_fn (args E Z) code.function in
    let C = (tables 𝓤 𝓛.H 𝓜 𝓡 𝓡.env).C in
    let Λ = (tables 𝓤 𝓛.H 𝓜 𝓡 𝓡.env).Λ in
    let alloc = slot 0 T.signature.params in let count = slot 1 T.signature.params in
    let stays : Stays T.signature.params T.kept = (stay_dropped alloc yes, (stay_dropped count yes, tt)) in
    let Blk : RattleType = block.the_row (R E) (P E Z) ghosts in
    let Three : RattleType = Tuple (Addr E ∷ Store E ∷ Blk ∷ []) in
    let Out : RattleType = outcome.the_row Three refusal.the_row in
    proved_at 𝓛 T stays c 𝓜 𝓡
    (Goes-dropped 𝓛 3 alloc yes (λ κs x f. refl), (Goes-dropped 𝓛 3 count yes (λ κs x f. refl), tt))
    (#self (args E Z)) fn (code.unfolded 𝓤 𝓛.H 𝓜 𝓡 wired (X, (W, tt)) dict drops) (λ y are.
    let Post : Val → SProp 𝓤 = (walk_of 𝓛 T stays c).post y in
    let κs = y.0.0 in let qs = y.0.1 in let a = y.0.3 in let vss = y.0.4 in
    let from = a.0.now in let rb = a.0.ref_ptr.0 in let ro = a.0.ref_ptr.1 in let n = a.1.0 in
    let Asked : Type 0 = FitsInBlock (R E) n in
    let Said : Out.Denot → Type 0 = λ r. IfOk r (λ t. (t.1.places ≡ row_from t.2.stride t.0.pointer n) × (t.1.items ≡ []) × (t.2.at ≡ t.0.pointer) × (t.2.len ≡ n) × (t.2.alloc ≡ from)) in
    let Others : Item 𝓤 = ‵ (flft κs.1.0 qs.1.0) ⊛ ‵ (flft κs.1.1.0 qs.1.1.0) ⊛ ‵ ftrue in
    qed 𝓛 (((‵ (flft κs.0 qs.0) ⊛ Others) ⊛ ‵ (owns (types_at T.signature.params κs) a vss)) ∷ (raw (fact 𝓤 (κs.1.0 ⊑ X.lives)) ⊛ (raw (fact 𝓤 (κs.1.1.0 ⊑ W.lives)) ⊛ raw (fact 𝓤 Asked))) ∷ []) ∵
    move ! (1 ∷ []) $ split ! $ drop ! $ split ! $ heard ! _ (λ within. heard ! _ (λ asked. split ! $ move ! (1 ∷ []) $
    fsplit ! $ fsplit ! $ drop ! $ move ! (1 ∷ []) $ drop ! $ move ! (1 ∷ []) $ split ! $ move ! (2 ∷ []) $
    -- [what a `&` to the allocator holds; its lifetime's token; the other tokens]
    let size : ℕ = type_size (R E) in let al : ℕ = capped (align (elτ E)) in let τ = block_ty E n in
    let small : n * size < 2 ^ 63 = asked.0 in let bytes : n * size < 2 ^ 64 = omega arith in
    let passed : vss.0 ≡ vptr rb ro ∷ [] = are.0.0 in
    let passed₁ : vss.1.0 ≡ vint w64 n ∷ [] = are.1.0.0 in
    regoal ! (λ (us : List Val). prop (WpFn 𝓤 𝓛.H C Λ fn us Post)) (λ j. passed j ++ (passed₁ j ++ [])) refl $
    enter ! C Λ fn (vptr rb ro ∷ vint w64 n ∷ []) Post $
    alloc_all ! (λ l. pass_all ! refl ((tt, tt), ((tt, record { fits = are.1.0.1 }), tt)) $
    let En : Env 𝓤 𝓛.H = env fn.locals l in
    let arms : Body = head (after 2 fn.body) in
    let then : After 𝓤 𝓛.H = any_q (after_seq 𝓤 𝓛.H (Wp 𝓤 𝓛.H C Λ En (after 3 fn.body) (at_return 𝓤 𝓛.H En Post)) (at_return 𝓤 𝓛.H En Post)) in
    let asks : (Takes Z 𝓛 𝓜.mem 𝓡.returns).Ghost = at_takes Z 𝓛 𝓜.mem 𝓡.returns κs.0 qs.0 (rb, ro) from (n * size) al τ in
    sets ! (is ! (bin ! (get ! refl) (size_word !) (record { fits = subst (λ (k : ℕ). k < 2 ^ 64) (sym (uncapped n size bytes)) bytes })) (ap (vint w64) (uncapped n size bytes))) refl (tt, record { fits = bytes }) $
    use2 𝓛 (raw ((Takes Z 𝓛 𝓜.mem 𝓡.returns).pre asks))
    (Takes-goes Z 𝓛 𝓜.mem 𝓡.returns κs.0 qs.0 (rb, ro) from (Incl-trans y.0.2.0 within) (n * size) al τ (block_size E n bytes) (block_align E n) bytes (capped_fits (align (elτ E)))) $
    calls_at ! (framed 𝓤 𝓛.H 𝓜 (tables 𝓤 𝓛.H 𝓜 𝓡 𝓡.env)) (Takes Z 𝓛 𝓜.mem 𝓡.returns) (met.allocate drops) asks (and_then ! (get ! refl) (and_then ! (get ! refl) (and_then ! (align_word !) (no_more !)))) (λ v.
    use1 𝓛 (later (raw (Answered Z 𝓛 𝓜.mem 𝓡.returns from τ v) ⊛ ‵ (flft κs.0 qs.0))) (Takes-gives Z 𝓛 𝓜.mem 𝓡.returns κs.0 qs.0 (rb, ro) from (n * size) al τ v) $ await ! tt $ split ! $
    answers Z ! 𝓜.mem 𝓡.returns from τ v
    (λ b o e.
    let p : Ptr = block_ptr b o in
    let base : (Addr E).Denot = record { pointer = p } in
    let store : (Store E).Denot = record { mark = record {}; places = row_from size p n; items = [] } in
    let blk : Blk.Denot = record { mark = record {}; at = p; len = n; stride = size; alloc = from } in
    let made : Val = three_val (addr_val p) mark_val mark_val in
    let typed : Good (layout Three) made = (tt, ((tt, tt), ((tt, tt), ((tt, tt), tt)))) in
    let typed_ok = first_Good (layout Three) made typed in
    lands_as ! e refl (Answer-typed true b o) $ first ! $ switches_on ! (get_tag ! (vrt ! refl (fld ! refl (stop !))) (whole !)) $ exec ! C Λ En (arm_body 0 arms) then $
    sets ! (of_opd ! (get_in ! (vrt ! refl (fld ! refl (stop !))) (in_variant ! 0 0 refl refl (whole !)))) refl (tt, tt) $ sets ! (of_opd ! (get ! refl)) refl (tt, tt) $
    sets ! (agg ! (and_then ! (get ! refl) (no_more !))) refl (word-Good [] p) $
    sets ! (agg ! (no_more !)) refl (tt, tt) $ sets ! (agg ! (and_then ! (get ! refl) (no_more !))) refl (tt, (tt, tt)) $
    sets ! (agg ! (no_more !)) refl (tt, tt) $ sets ! (agg ! (and_then ! (get ! refl) (no_more !))) refl (tt, (tt, tt)) $
    sets ! (agg ! (and_then ! (get ! refl) (and_then ! (get ! refl) (and_then ! (get ! refl) (no_more !))))) refl typed $
    sets_last ! (agg ! (and_then ! (lit ! tt) (and_then ! (get ! refl) (no_more !)))) refl typed_ok $
    exec ! C Λ En (after 3 fn.body) (at_ret En Post) $ sets ! (of_opd ! (get ! refl)) refl typed_ok $ returns ! (look_at ! 0 refl) $ free_all ! refl $
    -- [the room; the token of the block; the lifetime's token; the other tokens]
    move ! (1 ∷ []) $ nothing ! $ flt_i ! (n * size) (2 ^ 63) small $ fjoin ! $ feq_i ! ℕ size size refl $ fjoin ! $ fjoin ! $
    use0 𝓛 (‵ ((Mark E).own_val (tt, tt) (mark_val ∷ []))) (mark_made E 𝓛) $ fjoin ! $ move ! (1 ∷ []) $
    as_written ! (ty_array (elτ E) n) b o $ use1 𝓛 (‵ (storage_owns (R E) store.places [])) (of_room (R E) 𝓛 n b o) $
    use0 𝓛 (‵ ((Mark E).own_val (tt, tt) (mark_val ∷ []))) (mark_made E 𝓛) $ fjoin ! $
    use0 𝓛 (‵ ((Addr E).own_val base (addr_val p ∷ []))) (addr_made E 𝓛 base) $
    use3 𝓛 (‵ (Three.own_val (base, store, blk) (made ∷ []))) (three_made 𝓛 (Addr E) (Store E) Blk base store blk (addr_val p) mark_val mark_val) $
    use1 𝓛 (‵ (Out.own_val (Ok (base, store, blk)) (live 0 (vcons made vnil) ∷ []))) (ok_of 𝓛 Three refusal.the_row (base, store, blk) made) $
    use0 𝓛 (raw (fact 𝓤 (Said (Ok (base, store, blk))))) (fact_i 𝓤 (Said (Ok (base, store, blk))) (emp 𝓤) (refl, refl, refl, refl, refl)) $
    nothing ! $ nothing ! $ fjoin ! $ nothing ! $ fjoin ! $ move ! (3 ∷ 4 ∷ []) $ join ! $ move ! (0 ∷ 1 ∷ 3 ∷ 2 ∷ []) $
    by ! (leaves 𝓛 T stays c y (live 0 (vcons made vnil)) (Ok (base, store, blk)) (tt, (tt, tt)) (tt, (tt, tt))))
    (λ e.
    let Refusal : RattleType = Struct (Declared.shape refusal.the_type) in
    let none : Val = live 1 (vcons (vstruct vnil) vnil) in
    lands_as ! e refl (Answer-typed false 0 0) $ first ! $ switches_on ! (get_tag ! (vrt ! refl (fld ! refl (stop !))) (whole !)) $ exec ! C Λ En (arm_body 1 arms) then $
    sets ! (of_opd ! (get_in ! (vrt ! refl (fld ! refl (stop !))) (in_variant ! 1 0 refl refl (whole !)))) refl (tt, tt) $
    sets_last ! (agg ! (and_then ! (lit ! tt) (and_then ! (get ! refl) (no_more !)))) refl (tt, (record { fits = lit< tt }, (tt, tt))) $
    exec ! C Λ En (after 3 fn.body) (at_ret En Post) $ sets ! (of_opd ! (get ! refl)) refl (tt, (record { fits = lit< tt }, (tt, tt))) $ returns ! (look_at ! 0 refl) $ free_all ! refl $
    -- [the lifetime's token; the other tokens]
    owned ! Refusal (Is Refusal) (Struct-Makes 𝓛 (Declared.shape refusal.the_type) tt) tt (vstruct vnil ∷ []) (tt, (refl, tt)) $
    use1 𝓛 (‵ (Out.own_val (Err (record {})) (none ∷ []))) (err_of 𝓛 Three refusal.the_row (record {}) (vstruct vnil)) $
    use0 𝓛 (raw (fact 𝓤 (Said (Err (record {}))))) (fact_i 𝓤 (Said (Err (record {}))) (emp 𝓤) tt) $
    nothing ! $ nothing ! $ fjoin ! $ nothing ! $ fjoin ! $ move ! (3 ∷ 4 ∷ []) $ join ! $ move ! (0 ∷ 1 ∷ 3 ∷ 2 ∷ []) $
    by ! (leaves 𝓛 T stays c y none (Err (record {})) (tt, (tt, tt)) (tt, (tt, tt)))))))))
