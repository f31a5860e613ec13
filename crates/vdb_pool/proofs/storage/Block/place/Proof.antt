-- `place` moves an address up inside a block. Assumes `Logic`.
use Rattle.vdb_pool.proofs.Common.{◌≡◌, ℕ, ◌+◌, ◌*◌, ◌<◌, ◌^◌, List, [], ◌∷◌, ◌++◌, refl, sym, ap, ◌∙◌, arith, w64, type_size, Fn, inst_fn, Val, vptr, vint, SProp, emp, never, id⊢, ftrue, Env, WpFn, fact, fact_i, ◌⊑◌, tables, ‵, raw, ◌⊛◌, prop, at_ret, ◌$◌, ◌∵◌, !, qed, by, move, drop, use0, split, regoal, fsplit, fjoin, feq_l, flt_l, whole, sub, agg, stop, fld, of_opd, bin, and_then, no_more, first, blocks, exec, returns, enter, alloc_all, pass_all, free_all, look_at, get, get_in, sets, sets_last, is, env, yes, no, owns, Ptr, block_ptr, ptr_val, in_block, in_a_block, ◌+ₚ◌, unhide, types_at, nothing, heard, Clauses, Ended, alive, Stays, stay_dropped, walk_of, Goes-dropped, Al, El, R, proved_at, leaves, after, word-Good}
use types.Run.{size_lit}
use Rattle.core.proofs.ptr.Rows.{times_below, one_below}
use Rattle.core.proofs.slots.Leases.{args}
use Rattle.vdb_pool.proofs.Walks.{slot, Addr, addr_val, addr_told, addr_made}
use Rattle.vdb_pool.specs.contracts.storage.Block.place as F
use Rattle.vdb_pool.specs.contracts.storage.Block.place.Key.{name as #self}
use Rattle.vdb_pool.proofs.storage.Block.place.Statement.{statement}
use Rattle.vdb_pool.proofs.storage.Block.place.Code as code

pub place_spec : {M : Type 1} → statement M
place_spec 𝓤 𝓛 𝓜 𝓡 wired X W LX LW ghosts dict drops met met_drops =
    let E : El = record { row = X; laws = LX } in
    let Z : Al = record { row = W; laws = LW; g = ghosts; d = dict; drops = drops } in
    let T : Ended = F.ended X W ghosts dict drops in
    let c : Clauses 𝓤 T = F.clauses X W ghosts dict drops 𝓛 𝓜.mem 𝓡.returns in
    let fn : Fn = inst_fn (args E Z) code.function in
    let C = (tables 𝓤 𝓛.H 𝓜 𝓡 𝓡.env).C in
    let Λ = (tables 𝓤 𝓛.H 𝓜 𝓡 𝓡.env).Λ in
    let self = slot 0 T.signature.params in let base = slot 1 T.signature.params in let index = slot 2 T.signature.params in
    let stays : Stays T.signature.params T.kept = (stay_dropped self yes, (stay_dropped base no, (stay_dropped index yes, tt))) in
    proved_at 𝓛 T stays c 𝓜 𝓡
    (Goes-dropped 𝓛 3 self yes (λ κs x f. refl), (Goes-dropped 𝓛 3 base no (λ κs x f. refl), (Goes-dropped 𝓛 3 index yes (λ κs x f. refl), tt)))
    (#self (args E Z)) fn (code.unfolded 𝓤 𝓛.H 𝓜 𝓡 wired (X, (W, tt)) dict drops) (λ y are.
    let Post : Val → SProp 𝓤 = (walk_of 𝓛 T stays c).post y in
    let κs = y.0.0 in let a = y.0.3 in let vss = y.0.4 in
    let blk = a.0.now in let rb = a.0.ref_ptr.0 in let ro = a.0.ref_ptr.1 in let p = a.1.0.pointer in let i = a.1.1.0 in
    let Asked : Type 0 = (p ≡ blk.at) × (i < blk.len) in
    qed 𝓛 ((raw (alive 𝓛 T.signature κs y.0.1) ⊛ ‵ (owns (types_at T.signature.params κs) a vss)) ∷ (raw (fact 𝓤 (κs.1.0 ⊑ X.lives)) ⊛ (raw (fact 𝓤 (κs.1.1.0 ⊑ W.lives)) ⊛ raw (fact 𝓤 Asked))) ∷ []) ∵
    move ! (1 ∷ []) $ split ! $ drop ! $ split ! $ drop ! $ heard ! _ (λ asked. split ! $ move ! (1 ∷ []) $
    fsplit ! $ fsplit ! $ drop ! $ move ! (1 ∷ []) $ drop ! $
    let passed : vss.0 ≡ vptr rb ro ∷ [] = are.0.0 in
    let passed₁ : vss.1.0 ≡ addr_val p ∷ [] = addr_told E a.1.0 vss.1.0 are.1.0 in
    let passed₂ : vss.1.1.0 ≡ vint w64 i ∷ [] = are.1.1.0.0 in
    regoal ! (λ (us : List Val). prop (WpFn 𝓤 𝓛.H C Λ fn us Post)) (λ j. passed j ++ (passed₁ j ++ (passed₂ j ++ []))) refl $
    enter ! C Λ fn (vptr rb ro ∷ addr_val p ∷ vint w64 i ∷ []) Post $
    alloc_all ! (λ l. pass_all ! refl ((tt, tt), (word-Good [] p, ((tt, record { fits = are.1.1.0.1 }), tt))) $
    let En : Env 𝓤 𝓛.H = env fn.locals l in
    -- [what a `&` to the block holds; the tokens; the locals]
    unhide ! $ fsplit ! $ drop ! $ fsplit ! $ feq_l ! (λ stride_is. fsplit ! $ flt_l ! (λ small.
    in_a_block ! blk.at (λ q. in_block q ftrue) (id⊢ 𝓤 (never 𝓤)) (λ b o e. drop ! $
    let size : ℕ = type_size (R E) in
    let tiny : size < 2 ^ 64 = omega (arith, one_below blk.len size (2 ^ 63) (omega (arith, asked.1)) small) in
    let far : i * size < 2 ^ 64 = omega (arith, times_below i blk.len size (2 ^ 63) (omega (arith, asked.1)) small) in
    let p_is : p ≡ block_ptr b o = asked.0 ∙ e in
    let found : Ptr = block_ptr b (i * size + o) in
    let Said : Type 0 = found ≡ p +ₚ i * blk.stride in
    let bytes : i * blk.stride ≡ i * size = ap (λ k. i * k) stride_is in
    let moved : i * size + o ≡ o + i * blk.stride = omega (arith, bytes) in
    let said : Said = ap (λ k. block_ptr b k) moved ∙ sym (ap (λ q. q +ₚ i * blk.stride) p_is) in
    sets ! (is ! (of_opd ! (get_in ! (fld ! refl (stop !)) (sub ! 0 refl (whole !)))) (ap ptr_val p_is)) refl (tt, tt) $
    first ! $ blocks ! $ sets ! (bin ! (get ! refl) (size_lit ! (record { fits = tiny })) (record { fits = far })) refl (tt, record { fits = far }) $
    sets_last ! (bin ! (get ! refl) (get ! refl) tt) refl (tt, tt) $ exec ! C Λ En (after 2 fn.body) (at_ret En Post) $
    sets ! (of_opd ! (get ! refl)) refl (tt, tt) $ sets ! (agg ! (and_then ! (get ! refl) (no_more !))) refl (word-Good [] found) $
    returns ! (look_at ! 0 refl) $ free_all ! refl $
    -- [the tokens]
    use0 𝓛 (raw (fact 𝓤 Said)) (fact_i 𝓤 Said (emp 𝓤) said) $ use0 𝓛 (‵ ((Addr E).own_val (record { pointer = found }) (addr_val found ∷ []))) (addr_made E 𝓛 (record { pointer = found })) $
    nothing ! $ nothing ! $ fjoin ! $ nothing ! $ fjoin ! $ nothing ! $ fjoin ! $ move ! (3 ∷ 0 ∷ 1 ∷ 2 ∷ []) $
    by ! (leaves 𝓛 T stays c y (addr_val found) (record { pointer = found }) (tt, (tt, (tt, tt))) (tt, (tt, (tt, tt))))))))))
