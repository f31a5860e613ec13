-- `into_box` makes a box of the pointer that is kept, which is not null.
use Rattle.vdb_c.proofs.Common.{◌≡◌, List, [], ◌∷◌, ◌++◌, refl, sym, ap, ◌∙◌, subst, Args, a_type, dcons, dnil, Val, inst_fn, SProp, ent, emp, id⊢, ftrue, flft, WpFn, ‵, raw, ◌⊛◌, some, later, at_ret, ◌$◌, ◌∵◌, !, qed, by, move, keep, drop, split, split3, join, fsplit, fjoin, pick, suffices, use0, use1, await, rewrite, feq_i, sub, whole, stop, fld, of_opd, no_more, and_then, first, blocks, exec, returns, enter, alloc_all, pass_all, free_all, look_at, get, get_in, sets, env, fact, fact_i, tables, no, param, layout, bounded, param_laws, RattleType, owns, block_ptr, ptr_val, types_at, plain, nothing, only, heard, triple_of, Stays, stay_dropped, walk_of, Goes-blank, after, fm, Ptr-Good, Good, box_out, box_in, proved_at, leaves, IsSome, owns_boxed}
use types.ByLocal.{lands_last}
use contract.BorrowLft.{◌⊑◌}
use denote.Triple.Call.{calls_at_last}
use denote.Triple.Clauses.{Lasts, lasts}
use Rattle.std_alloc.proofs.BoxSteps.Form as box
use Rattle.std.specs.declared.option.Option.{Option}
use Rattle.std.specs.declared.option.Option.TheVariants.{Some}
use Rattle.std_alloc.specs.contracts.boxed.Box.from_raw as callee
use Rattle.std_alloc.proofs.boxed.Box.from_raw.Met.{met}
use Rattle.vdb_c.proofs.Pointers.{beside_val, beside_fits, either, not_some}
use Rattle.vdb_c.proofs.KeptValues.{Kept, kept_out}
use Rattle.vdb_c.specs.contracts.handles.kept.Kept.into_box.{ended, clauses}
use Rattle.vdb_c.specs.contracts.handles.kept.Kept.into_box.Key.{name as #self}
use Rattle.vdb_c.proofs.handles.kept.Kept.into_box.Statement.{statement}
use Rattle.vdb_c.proofs.handles.kept.Kept.into_box.Code as code

pub into_box_spec : {M : Type 1} → statement M
into_box_spec 𝓤 𝓛 𝓜 𝓡 wired T A LT LA g d dx dd allocator glue glued =
    let H = 𝓛.H in let 𝓣 = tables 𝓤 H 𝓜 𝓡 𝓡.env in let R : RattleType = param 0 T in let Z : RattleType = param 1 A in let LZ = param_laws 1 A LA in
    let End = ended T A g d dx dd in let c = clauses T A g d dx dd 𝓛 𝓜.mem 𝓡.returns in
    let E : box.Bx = record { row = T; laws = LT; al = record { row = A; laws = LA; g = g; d = d; drops = dd } } in let Boxed : RattleType = box.B E in
    let at_types : Args = bounded (a_type ∷ a_type ∷ []) (T, (A, tt)) (dcons d (dcons dx (dcons dd dnil))) in let fn = inst_fn at_types code.function in
    let stays : Stays End.signature.params End.kept = (stay_dropped (plain (λ _. Kept R Z LZ g)) no, tt) in
    proved_at 𝓛 End stays c 𝓜 𝓡 (Goes-blank 𝓛 2 (plain (λ _. Kept R Z LZ g)) no (λ κs x f. tt), tt) (#self at_types) fn (code.unfolded 𝓤 H 𝓜 𝓡 wired (T, (A, tt)) d dx dd) (λ z are.
    let κs = z.0.0 in let qs = z.0.1 in let kept = z.0.3.0 in let alloc = kept.alloc in let p = kept.at in let held : Option T.Denot = kept.held in
    let Post : Val → SProp 𝓤 = (walk_of 𝓛 End stays c).post z in let Run : List Val → SProp 𝓤 = λ vs. WpFn 𝓤 H 𝓣.C 𝓣.Λ fn vs Post in
    let tokens = ‵ (flft κs.0 qs.0) ⊛ ‵ (flft κs.1.0 qs.1.0) ⊛ ‵ ftrue in let in_T = κs.0 ⊑ T.lives in let in_A = κs.1.0 ⊑ A.lives in
    qed 𝓛 ((tokens ⊛ ‵ (owns (types_at End.signature.params κs) z.0.3 z.0.4)) ∷ raw ((c κs z.0.3).requires z.1) ∷ []) ∵
    move ! (1 ∷ []) $ use1 𝓛 (raw (fact 𝓤 in_T) ⊛ raw (fact 𝓤 in_A) ⊛ raw (fact 𝓤 (IsSome held))) (id⊢ 𝓤 _) $
    split3 ! $ heard ! in_T (λ lives_T. heard ! in_A (λ lives_A. heard ! (IsSome held) (λ is_some.
    split ! $ move ! (1 ∷ []) $ fsplit ! $ kept_out R Z LZ g ! kept z.0.4.0 (λ h is fits.
    -- [what the pointer owns; the allocator; nothing; the tokens]
    either held (λ none. absurd (not_some none is_some)) (λ x one. rewrite ! 0 (λ (o : Option T.Denot). ‵ (owns_boxed (g.dealloc_token alloc) R p o)) one refl $
    let v : Val = beside_val p h in let v_fits = beside_fits (layout A) p h fits in
    let k = triple_of 𝓛 (callee.signature T A g d dd) (callee.spec T A g d dd 𝓛 𝓜.mem 𝓡.returns) in
    let y : k.Ghost = ((κs, qs, tt, (alloc, (p, tt)), (h ∷ [], (ptr_val p ∷ [], tt))), x) in
    use0 𝓛 (raw (fact 𝓤 in_A)) (fact_i 𝓤 in_A (emp 𝓤) lives_A) $ join ! $ use0 𝓛 (raw (fact 𝓤 in_T)) (fact_i 𝓤 in_T (emp 𝓤) lives_T) $ join ! $
    move ! (2 ∷ []) $ feq_i ! (List Val) (ptr_val p ∷ []) (ptr_val p ∷ []) refl $ fjoin ! $ move ! (2 ∷ 0 ∷ []) $ fjoin ! $ move ! (2 ∷ 0 ∷ []) $ join ! $ join ! $ use1 𝓛 (raw (k.pre y)) (id⊢ 𝓤 _) $
    suffices ! (Run (v ∷ [])) (subst (λ (us : List Val). ent 𝓤 (Run (v ∷ [])) (Run us)) (sym (λ i. is i ++ [])) (id⊢ 𝓤 (Run (v ∷ [])))) $
    enter ! 𝓣.C 𝓣.Λ fn (v ∷ []) Post $ alloc_all ! (λ l. pass_all ! refl (v_fits, tt) $ let locals = env fn.locals l in
    sets ! (of_opd ! (get_in ! (fld ! refl (stop !)) (sub ! 0 refl (whole !)))) refl (Ptr-Good p) $
    sets ! (of_opd ! (get_in ! (fld ! refl (stop !)) (sub ! 1 refl (whole !)))) refl fits $
    first ! $ blocks ! $ sets ! (of_opd ! (get ! refl)) refl fits $
    calls_at_last ! (fm 𝓛 𝓜 𝓡) k (met 𝓤 𝓛 𝓜 𝓡 (code.calls-std_alloc::boxed::Box::from_raw 𝓡.env wired) T A LT LA g d dd allocator glued) y (and_then ! (get ! refl) (and_then ! (get ! refl) (no_more !))) (λ u.
    use1 𝓛 (later (some (λ (r : Boxed.Denot). (tokens ⊛ ‵ (Boxed.own_val r (u ∷ []))) ⊛ some (λ (ls : Lasts (callee.ended T A g d dd) κs y.0.3).
    ‵ (lasts (callee.ended T A g d dd) κs y.0.3 ls) ⊛ (raw (fact 𝓤 (r.value ≡ x)) ⊛ raw (fact 𝓤 (r.alloc ≡ alloc))))))) (id⊢ 𝓤 (k.post y u)) $
    await ! tt $ pick ! (λ r. split ! $ move ! (1 ∷ []) $ pick ! (λ _. split3 ! $ drop ! $ heard ! (r.value ≡ x) (λ same. drop ! $ split ! $ move ! (1 ∷ []) $
    -- [the box; the tokens]
    box_out E ! r (u ∷ []) (λ b' o' h' e' us fits'. box_in E ! r b' o' r.value e' refl $ rewrite ! 0 (λ (vs : List Val). ‵ (Boxed.own_val r vs)) (sym us) refl $
    let good : Good (layout Boxed) u = subst (Good (layout Boxed)) (sym (ap only us)) (beside_fits (layout A) (block_ptr b' o') h' fits') in
    lands_last ! refl good $ exec ! 𝓣.C 𝓣.Λ locals (after 3 fn.body) (at_ret locals Post) $ sets ! (of_opd ! (get ! refl)) refl good $
    returns ! (look_at ! 0 refl) $ free_all ! refl $ let value : Some r.value ≡ held = ap Some same ∙ sym one in
    use0 𝓛 (raw (fact 𝓤 (Some r.value ≡ held))) (fact_i 𝓤 (Some r.value ≡ held) (emp 𝓤) value) $ nothing ! $ nothing ! $ fjoin ! $
    keep ! (3 ∷ 0 ∷ 2 ∷ 1 ∷ []) $ by ! (leaves 𝓛 End stays c z u r ((tt, (tt, tt)), tt) (tt, tt))))))))))))))
