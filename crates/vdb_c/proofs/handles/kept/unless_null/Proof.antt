-- `unless_null` tests the pointer, which only a box's lets it do, and a null pointer owns nothing. Assumes `Logic`.
use Rattle.vdb_c.proofs.Common.{◌≡◌, List, [], ◌∷◌, ◌++◌, refl, sym, ap, ◌∙◌, subst, lit<, Args, a_type, dcons, dnil, inst_fn, Val, of_list, has_ty, WT, ftrue, flft, SProp, ent, emp, never, fst∗, id⊢, WpFn, ‵, raw, ◌⊛◌, given, prop, at_ret, ◌$◌, ◌∵◌, !, qed, by, move, keep, drop, split, fsplit, join, fjoin, use0, use1, suffices, rewrite, feq_l, learn, sem, live, stop, fld, lit, of_opd, bin, no_more, and_then, first, branches, skips, exec, returns, returns_within, enter, alloc_all, pass_all, free_all, look_at, get, get_in, sets, env, agg, sub, whole, fact, fact_i, tables, no, lone, param, layout, bounded, RattleType, owns, Ptr, block_ptr, null_ptr, Testable, tests_null, in_a_block, types_at, plain, nothing, Stays, stay_dropped, walk_of, Goes-blank, after, Ptr-Good, Some-of, none_of, proved_at, leaves, IsSome, ghosts, box_owns, freeing, owns_boxed}
use lib.Dec.{T as T'}
use mir.Raw.{raw as bare}
use types.Kit.{Sq}
use Rattle.std.proofs.alloc.Global.TheLaws as heap_laws
use Rattle.std.specs.Prelude.{IfSome, IfNone}
use Rattle.std.specs.contracts.alloc.Global as heap
use Rattle.std.specs.contracts.option.Option as optional
use Rattle.std.specs.declared.option.Option.{Option}
use Rattle.std.specs.declared.option.Option.TheVariants.{None, Some}
use Rattle.vdb_c.proofs.Pointers.{beside_val, beside_fits, all_one, is_testable, either}
use Rattle.vdb_c.proofs.KeptValues.{Kept, kept_in, kept_out}
use Rattle.vdb_c.specs.contracts.handles.kept.unless_null.{ended, clauses}
use Rattle.vdb_c.specs.contracts.handles.kept.unless_null.Key.{name as #self}
use Rattle.vdb_c.proofs.handles.kept.unless_null.Statement.{statement}
use Rattle.vdb_c.proofs.handles.kept.unless_null.Code as code

pub unless_null_spec : {M : Type 1} → statement M
unless_null_spec 𝓤 𝓛 𝓜 𝓡 wired T LT dx glue =
    let H = 𝓛.H in let 𝓣 = tables 𝓤 H 𝓜 𝓡 𝓡.env in let R : RattleType = param 0 T in let Heap = heap.the_row in
    let One : RattleType = Kept R Heap heap_laws.the_row_laws ghosts in let Optional : RattleType = optional.the_row One in
    let End = ended T dx in let c = clauses T dx 𝓛 𝓜.mem 𝓡.returns in
    let at_T : Args = bounded (a_type ∷ []) (T, tt) (dcons dx dnil) in let fn = inst_fn at_T code.function in
    let stays : Stays End.signature.params End.kept = (stay_dropped (plain (λ _. One)) no, tt) in
    proved_at 𝓛 End stays c 𝓜 𝓡 (Goes-blank 𝓛 1 (plain (λ _. One)) no (λ κs x f. tt), tt) (#self at_T) fn (code.unfolded 𝓤 H 𝓜 𝓡 wired (T, tt) dx) (λ z are.
    let κs = z.0.0 in let qs = z.0.1 in let kept = z.0.3.0 in let alloc = kept.alloc in let p = kept.at in let held : Option T.Denot = kept.held in
    let Post : Val → SProp 𝓤 = (walk_of 𝓛 End stays c).post z in let Run : List Val → SProp 𝓤 = λ vs. WpFn 𝓤 H 𝓣.C 𝓣.Λ fn vs Post in
    let tokens = ‵ (flft κs.0 qs.0) ⊛ ‵ ftrue in
    let Says : Optional.Denot → Type 0 = λ r. IfSome r (λ same. (same.held ≡ held) × IsSome same.held) × IfNone r (held ≡ None) in
    let some_fits : (v : Val) → T' (has_ty (layout One) v) × WT v → T' (has_ty (layout Optional) (live 1 (of_list (v ∷ [])))) × WT (live 1 (of_list (v ∷ []))) = λ v fits.
    (all_one (has_ty (layout One) v) fits.0, (record { fits = lit< tt }, (fits.1, tt))) in
    -- both ways end so
    let ends : (v : Val) (r : Optional.Denot) → Says r → Sq 𝓛 (‵ (Optional.own_val r (v ∷ [])) ∷ tokens ∷ []) (prop (Post v)) = λ v r says.
    use0 𝓛 (raw (fact 𝓤 (IfSome r (λ same. (same.held ≡ held) × IsSome same.held)))) (fact_i 𝓤 (IfSome r (λ same. (same.held ≡ held) × IsSome same.held)) (emp 𝓤) says.0) $
    use0 𝓛 (raw (fact 𝓤 (IfNone r (held ≡ None)))) (fact_i 𝓤 (IfNone r (held ≡ None)) (emp 𝓤) says.1) $ move ! (1 ∷ 0 ∷ []) $ join ! $ nothing ! $ nothing ! $ fjoin ! $
    keep ! (3 ∷ 0 ∷ 2 ∷ 1 ∷ []) $ by ! (leaves 𝓛 End stays c z v r (tt, tt) (tt, tt)) in
    qed 𝓛 ((tokens ⊛ ‵ (owns (types_at End.signature.params κs) z.0.3 z.0.4)) ∷ raw ((c κs z.0.3).requires z.1) ∷ []) ∵
    split ! $ move ! (1 ∷ []) $ fsplit ! $ kept_out R Heap heap_laws.the_row_laws ghosts ! kept z.0.4.0 (λ h is fits. keep ! (0 ∷ 1 ∷ 3 ∷ []) $
    -- [what the pointer owns; the allocator; the tokens]
    let goes : (q : Ptr) → p ≡ q → ent 𝓤 (Run (beside_val q h ∷ [])) (Run (z.0.4.0 ++ [])) = λ q e.
    subst (λ (us : List Val). ent 𝓤 (Run (beside_val q h ∷ [])) (Run us)) (sym (λ i. (is ∙ ap (λ (s : Ptr). beside_val s h ∷ []) e) i ++ [])) (id⊢ 𝓤 (Run (beside_val q h ∷ []))) in
    either held
    (λ none. rewrite ! 0 (λ (o : Option T.Denot). ‵ (owns_boxed freeing R p o)) none refl $ feq_l ! (λ at_null.
    suffices ! (Run (beside_val null_ptr h ∷ [])) (goes null_ptr at_null) $
    enter ! 𝓣.C 𝓣.Λ fn (beside_val null_ptr h ∷ []) Post $ alloc_all ! (λ l. pass_all ! refl (beside_fits (layout Heap) null_ptr h fits, tt) $
    sets ! (of_opd ! (get_in ! (fld ! refl (stop !)) (sub ! 0 refl (whole !)))) refl (Ptr-Good null_ptr) $
    sets ! (of_opd ! (get_in ! (fld ! refl (stop !)) (sub ! 1 refl (whole !)))) refl fits $
    sets ! (bin ! (get ! refl) (lit ! tt) tt) refl (tt, tt) $
    first ! $ branches ! (get ! refl)
    (λ null. sets ! (agg ! (and_then ! (lit ! tt) (no_more !))) refl (tt, (record { fits = lit< tt }, tt)) $
    returns_within ! Post refl (look_at ! 0 refl) $ free_all ! refl $ drop ! $
    use0 𝓛 (‵ (Optional.own_val None (live 0 (of_list []) ∷ []))) (none_of 𝓛 One) $ ends (live 0 (of_list [])) None (tt, none))
    (λ other. absurd other))))
    (λ x one. rewrite ! 0 (λ (o : Option T.Denot). ‵ (owns_boxed freeing R p o)) one refl $
    use1 𝓛 (given (Testable p) (‵ (box_owns freeing R p x))) (is_testable 𝓛 R p x) $ learn ! (λ may.
    in_a_block ! p (λ q. box_owns freeing R q x) (fst∗ 𝓤 (never 𝓤) (sem 𝓛 (freeing (bare (lone R.mir)) null_ptr))) (λ b o at_block.
    let q : Ptr = block_ptr b o in let same : One.Denot = record { at = q; alloc = alloc; held = Some x } in let v : Val = beside_val q h in let v_fits = beside_fits (layout Heap) q h fits in
    suffices ! (Run (v ∷ [])) (goes q at_block) $
    enter ! 𝓣.C 𝓣.Λ fn (v ∷ []) Post $ alloc_all ! (λ l. pass_all ! refl (v_fits, tt) $
    sets ! (of_opd ! (get_in ! (fld ! refl (stop !)) (sub ! 0 refl (whole !)))) refl (Ptr-Good q) $
    sets ! (of_opd ! (get_in ! (fld ! refl (stop !)) (sub ! 1 refl (whole !)))) refl fits $
    sets ! (bin ! (get ! refl) (lit ! tt) (tests_null q (subst Testable at_block may))) refl (tt, tt) $
    first ! $ branches ! (get ! refl) (λ null. absurd null)
    (λ other. skips ! $ exec ! 𝓣.C 𝓣.Λ (env fn.locals l) (after 4 fn.body) (at_ret (env fn.locals l) Post) $
    sets ! (agg ! (and_then ! (get ! refl) (and_then ! (get ! refl) (no_more !)))) refl v_fits $
    sets ! (agg ! (and_then ! (lit ! tt) (and_then ! (get ! refl) (no_more !)))) refl (some_fits v v_fits) $
    kept_in R Heap heap_laws.the_row_laws ghosts ! q h alloc (Some x) $ use1 𝓛 (‵ (Optional.own_val (Some same) (live 1 (of_list (v ∷ [])) ∷ []))) (Some-of 𝓛 One same v) $
    returns ! (look_at ! 0 refl) $ free_all ! refl $ ends (live 1 (of_list (v ∷ []))) (Some same) ((sym one, refl), tt))))))))
