-- `nothing` keeps a null pointer, which owns nothing.
use Rattle.vdb_c.proofs.Common.{◌≡◌, List, [], ◌∷◌, ◌++◌, refl, sym, subst, a_type, Args, dcons, dnil, inst_fn, Val, ftrue, flft, SProp, ent, emp, id⊢, WpFn, fact, fact_i, tables, ‵, raw, ◌⊛◌, ◌$◌, ◌∵◌, !, qed, by, move, keep, use0, split, fsplit, fjoin, feq_i, rewrite, suffices, agg, and_then, no_more, lit, of_opd, returns, enter, alloc_all, pass_all, free_all, look_at, get, sets, yes, param, layout, bounded, RattleType, owns, Ptr, null_ptr, types_at, plain, nothing, Stays, stay_dropped, walk_of, Goes-blank, Ptr-Good, heap_val, heap_Tells, proved_at, leaves, ghosts}
use Rattle.std.proofs.alloc.Global.TheLaws as heap_laws
use Rattle.std.specs.contracts.alloc.Global as heap
use Rattle.std.specs.declared.option.Option.{Option}
use Rattle.std.specs.declared.option.Option.TheVariants.{None}
use Rattle.vdb_c.proofs.Pointers.{beside_val, beside_fits}
use Rattle.vdb_c.proofs.KeptValues.{kept_in}
use Rattle.vdb_c.specs.contracts.handles.kept.nothing.{ended, clauses}
use Rattle.vdb_c.specs.contracts.handles.kept.nothing.Key.{name as #self}
use Rattle.vdb_c.proofs.handles.kept.nothing.Statement.{statement}
use Rattle.vdb_c.proofs.handles.kept.nothing.Code as code

pub nothing_spec : {M : Type 1} → statement M
nothing_spec 𝓤 𝓛 𝓜 𝓡 wired T LT dx glue =
    let R : RattleType = param 0 T in let Heap = heap.the_row in let End = ended T dx in let c = clauses T dx 𝓛 𝓜.mem 𝓡.returns in
    let at_T : Args = bounded (a_type ∷ []) (T, tt) (dcons dx dnil) in let fn = inst_fn at_T code.function in
    let 𝓣 = tables 𝓤 𝓛.H 𝓜 𝓡 𝓡.env in let none : Option R.Denot = None in
    let stays : Stays End.signature.params End.kept = (stay_dropped (plain (λ _. Heap)) yes, tt) in
    proved_at 𝓛 End stays c 𝓜 𝓡 (Goes-blank 𝓛 1 (plain (λ _. Heap)) yes (λ κs x f. tt), tt) (#self at_T) fn (code.unfolded 𝓤 𝓛.H 𝓜 𝓡 wired (T, tt) dx) (λ z are.
    let κs = z.0.0 in let qs = z.0.1 in let alloc = z.0.3.0 in let is = heap_Tells alloc z.0.4.0 are.0 in
    let Post : Val → SProp 𝓤 = (walk_of 𝓛 End stays c).post z in let Run : List Val → SProp 𝓤 = λ vs. WpFn 𝓤 𝓛.H 𝓣.C 𝓣.Λ fn vs Post in
    let w_fits = beside_fits (layout Heap) null_ptr heap_val (tt, ((tt, tt), tt)) in
    qed 𝓛 (((‵ (flft κs.0 qs.0) ⊛ ‵ ftrue) ⊛ ‵ (owns (types_at End.signature.params κs) z.0.3 z.0.4)) ∷ raw ((c κs z.0.3).requires z.1) ∷ []) ∵
    split ! $ move ! (1 ∷ []) $ fsplit ! $ rewrite ! 0 (λ (us : List Val). ‵ (Heap.own_val alloc us)) is refl $ keep ! (0 ∷ 2 ∷ []) $
    -- [the allocator; the tokens]
    suffices ! (Run (heap_val ∷ [])) (subst (λ (us : List Val). ent 𝓤 (Run (heap_val ∷ [])) (Run us)) (sym (λ i. is i ++ [])) (id⊢ 𝓤 (Run (heap_val ∷ [])))) $
    enter ! 𝓣.C 𝓣.Λ fn (heap_val ∷ []) Post $ alloc_all ! (λ l. pass_all ! refl ((tt, ((tt, tt), tt)), tt) $
    sets ! (of_opd ! (lit ! tt)) refl (Ptr-Good null_ptr) $
    sets ! (agg ! (and_then ! (get ! refl) (and_then ! (get ! refl) (no_more !)))) refl w_fits $
    returns ! (look_at ! 0 refl) $ free_all ! refl $
    feq_i ! Ptr null_ptr null_ptr refl $ kept_in R Heap heap_laws.the_row_laws ghosts ! null_ptr heap_val alloc none $
    use0 𝓛 (raw (fact 𝓤 (none ≡ none))) (fact_i 𝓤 (none ≡ none) (emp 𝓤) refl) $ nothing ! $ nothing ! $ fjoin ! $ move ! (3 ∷ 0 ∷ 2 ∷ 1 ∷ []) $
    by ! (leaves 𝓛 End stays c z (beside_val null_ptr heap_val) (record { at = null_ptr; alloc = alloc; held = none }) (tt, tt) (tt, tt))))
