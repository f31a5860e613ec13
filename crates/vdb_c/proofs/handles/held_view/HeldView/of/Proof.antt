-- `of` hands what the pointer owns to C.
use Rattle.vdb_c.proofs.Common.{◌≡◌, List, [], ◌∷◌, ◌++◌, refl, sym, subst, Val, SProp, ent, emp, id⊢, WpFn, fact, fact_i, tables, ‵, raw, ◌⊛◌, ◌$◌, ◌∵◌, !, qed, by, move, keep, split, fsplit, fjoin, use0, suffices, agg, sub, whole, stop, fld, of_opd, no_more, and_then, returns, enter, alloc_all, pass_all, free_all, look_at, get, get_in, sets, yes, layout, RattleType, owns, types_at, plain, nothing, alive, Stays, stay_dropped, walk_of, Goes-blank, Ptr-Good, proved_at, leaves, ghosts}
use Rattle.std.proofs.alloc.Global.TheLaws as heap_laws
use Rattle.std.specs.contracts.alloc.Global as heap
use Rattle.vdb_c.specs.HeldView.{Row}
use Rattle.vdb_c.proofs.Pointers.{pointer_val, pointer_fits, beside_val, beside_fits}
use Rattle.vdb_c.proofs.KeptValues.{Kept, kept_out}
use Rattle.vdb_c.proofs.HeldViewValues.{held_view_in}
use Rattle.vdb_c.specs.contracts.handles.held_view.HeldView.of.{ended, clauses}
use Rattle.vdb_c.specs.contracts.handles.held_view.HeldView.of.Key.{name as #self}
use Rattle.vdb_c.proofs.handles.held_view.HeldView.of.Statement.{statement}
use Rattle.vdb_c.proofs.handles.held_view.HeldView.of.Code as code

abbrev One : RattleType
One = Kept Row heap.the_row heap_laws.the_row_laws ghosts

pub of_spec : {M : Type 1} → statement M
of_spec 𝓤 𝓛 𝓜 𝓡 wired =
    let 𝓣 = tables 𝓤 𝓛.H 𝓜 𝓡 𝓡.env in let fn = code.function in let c = clauses 𝓛 𝓜.mem 𝓡.returns in
    let stays : Stays ended.signature.params ended.kept = (stay_dropped (plain (λ _. One)) yes, tt) in
    proved_at 𝓛 ended stays c 𝓜 𝓡 (Goes-blank 𝓛 0 (plain (λ _. One)) yes (λ κs x f. tt), tt) #self fn (code.unfolded 𝓤 𝓛.H 𝓜 𝓡 wired) (λ z are.
    let kept = z.0.3.0 in let p = kept.at in let Post : Val → SProp 𝓤 = (walk_of 𝓛 ended stays c).post z in
    let Run : List Val → SProp 𝓤 = λ vs. WpFn 𝓤 𝓛.H 𝓣.C 𝓣.Λ fn vs Post in
    qed 𝓛 ((raw (alive 𝓛 ended.signature z.0.0 z.0.1) ⊛ ‵ (owns (types_at ended.signature.params z.0.0) z.0.3 z.0.4)) ∷ raw ((c z.0.0 z.0.3).requires z.1) ∷ []) ∵
    split ! $ move ! (1 ∷ []) $ fsplit ! $ kept_out Row heap.the_row heap_laws.the_row_laws ghosts ! kept z.0.4.0 (λ h is fits. keep ! (0 ∷ 3 ∷ []) $
    -- [what the pointer owns; the tokens]
    let vs : List Val = beside_val p h ∷ [] in
    suffices ! (Run vs) (subst (λ (us : List Val). ent 𝓤 (Run vs) (Run us)) (sym (λ i. is i ++ [])) (id⊢ 𝓤 (Run vs))) $
    enter ! 𝓣.C 𝓣.Λ fn vs Post $ alloc_all ! (λ l. pass_all ! refl (beside_fits (layout heap.the_row) p h fits, tt) $
    sets ! (of_opd ! (get_in ! (fld ! refl (stop !)) (sub ! 0 refl (whole !)))) refl (Ptr-Good p) $
    sets ! (of_opd ! (get ! refl)) refl (Ptr-Good p) $
    sets ! (agg ! (and_then ! (get ! refl) (no_more !))) refl (pointer_fits p) $
    returns ! (look_at ! 0 refl) $ free_all ! refl $ held_view_in ! p kept.held $
    use0 𝓛 (raw (fact 𝓤 (kept.held ≡ kept.held))) (fact_i 𝓤 (kept.held ≡ kept.held) (emp 𝓤) refl) $
    nothing ! $ nothing ! $ fjoin ! $ move ! (3 ∷ 0 ∷ 2 ∷ 1 ∷ []) $ by ! (leaves 𝓛 ended stays c z (pointer_val p) (record { at = p; held = kept.held }) (tt, tt) (tt, tt)))))
