-- `kept` hands what C holds to its pointer. Assumes `Logic`.
use Rattle.vdb_c.proofs.Common.{◌≡◌, List, [], ◌∷◌, ◌++◌, refl, sym, subst, Val, SProp, ent, emp, id⊢, WpFn, fact, fact_i, tables, ‵, raw, ◌⊛◌, ◌$◌, ◌∵◌, !, qed, by, move, keep, split, fsplit, fjoin, use0, suffices, rewrite, agg, sub, whole, stop, fld, of_opd, no_more, and_then, returns, enter, alloc_all, pass_all, free_all, look_at, get, get_in, sets, yes, layout, RattleType, owns, types_at, plain, nothing, alive, Stays, stay_dropped, walk_of, Goes-blank, Ptr-Good, heap_val, heap_Tells, proved_at, leaves, ghosts}
use Rattle.std.proofs.alloc.Global.TheLaws as heap_laws
use Rattle.std.specs.contracts.alloc.Global as heap
use Rattle.vdb_c.specs.HeldScene.{Row}
use Rattle.vdb_c.proofs.Pointers.{pointer_val, pointer_fits, beside_val, beside_fits}
use Rattle.vdb_c.proofs.KeptValues.{kept_in}
use Rattle.vdb_c.proofs.HeldSceneValues.{HeldScene, held_scene_out}
use Rattle.vdb_c.specs.contracts.handles.held_scene.HeldScene.kept.{ended, clauses}
use Rattle.vdb_c.specs.contracts.handles.held_scene.HeldScene.kept.Key.{name as #self}
use Rattle.vdb_c.proofs.handles.held_scene.HeldScene.kept.Statement.{statement}
use Rattle.vdb_c.proofs.handles.held_scene.HeldScene.kept.Code as code

abbrev Heap : RattleType
Heap = heap.the_row

pub kept_spec : {M : Type 1} → statement M
kept_spec 𝓤 𝓛 𝓜 𝓡 wired =
    let 𝓣 = tables 𝓤 𝓛.H 𝓜 𝓡 𝓡.env in let fn = code.function in let c = clauses 𝓛 𝓜.mem 𝓡.returns in
    let stays : Stays ended.signature.params ended.kept = (stay_dropped (plain (λ _. HeldScene)) yes, (stay_dropped (plain (λ _. Heap)) yes, tt)) in
    proved_at 𝓛 ended stays c 𝓜 𝓡 (Goes-blank 𝓛 0 (plain (λ _. HeldScene)) yes (λ κs x f. tt), (Goes-blank 𝓛 0 (plain (λ _. Heap)) yes (λ κs x f. tt), tt)) #self fn (code.unfolded 𝓤 𝓛.H 𝓜 𝓡 wired) (λ z are.
    let given = z.0.3.0 in let alloc = z.0.3.1.0 in let p = given.at in let Post : Val → SProp 𝓤 = (walk_of 𝓛 ended stays c).post z in
    let Run : List Val → SProp 𝓤 = λ vs. WpFn 𝓤 𝓛.H 𝓣.C 𝓣.Λ fn vs Post in let also = heap_Tells alloc z.0.4.1.0 are.1.0 in
    qed 𝓛 ((raw (alive 𝓛 ended.signature z.0.0 z.0.1) ⊛ ‵ (owns (types_at ended.signature.params z.0.0) z.0.3 z.0.4)) ∷ raw ((c z.0.0 z.0.3).requires z.1) ∷ []) ∵
    split ! $ move ! (1 ∷ []) $ fsplit ! $ held_scene_out ! given z.0.4.0 (λ is. move ! (1 ∷ []) $ fsplit ! $ rewrite ! 0 (λ (us : List Val). ‵ (Heap.own_val alloc us)) also refl $ keep ! (2 ∷ 0 ∷ 3 ∷ []) $
    -- [what C holds; the allocator; the tokens]
    let vs : List Val = pointer_val p ∷ heap_val ∷ [] in
    suffices ! (Run vs) (subst (λ (us : List Val). ent 𝓤 (Run vs) (Run us)) (sym (λ i. is i ++ (also i ++ []))) (id⊢ 𝓤 (Run vs))) $
    enter ! 𝓣.C 𝓣.Λ fn vs Post $ alloc_all ! (λ l. pass_all ! refl (pointer_fits p, ((tt, ((tt, tt), tt)), tt)) $
    sets ! (of_opd ! (get_in ! (fld ! refl (stop !)) (sub ! 0 refl (whole !)))) refl (Ptr-Good p) $
    sets ! (of_opd ! (get ! refl)) refl (Ptr-Good p) $
    sets ! (agg ! (and_then ! (get ! refl) (and_then ! (get ! refl) (no_more !)))) refl (beside_fits (layout Heap) p heap_val (tt, ((tt, tt), tt))) $
    returns ! (look_at ! 0 refl) $ free_all ! refl $ kept_in Row Heap heap_laws.the_row_laws ghosts ! p heap_val alloc given.held $
    use0 𝓛 (raw (fact 𝓤 (given.held ≡ given.held))) (fact_i 𝓤 (given.held ≡ given.held) (emp 𝓤) refl) $
    nothing ! $ nothing ! $ fjoin ! $ nothing ! $ fjoin ! $ move ! (3 ∷ 0 ∷ 2 ∷ 1 ∷ []) $
    by ! (leaves 𝓛 ended stays c z (beside_val p heap_val) (record { at = p; alloc = alloc; held = given.held }) (tt, (tt, tt)) (tt, (tt, tt))))))
