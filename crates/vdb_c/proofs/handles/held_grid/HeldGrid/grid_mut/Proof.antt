-- `grid_mut` lends what the pointer owns, unless it is null. Assumes `Logic`.
use Rattle.vdb_c.proofs.Common.{◌≡◌, ℕ, List, [], ◌∷◌, ◌++◌, refl, sym, ap, subst, lit<, Ura, Val, of_list, full_share, ftrue, fsep, flft, SProp, ent, emp, never, fst∗, WpFn, fact, fact_i, tables, ‵, raw, ◌⊛◌, some, later, given, prop, at_ret, ◌$◌, ◌∵◌, !, qed, by, move, keep, drop, split, split3, join, fsplit, fjoin, fpack, pick, use0, use1, await, rewrite, feq_i, feq_l, learn, Logic, sem, live, agg, sub, whole, stop, fld, lit, of_opd, bin, no_more, and_then, first, blocks, branches, skips, exec, returns, returns_within, enter, alloc_all, pass_all, free_all, look_at, get, sets, env, no, lone, RattleType, owns, Ptr, block_ptr, null_ptr, ptr_val, lies_at, Testable, tests_null, in_a_block, types_at, plain, nothing, Stays, stay_dropped, walk_of, after, Some-of, none_of, proved_at, leaves, box_owns, freeing, owns_boxed, Row}
use Rattle.std.proofs.Common.{MutBor}
use mir.Syntax.{named}
use mir.Raw.{raw as bare}
use mir.Val.{vptr}
use base.Fml.{GName, Fml, fres}
use base.Logic.{sep}
use prog.Wp.{Env}
use types.Kit.{done, fsplit3, group, regoal}
use types.Part.{look_in}
use types.Run.{load, addr}
use types.ByLocal.{through, sets_last, is}
use denote.Follow.{follows, follows_by, lends_Part}
use denote.Memory.{mem, cell_at, part_of}
use denote.Ref.{MutRef}
use denote.Signature.{mut_ref_to}
use denote.Steps.{opens, closes}
use denote.Triple.Walked.{Goes-dropped}
use Rattle.std.specs.contracts.option.Option as optional
use Rattle.std.specs.declared.option.Option.{Option}
use Rattle.std.specs.declared.option.Option.TheVariants.{None, Some}
use Rattle.vdb_c.specs.LendsGrid.{with_grid}
use Rattle.vdb_c.proofs.Pointers.{pointer_val, is_testable, either}
use Rattle.vdb_c.proofs.HeldGridValues.{HeldGrid, held_grid_in, held_grid_out}
use Rattle.vdb_c.specs.contracts.handles.held_grid.HeldGrid.grid_mut.{ended, clauses}
use Rattle.vdb_c.specs.contracts.handles.held_grid.HeldGrid.grid_mut.Key.{name as #self}
use Rattle.vdb_c.proofs.handles.held_grid.HeldGrid.grid_mut.Statement.{statement}
use Rattle.vdb_c.proofs.handles.held_grid.HeldGrid.grid_mut.Code as code

module _ {M : Type 1} {𝓤 : Ura M} (𝓛 : Logic 𝓤) (s : HeldGrid.Denot) (rb ro b o : ℕ) where
  -- all of a held grid but the grid
  abbrev Rest : Fml
  Rest = fsep (freeing (bare (lone Row.mir)) (block_ptr b o)) (cell_at full_share HeldGrid.mir (pointer_val s.at ∷ []) rb ro)

  back : s.at ≡ block_ptr b o → (w : Row.Denot) → ent 𝓤 (sep 𝓤 (sem 𝓛 ((mem Row).own_at w b o)) (sem 𝓛 Rest)) (sem 𝓛 ((mem HeldGrid).own_at (with_grid s w) rb ro))
  unfolding part_of
  back e w =
      qed 𝓛 (‵ (lies_at Row full_share (block_ptr b o) w) ∷ ‵ Rest ∷ []) ∵ move ! (1 ∷ []) $ fsplit ! $ move ! (2 ∷ 0 ∷ []) $ fjoin ! $
      rewrite ! 0 (λ (q : Ptr). ‵ (box_owns freeing Row q w)) (sym e) refl $ held_grid_in ! s.at (Some w) $ move ! (1 ∷ 0 ∷ []) $ fjoin ! $
      fpack ! (List Val) (λ us. fsep (cell_at full_share HeldGrid.mir us rb ro) (HeldGrid.own_val (with_grid s w) us)) (pointer_val s.at ∷ []) $ done !

pub grid_mut_spec : {M : Type 1} → statement M
unfolding follows_by
grid_mut_spec 𝓤 𝓛 𝓜 𝓡 wired =
    let C = (tables 𝓤 𝓛.H 𝓜 𝓡 𝓡.env).C in let Λ = (tables 𝓤 𝓛.H 𝓜 𝓡 𝓡.env).Λ in let fn = code.function in let c = clauses 𝓛 𝓜.mem 𝓡.returns in
    let stays : Stays ended.signature.params ended.kept = (stay_dropped (mut_ref_to (0 ∷ []) tt (plain (λ _. HeldGrid))) no, tt) in
    proved_at 𝓛 ended stays c 𝓜 𝓡 (Goes-dropped 𝓛 1 (mut_ref_to (0 ∷ []) tt (plain (λ _. HeldGrid))) no (λ κs x f. refl), tt) #self fn (code.unfolded 𝓤 𝓛.H 𝓜 𝓡 wired) (λ y are.
    let Post : Val → SProp 𝓤 = (walk_of 𝓛 ended stays c).post y in
    let κs = y.0.0 in let qs = y.0.1 in let a = y.0.3 in let vss = y.0.4 in let κ = κs.0 in
    let s = a.0.now in let γ = a.0.ghost_name in let rb = a.0.ref_ptr.0 in let ro = a.0.ref_ptr.1 in let p = s.at in
    let Lent : RattleType = MutRef (named 0) κ Row in let Optional : RattleType = optional.the_row Lent in
    let passed : vss.0 ≡ vptr rb ro ∷ [] = are.0.0 in
    qed 𝓛 (((‵ (flft κ qs.0) ⊛ ‵ ftrue) ⊛ ‵ (owns (types_at ended.signature.params κs) a vss)) ∷ raw ((c κs a).requires y.1) ∷ []) ∵
    split ! $ move ! (1 ∷ []) $ fsplit ! $ keep ! (0 ∷ 2 ∷ []) $ fsplit3 ! $ drop ! $ move ! (2 ∷ []) $ split ! $ move ! (2 ∷ 3 ∷ 0 ∷ []) $
    regoal ! (λ (us : List Val). prop (WpFn 𝓤 𝓛.H C Λ fn us Post)) (λ j. passed j ++ []) refl $
    enter ! C Λ fn (vptr rb ro ∷ []) Post $ alloc_all ! (λ l. pass_all ! refl ((tt, tt), tt) $ let En : Env 𝓤 𝓛.H = env fn.locals l in
    opens ! tt HeldGrid {h = s} rb ro (λ vs. move ! (1 ∷ []) $ held_grid_out ! s vs (λ is_word.
    rewrite ! 1 (λ (ws : List Val). ‵ (cell_at full_share HeldGrid.mir ws rb ro)) is_word refl $
    -- [what the pointer owns; the cell; the open borrow, in three entries; the other tokens; the locals]
    either s.held
    (λ none. rewrite ! 0 (λ (h : Option Row.Denot). ‵ (owns_boxed freeing Row p h)) none refl $ feq_l ! (λ at_null.
    sets ! (is ! (of_opd ! (load ! (through ! refl (fld ! refl (stop !))) (look_in ! 0 (sub ! 0 refl (whole !))))) (ap ptr_val at_null)) refl (tt, record { fits = lit< tt }) $
    sets ! (of_opd ! (get ! refl)) refl (tt, record { fits = lit< tt }) $
    sets ! (of_opd ! (get ! refl)) refl (tt, record { fits = lit< tt }) $
    sets ! (bin ! (get ! refl) (lit ! tt) tt) refl (tt, tt) $
    first ! $ branches ! (get ! refl)
    (λ null. sets ! (agg ! (and_then ! (lit ! tt) (no_more !))) refl (tt, (record { fits = lit< tt }, tt)) $
    feq_i ! Ptr p null_ptr at_null $ rewrite ! 0 (λ (h : Option Row.Denot). ‵ (owns_boxed freeing Row p h)) (sym none) refl $
    held_grid_in ! p s.held $ move ! (1 ∷ 0 ∷ []) $ closes ! tt HeldGrid s (pointer_val p ∷ []) rb ro $
    use1 𝓛 (‵ (fres γ (HeldGrid.coded.code s))) (𝓛.names.obs-res γ (HeldGrid.coded.code s)) $ move ! (1 ∷ []) $ drop ! $
    returns_within ! Post refl (look_at ! 0 refl) $ free_all ! refl $
    use0 𝓛 (raw (fact 𝓤 (None ≡ s.held))) (fact_i 𝓤 (None ≡ s.held) (emp 𝓤) (sym none)) $ move ! (1 ∷ 0 ∷ []) $ join ! $ nothing ! $ nothing ! $ fjoin ! $
    use0 𝓛 (‵ (Optional.own_val None (live 0 (of_list []) ∷ []))) (none_of 𝓛 Lent) $ move ! (3 ∷ 4 ∷ []) $ join ! $ keep ! (0 ∷ 2 ∷ 1 ∷ 3 ∷ []) $
    by ! (leaves 𝓛 ended stays c y (live 0 (of_list [])) None (tt, tt) (tt, tt)))
    (λ other. absurd other)))
    (λ x one. rewrite ! 0 (λ (h : Option Row.Denot). ‵ (owns_boxed freeing Row p h)) one refl $
    use1 𝓛 (given (Testable p) (‵ (box_owns freeing Row p x))) (is_testable 𝓛 Row p x) $ learn ! (λ may.
    in_a_block ! p (λ q. box_owns freeing Row q x) (fst∗ 𝓤 (never 𝓤) (sem 𝓛 (freeing (bare (lone Row.mir)) null_ptr))) (λ b o e.
    sets ! (is ! (of_opd ! (load ! (through ! refl (fld ! refl (stop !))) (look_in ! 1 (sub ! 0 refl (whole !))))) (ap ptr_val e)) refl (tt, tt) $
    sets ! (of_opd ! (get ! refl)) refl (tt, tt) $ sets ! (of_opd ! (get ! refl)) refl (tt, tt) $
    sets ! (bin ! (get ! refl) (lit ! tt) (tests_null (block_ptr b o) (subst Testable e may))) refl (tt, tt) $
    first ! $ branches ! (get ! refl) (λ null. absurd null)
    (λ other. skips ! $ exec ! C Λ En (after 5 fn.body) (at_ret En Post) $
    first ! $ blocks ! $ sets_last ! (addr ! (through ! refl (stop !))) refl (tt, tt) $ exec ! C Λ En (after 6 fn.body) (at_ret En Post) $
    sets ! (of_opd ! (get ! refl)) refl (tt, tt) $
    sets ! (agg ! (and_then ! (lit ! tt) (and_then ! (get ! refl) (no_more !)))) refl (tt, (record { fits = lit< tt }, (tt, tt))) $
    let v : Val = vptr b o in let lent : GName → MutBor Row.Denot = λ δ. record { ref_ptr = (b, o); ghost_name = δ; now = x } in
    -- [the grid; the right to free it; the cell; the open borrow, in three entries; the other tokens; the locals]
    fsplit ! $ move ! (1 ∷ 2 ∷ []) $ fjoin ! $ move ! (2 ∷ 3 ∷ 4 ∷ 1 ∷ 0 ∷ []) $ group ! 5 $
    use1 𝓛 (later (some (λ (δ : GName). ‵ (Lent.own_val (lent δ) (v ∷ [])) ⊛ ‵ (flft κ qs.0) ⊛ ‵ (follows HeldGrid Row γ δ (with_grid s)))))
    (lends_Part 𝓛 HeldGrid Row (with_grid s) (named 0) κ qs.0 rb ro b o γ (sem 𝓛 (Rest 𝓛 s rb ro b o)) (back 𝓛 s rb ro b o e) (HeldGrid.coded.code s) (HeldGrid.coded.code s) x) $ await ! tt $ pick ! (λ δ.
    split3 ! $ use1 𝓛 (‵ (Optional.own_val (Some (lent δ)) (live 1 (of_list (v ∷ [])) ∷ []))) (Some-of 𝓛 Lent (lent δ) v) $
    returns ! (look_at ! 0 refl) $ free_all ! refl $
    -- [the result; the token; the handle follows; the other tokens]
    use0 𝓛 (raw (fact 𝓤 (Some x ≡ s.held))) (fact_i 𝓤 (Some x ≡ s.held) (emp 𝓤) (sym one)) $ move ! (3 ∷ 0 ∷ []) $ join ! $ nothing ! $ nothing ! $ fjoin ! $
    move ! (3 ∷ 4 ∷ []) $ join ! $ keep ! (0 ∷ 1 ∷ 3 ∷ 2 ∷ []) $
    by ! (leaves 𝓛 ended stays c y (live 1 (of_list (v ∷ []))) (Some (lent δ)) (tt, tt) (tt, tt)))))))))))
