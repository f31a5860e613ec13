-- `get_mut` lends one item, and the storage follows it. Assumes `Logic`.
use Rattle.vdb_pool.proofs.Common.{◌≡◌, ℕ, ◌<◌, List, [], ◌∷◌, ◌++◌, length, get_or, set, refl, sym, ap, ◌∙◌, w32, Ura, full_share, Fn, inst_fn, Val, vptr, vint, SProp, ent, sep, emp, never, id⊢, Fml, ftrue, fsep, flft, Env, WpFn, Logic, sem, fact, fact_i, ◌⊑◌, tables, Item, ‵, raw, ◌⊛◌, some, later, await, pick, prop, at_ret, ◌$◌, ◌∵◌, !, qed, by, move, drop, use0, use1, use2, split, join, group, rewrite, regoal, fsplit, fsplit3, fjoin, fjoin3, fpack, done, whole, sub, stop, fld, of_opd, addr, first, blocks, exec, returns, enter, alloc_all, pass_all, free_all, look_at, get, get_in, through, sets, sets_last, is, env, yes, no, owns, Ptr, block_ptr, null_ptr, ptr_val, lies_at, in_a_block, types_at, nothing, heard, opens, Clauses, Ended, Stays, stay_dropped, walk_of, Goes-dropped, El, R, args, proved_at, leaves, after, word-Good, storage_owns, with_items}
use mir.Syntax.{named}
use base.Fml.{GName}
use denote.Follow.{follows, lends_Part}
use denote.Memory.{mem, cell_at, part_of}
use denote.Ref.{MutBor, MutRef}
use Rattle.core.proofs.mem.Param.{el_x}
use Rattle.vdb_pool.proofs.Places.{some_item, same_item, all_but, item_out, item_in}
use Rattle.vdb_pool.proofs.Walks.{slot, Store, Mark, addr_val, addr_told}
use Rattle.vdb_pool.specs.contracts.storage.Storage.get_mut as F
use Rattle.vdb_pool.specs.contracts.storage.Storage.get_mut.Key.{name as #self}
use Rattle.vdb_pool.proofs.storage.Storage.get_mut.Statement.{statement}
use Rattle.vdb_pool.proofs.storage.Storage.get_mut.Code as code

module _ (E : El) {M : Type 1} {𝓤 : Ura M} (𝓛 : Logic 𝓤) (s : (Store E).Denot) (i : ℕ) (rb ro b o : ℕ) (vs : List Val) where
  -- the parts of the storage except the item
  abbrev Rest : Fml
  Rest = fsep (all_but (R E) s.places s.items i) (fsep ((Mark E).own_val (tt, tt) vs) (cell_at full_share (Store E).mir vs rb ro))

  -- the storage once the item is w
  abbrev new : el_x E → (Store E).Denot
  new w = with_items s (set s.items i w)

  back : block_ptr b o ≡ get_or s.places i null_ptr → i < length s.items → (w : el_x E) → ent 𝓤 (sep 𝓤 (sem 𝓛 ((mem (R E)).own_at w b o)) (sem 𝓛 Rest)) (sem 𝓛 ((mem (Store E)).own_at (new w) rb ro))
  unfolding part_of
  back e within w =
      qed 𝓛 (‵ (lies_at (R E) full_share (block_ptr b o) w) ∷ ‵ Rest ∷ []) ∵ rewrite ! 0 (λ (p : Ptr). ‵ (lies_at (R E) full_share p w)) e refl $ move ! (1 ∷ []) $ fsplit3 ! $ move ! (3 ∷ 0 ∷ []) $
      use2 𝓛 (‵ (storage_owns (R E) s.places (new w).items)) (item_in (R E) 𝓛 s.places s.items i w within) $ move ! (1 ∷ 0 ∷ []) $ fjoin ! $ move ! (1 ∷ 0 ∷ []) $ fjoin ! $
      fpack ! (List Val) (λ us. fsep (cell_at full_share (Store E).mir us rb ro) ((Store E).own_val (new w) us)) vs $ done !

pub get_mut_spec : {M : Type 1} → statement M
get_mut_spec 𝓤 𝓛 𝓜 𝓡 wired X LX =
    let E : El = record { row = X; laws = LX } in
    let T : Ended = F.ended X in
    let c : Clauses 𝓤 T = F.clauses X 𝓛 𝓜.mem 𝓡.returns in
    let fn : Fn = inst_fn (args E) code.function in
    let C = (tables 𝓤 𝓛.H 𝓜 𝓡 𝓡.env).C in
    let Λ = (tables 𝓤 𝓛.H 𝓜 𝓡 𝓡.env).Λ in
    let self = slot 0 T.signature.params in let at = slot 1 T.signature.params in let index = slot 2 T.signature.params in
    let stays : Stays T.signature.params T.kept = (stay_dropped self no, (stay_dropped at no, (stay_dropped index yes, tt))) in
    proved_at 𝓛 T stays c 𝓜 𝓡
    (Goes-dropped 𝓛 2 self no (λ κs x f. refl), (Goes-dropped 𝓛 2 at no (λ κs x f. refl), (Goes-dropped 𝓛 2 index yes (λ κs x f. refl), tt)))
    (#self (args E)) fn (code.unfolded 𝓤 𝓛.H 𝓜 𝓡 wired (X, tt)) (λ y are.
    let Post : Val → SProp 𝓤 = (walk_of 𝓛 T stays c).post y in
    let κs = y.0.0 in let qs = y.0.1 in let a = y.0.3 in let vss = y.0.4 in
    let κ = κs.0 in let s = a.0.now in let γ = a.0.ghost_name in let rb = a.0.ref_ptr.0 in let ro = a.0.ref_ptr.1 in let p = a.1.0.pointer in let i = a.1.1.0 in
    let Asked : Type 0 = (p ≡ get_or s.places i null_ptr) × (i < length s.items) in
    let Alive : Item 𝓤 = ‵ (flft κ qs.0) ⊛ ‵ (flft κs.1.0 qs.1.0) ⊛ ‵ ftrue in
    qed 𝓛 ((Alive ⊛ ‵ (owns (types_at T.signature.params κs) a vss)) ∷ (raw (fact 𝓤 (κs.1.0 ⊑ X.lives)) ⊛ raw (fact 𝓤 Asked)) ∷ []) ∵
    move ! (1 ∷ []) $ split ! $ drop ! $ heard ! _ (λ asked. split ! $ move ! (1 ∷ []) $
    fsplit ! $ move ! (1 ∷ []) $ drop ! $ fsplit3 ! $ drop ! $ move ! (2 ∷ []) $ split ! $ move ! (2 ∷ 3 ∷ 0 ∷ []) $
    let missing : X.Denot = some_item s.items i asked.1 in
    let x : X.Denot = get_or s.items i missing in
    let Said : Type 0 = x ≡ get_or s.items i x in
    let passed : vss.0 ≡ vptr rb ro ∷ [] = are.0.0 in
    let passed₁ : vss.1.0 ≡ addr_val p ∷ [] = addr_told E a.1.0 vss.1.0 are.1.0 in
    let passed₂ : vss.1.1.0 ≡ vint w32 i ∷ [] = are.1.1.0.0 in
    regoal ! (λ (us : List Val). prop (WpFn 𝓤 𝓛.H C Λ fn us Post)) (λ j. passed j ++ (passed₁ j ++ (passed₂ j ++ []))) refl $
    enter ! C Λ fn (vptr rb ro ∷ addr_val p ∷ vint w32 i ∷ []) Post $
    alloc_all ! (λ l. pass_all ! refl ((tt, tt), (word-Good [] p, ((tt, record { fits = are.1.1.0.1 }), tt))) $
    let En : Env 𝓤 𝓛.H = env fn.locals l in
    opens ! tt (Store E) {h = s} rb ro (λ vs. move ! (1 ∷ []) $ fsplit ! $ move ! (1 ∷ []) $
    use1 𝓛 (‵ (lies_at (R E) full_share (get_or s.places i null_ptr) x) ⊛ ‵ (all_but (R E) s.places s.items i)) (item_out (R E) 𝓛 s.places s.items i missing asked.1) $ split ! $
    rewrite ! 0 (λ (q : Ptr). ‵ (lies_at (R E) full_share q x)) (sym asked.0) refl $
    in_a_block ! p (λ q. lies_at (R E) full_share q x) (id⊢ 𝓤 (never 𝓤)) (λ b o e.
    -- [the item; the other places; the mark; the storage's cell; the open borrow, in three entries; the other token; the locals]
    sets ! (is ! (of_opd ! (get_in ! (fld ! refl (stop !)) (sub ! 0 refl (whole !)))) (ap ptr_val e)) refl (tt, tt) $
    first ! $ blocks ! $ sets_last ! (addr ! (through ! refl (stop !))) refl (tt, tt) $ exec ! C Λ En (after 2 fn.body) (at_ret En Post) $
    sets ! (of_opd ! (get ! refl)) refl (tt, tt) $
    let way = back E 𝓛 s i rb ro b o vs (sym e ∙ asked.0) asked.1 in
    let to : X.Denot → (Store E).Denot = new E 𝓛 s i rb ro b o vs in
    let lent : GName → MutBor X.Denot = λ δ. record { ref_ptr = (b, o); ghost_name = δ; now = x } in
    move ! (1 ∷ 2 ∷ 3 ∷ []) $ fjoin3 ! $ move ! (2 ∷ 3 ∷ 4 ∷ 1 ∷ 0 ∷ []) $ group ! 5 $
    use1 𝓛 (later (some (λ (δ : GName). ‵ ((MutRef (named 0) κ (R E)).own_val (lent δ) (vptr b o ∷ [])) ⊛ ‵ (flft κ qs.0) ⊛ ‵ (follows (Store E) (R E) γ δ to))))
    (lends_Part 𝓛 (Store E) (R E) to (named 0) κ qs.0 rb ro b o γ (sem 𝓛 (Rest E 𝓛 s i rb ro b o vs)) way ((Store E).coded.code s) ((Store E).coded.code s) x) $ await ! tt $ pick ! (λ δ.
    split ! $ move ! (1 ∷ []) $ split ! $ returns ! (look_at ! 0 refl) $ free_all ! refl $
    -- [the token; the storage follows; the item's `&mut`; the other token]
    use0 𝓛 (raw (fact 𝓤 Said)) (fact_i 𝓤 Said (emp 𝓤) (same_item s.items i missing x asked.1)) $ move ! (2 ∷ 0 ∷ []) $ join ! $
    nothing ! $ nothing ! $ fjoin ! $ nothing ! $ fjoin ! $ nothing ! $ fjoin ! $ move ! (2 ∷ 4 ∷ []) $ join ! $ move ! (0 ∷ 1 ∷ 3 ∷ 2 ∷ []) $
    by ! (leaves 𝓛 T stays c y (vptr b o) (lent δ) (tt, (tt, (tt, tt))) (tt, (tt, (tt, tt))))))))))
