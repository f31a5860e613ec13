-- What a kept box owns, as steps of a walk. Assumes `Logic`.
use Rattle.vdb_c.proofs.Common.{◌≡◌, List, [], ◌∷◌, ◌++◌, refl, ◌∙◌, Ura, dnil, Val, vstruct, of_list, Logic, Item, Goal, Seq, Step, step, ‵, ◌$◌, move, drop, fsplit, fjoin, fpick, fpack, feq_i, feq_l, layout, RattleType, Valss, Ptr, RawPtr, ptr_val, nothing, within, shape, handle_tells, Good, owns_boxed}
use mir.Syntax.{impl, tnil}
use denote.Param.Laws.{Laws}
use Rattle.core.specs.declared.alloc.Allocator.{Ghosts}
use Rattle.core.proofs.alloc.Calls.{Al}
use Rattle.std.specs.declared.option.Option.{Option}
use Rattle.vdb_c.specs.contracts.handles.kept.Kept as kept
use Rattle.vdb_c.proofs.Pointers.{beside_val}

module _ (R Z : RattleType) (L : Laws Z) (g : Ghosts Z.Denot) where
  abbrev pub Kept : RattleType
  Kept = kept.the_row R Z g

  abbrev allocator : Al
  allocator = record { row = Z; laws = L; g = g; d = impl [] tnil dnil; drops = impl [] tnil dnil }

  module _ {M : Type 1} {𝓤 : Ura M} {𝓛 : Logic 𝓤} {K : Type 0} {Γ : List (Item 𝓤)} {G : Goal 𝓤 𝓛.H} where
    -- a kept box is what its pointer owns, with its allocator
    pub kept_out : K → (d : Kept.Denot) (vs : List Val)
        → ((h : Val) → vs ≡ beside_val d.at h ∷ [] → Good (layout Z) h
        → Seq K 𝓛 (‵ (owns_boxed (g.dealloc_token d.alloc) R d.at d.held) ∷ ‵ (Z.own_val d.alloc (h ∷ [])) ∷ Γ) G)
        → Seq K 𝓛 (‵ (Kept.own_val d vs) ∷ Γ) G
    kept_out t d vs k =
        fsplit t $ fpick t (λ vss. fsplit t $ feq_l t (λ whole. fsplit t $ feq_l t (λ pointer. fsplit t $ handle_tells allocator t d.alloc vss.1.0 (λ h is fits.
        move t (1 ∷ []) $ drop t $ move t (1 ∷ []) $ k h (whole ∙ (λ i. vstruct (of_list (pointer i ++ (is i ++ []))) ∷ [])) fits))))

    pub kept_in : K → (p : Ptr) (h : Val) (alloc : Z.Denot) (held : Option R.Denot)
        → Step K 𝓛 (‵ (Kept.own_val (record { at = p; alloc = alloc; held = held }) (beside_val p h ∷ [])) ∷ Γ) G
        (‵ (owns_boxed (g.dealloc_token alloc) R p held) ∷ ‵ (Z.own_val alloc (h ∷ [])) ∷ Γ) G
    kept_in t p h alloc held = step (λ rest. let vs : List Val = beside_val p h ∷ [] in
        nothing t $ move t (2 ∷ 0 ∷ []) $ fjoin t $ feq_i t (List Val) (ptr_val p ∷ []) (ptr_val p ∷ []) refl $ fjoin t $ feq_i t (List Val) vs vs refl $ fjoin t $
        fpack t (Valss (RawPtr ∷ Z ∷ [])) (within (shape (kept.the_type R Z g)) (p, (alloc, tt)) vs) (ptr_val p ∷ [], (h ∷ [], tt)) $ fjoin t $ rest)
