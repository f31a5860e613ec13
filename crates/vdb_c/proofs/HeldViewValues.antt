-- What a held view owns, as steps of a walk. Assumes `Logic`.
use Rattle.vdb_c.proofs.Common.{◌≡◌, List, [], ◌∷◌, ◌++◌, refl, ◌∙◌, Ura, Val, vstruct, of_list, Logic, Item, Goal, Seq, Step, step, ‵, ◌$◌, drop, fsplit, fjoin, fpick, fpack, feq_i, feq_l, RattleType, Valss, Ptr, RawPtr, ptr_val, nothing, within, shape, freeing, owns_boxed}
use Rattle.std.specs.declared.option.Option.{Option}
use Rattle.vdb_c.specs.HeldView.{Row}
use Rattle.vdb_c.specs.contracts.handles.held_view.HeldView as held_view
use Rattle.vdb_c.proofs.Pointers.{pointer_val}

abbrev pub HeldView : RattleType
HeldView = held_view.the_row

module _ {M : Type 1} {𝓤 : Ura M} {𝓛 : Logic 𝓤} {K : Type 0} {Γ : List (Item 𝓤)} {G : Goal 𝓤 𝓛.H} where
  pub held_view_out : K → (d : HeldView.Denot) (vs : List Val)
      → (vs ≡ pointer_val d.at ∷ [] → Seq K 𝓛 (‵ (owns_boxed freeing Row d.at d.held) ∷ Γ) G)
      → Seq K 𝓛 (‵ (HeldView.own_val d vs) ∷ Γ) G
  held_view_out t d vs k =
      fsplit t $ fpick t (λ vss. fsplit t $ feq_l t (λ whole. fsplit t $ feq_l t (λ field. drop t $
      k (whole ∙ (λ i. vstruct (of_list (field i ++ [])) ∷ [])))))

  pub held_view_in : K → (p : Ptr) (held : Option Row.Denot)
      → Step K 𝓛 (‵ (HeldView.own_val (record { at = p; held = held }) (pointer_val p ∷ [])) ∷ Γ) G (‵ (owns_boxed freeing Row p held) ∷ Γ) G
  held_view_in t p held = step (λ rest. let vs : List Val = pointer_val p ∷ [] in
      nothing t $ feq_i t (List Val) (ptr_val p ∷ []) (ptr_val p ∷ []) refl $ fjoin t $ feq_i t (List Val) vs vs refl $ fjoin t $
      fpack t (Valss (RawPtr ∷ [])) (within (shape held_view.the_type) (p, tt) vs) (ptr_val p ∷ [], tt) $ fjoin t $ rest)
