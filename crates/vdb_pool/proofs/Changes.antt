-- How each change of a slot keeps what holds of a pool's fields.
use Rattle.vdb_pool.proofs.Common.{◌≡◌, ℕ, suc, ◌+◌, ◌-◌, ◌<◌, List, [], ◌∷◌, ◌++◌, length, get_or, set, map, Option, Some, None, slice_get, refl, sym, ap, subst, ◌∙◌, arith, length-set, length-append, map-set, map_push, length-map, get_or-map, slice_get_within, get_or_from_slice_get, Ptr, node_of, IsAmong, linked, IsStack, AreListed, IsSound, Chunk, Slot, Vacant, Held}
use Rattle.std.proofs.Common.{is_some, count_by, cond}
use Rattle.std.proofs.lemmas.List.Sums.{sum_by-set, sum_by_push}
use Rattle.vdb_pool.proofs.Links.{get_set_same, get_pushed_last, kept, pushed, linked_top, on_stack, off_held, top_of, listed_held, listed_vacant, listed_refilled, listed_pushed, listed_pushed_vacant}

module _ {T : Type 0} where
  -- how many slots are held after a write, and after one more
  count-set : (xs : List (Slot T)) (i : ℕ) (old new : Slot T) → slice_get xs i ≡ Some old
      → count_by is_some (map node_of (set xs i new)) + cond (is_some (node_of old)) 1 0 ≡ count_by is_some (map node_of xs) + cond (is_some (node_of new)) 1 0
  count-set xs i old new found =
      let within : i < length xs = slice_get_within xs i old found in
      let read : get_or (map node_of xs) i None ≡ node_of old = get_or-map node_of xs i old None within ∙ ap node_of (get_or_from_slice_get xs i old old found) in
      let counted = sum_by-set (λ o. cond (is_some o) 1 0) (map node_of xs) i (node_of new) None (omega (arith, length-map xs node_of)) in
      rw (map-set node_of xs i new, ← read) counted

  count-push : (xs : List (Slot T)) (new : Slot T) → count_by is_some (map node_of (xs ++ new ∷ [])) ≡ count_by is_some (map node_of xs) + cond (is_some (node_of new)) 1 0
  count-push xs new = ap (count_by is_some) (map_push node_of xs new) ∙ sum_by_push (λ o. cond (is_some o) 1 0) (map node_of xs) (node_of new)

  module _ {len most : ℕ} (cs : List (Chunk T)) (ps : List Ptr) (xs : List (Slot T)) (used total held : ℕ) (top : Option ℕ) (ok : IsSound len most cs ps xs used total held top) where
    abbrev stack : List ℕ
    stack = linked (used - held) top xs

    -- another node in a held slot
    pub rewritten : (i : ℕ) (x w : T) → slice_get xs i ≡ Some (Held x)
        → IsSound len most cs ps (set xs i (Held w)) used total held top × (linked (used - held) top (set xs i (Held w)) ≡ stack)
    rewritten i x w found =
        let xs' : List (Slot T) = set xs i (Held w) in
        let k = kept (used - held) top xs i (Held w) ok.stack (off_held (used - held) top xs i x ok.stack found) in (
          record {
            all = ok.all;
            used_is = ok.used_is ∙ sym (length-set xs i (Held w));
            total_is = ok.total_is;
            total_fits = ok.total_fits;
            within = ok.within;
            rows = ok.rows;
            whole = ok.whole;
            held_is = omega (arith, ok.held_is, count-set xs i (Held x) (Held w) found);
            held_within = ok.held_within;
            stack = k.1;
            listed = subst (AreListed xs') (sym k.0) (listed_held xs stack i w ok.listed);
          },
          k.0,
        )

    -- a held slot is vacated
    pub vacated : (i : ℕ) (x : T) → slice_get xs i ≡ Some (Held x)
        → IsSound len most cs ps (set xs i (Vacant top)) used total (held - 1) (Some i) × (linked (used - (held - 1)) (Some i) (set xs i (Vacant top)) ≡ i ∷ stack)
    vacated i x found =
        let xs' : List (Slot T) = set xs i (Vacant top) in
        let n : ℕ = used - held in
        let off = off_held n top xs i x ok.stack found in
        let k = kept n top xs i (Vacant top) ok.stack off in
        let counted : count_by is_some (map node_of xs') + 1 ≡ count_by is_some (map node_of xs) + 0 = count-set xs i (Held x) (Vacant top) found in
        let there : slice_get xs' i ≡ Some (Vacant top) = get_set_same xs i (Vacant top) (slice_get_within xs i (Held x) found) in
        let held_is = ok.held_is in let held_within = ok.held_within in
        let more : suc n ≡ used - (held - 1) = omega arith in
        let on_top : IsStack (suc n) (Some i) xs' = (i, top, refl, there, (λ m. off (subst (IsAmong i) k.0 m)), k.1) in
        let list : linked (used - (held - 1)) (Some i) xs' ≡ i ∷ stack = ap (λ m. linked m (Some i) xs') (sym more) ∙ linked_top n (Some i) xs' i top refl there ∙ ap (λ l. i ∷ l) k.0 in (
          record {
            all = ok.all;
            used_is = ok.used_is ∙ sym (length-set xs i (Vacant top));
            total_is = ok.total_is;
            total_fits = ok.total_fits;
            within = ok.within;
            rows = ok.rows;
            whole = ok.whole;
            held_is = omega arith;
            held_within = omega arith;
            stack = subst (λ m. IsStack m (Some i) xs') more on_top;
            listed = subst (AreListed xs') (sym list) (listed_vacant xs stack i top ok.listed);
          },
          list,
        )

    -- the slot that was vacated last is held again
    pub refilled : (i : ℕ) (next : Option ℕ) (x : T) → top ≡ Some i → slice_get xs i ≡ Some (Vacant next)
        → IsSound len most cs ps (set xs i (Held x)) used total (held + 1) next × (stack ≡ i ∷ linked (used - (held + 1)) next (set xs i (Held x)))
    refilled i next x e found =
        let xs' : List (Slot T) = set xs i (Held x) in
        let within : i < length xs = slice_get_within xs i (Vacant next) found in
        let t = top_of (used - held) top xs i next ok.stack e found in
        let m : ℕ = t.0 in let m_is : used - held ≡ suc m = t.1 in
        let k = kept m next xs i (Held x) t.4 t.3 in
        let counted : count_by is_some (map node_of xs') + 0 ≡ count_by is_some (map node_of xs) + 1 = count-set xs i (Vacant next) (Held x) found in
        let held_is = ok.held_is in let held_within = ok.held_within in
        let less : m ≡ used - (held + 1) = omega arith in
        let rest : linked m next xs ≡ linked (used - (held + 1)) next xs' = sym k.0 ∙ ap (λ j. linked j next xs') less in (
          record {
            all = ok.all;
            used_is = ok.used_is ∙ sym (length-set xs i (Held x));
            total_is = ok.total_is;
            total_fits = ok.total_fits;
            within = ok.within;
            rows = ok.rows;
            whole = ok.whole;
            held_is = omega arith;
            held_within = omega arith;
            stack = subst (λ j. IsStack j next xs') less k.1;
            listed = subst (AreListed xs') rest (listed_refilled xs (linked m next xs) i x within (subst (AreListed xs) t.2 ok.listed));
          },
          t.2 ∙ ap (λ l. i ∷ l) rest,
        )

    -- a slot is held for the first time, which leaves the stack as it is
    pub extended : (x : T) → used < total
        → IsSound len most cs ps (xs ++ Held x ∷ []) (used + 1) total (held + 1) top × (linked ((used + 1) - (held + 1)) top (xs ++ Held x ∷ []) ≡ stack)
    extended x lt =
        let xs' : List (Slot T) = xs ++ Held x ∷ [] in
        let k = pushed (used - held) top xs (Held x) ok.stack in
        let counted : count_by is_some (map node_of xs') ≡ count_by is_some (map node_of xs) + 1 = count-push xs (Held x) in
        let used_is = ok.used_is in let held_is = ok.held_is in let held_within = ok.held_within in
        let still : used - held ≡ (used + 1) - (held + 1) = omega arith in
        let list : linked ((used + 1) - (held + 1)) top xs' ≡ stack = ap (λ j. linked j top xs') (sym still) ∙ k.0 in (
          record {
            all = ok.all;
            used_is = omega (arith, length-append xs (Held x ∷ []));
            total_is = ok.total_is;
            total_fits = ok.total_fits;
            within = omega arith;
            rows = ok.rows;
            whole = ok.whole;
            held_is = omega arith;
            held_within = omega arith;
            stack = subst (λ j. IsStack j top xs') still k.1;
            listed = subst (AreListed xs') (sym list) (listed_pushed xs stack x ok.listed);
          },
          list,
        )

    -- a slot that was never held is vacant, and on top of the stack
    pub extended_vacant : used < total
        → IsSound len most cs ps (xs ++ Vacant top ∷ []) (used + 1) total held (Some used) × (linked ((used + 1) - held) (Some used) (xs ++ Vacant top ∷ []) ≡ used ∷ stack)
    extended_vacant lt =
        let xs' : List (Slot T) = xs ++ Vacant top ∷ [] in
        let n : ℕ = used - held in
        let k = pushed n top xs (Vacant top) ok.stack in
        let counted : count_by is_some (map node_of xs') ≡ count_by is_some (map node_of xs) + 0 = count-push xs (Vacant top) in
        let used_is = ok.used_is in let held_is = ok.held_is in let held_within = ok.held_within in
        let there : slice_get xs' used ≡ Some (Vacant top) = get_pushed_last xs (Vacant top) used used_is in
        let off : IsAmong used stack → ⊥ = λ m. let old = on_stack n top xs used ok.stack m in absurd (omega (arith, used_is, slice_get_within xs used (Vacant old.0) old.1)) in
        let more : suc n ≡ (used + 1) - held = omega arith in
        let on_top : IsStack (suc n) (Some used) xs' = (used, top, refl, there, (λ m. off (subst (IsAmong used) k.0 m)), k.1) in
        let list : linked ((used + 1) - held) (Some used) xs' ≡ used ∷ stack = ap (λ m. linked m (Some used) xs') (sym more) ∙ linked_top n (Some used) xs' used top refl there ∙ ap (λ l. used ∷ l) k.0 in (
          record {
            all = ok.all;
            used_is = omega (arith, length-append xs (Vacant top ∷ []));
            total_is = ok.total_is;
            total_fits = ok.total_fits;
            within = omega arith;
            rows = ok.rows;
            whole = ok.whole;
            held_is = omega arith;
            held_within = omega arith;
            stack = subst (λ m. IsStack m (Some used) xs') more on_top;
            listed = subst (AreListed xs') (sym list) (listed_pushed_vacant xs stack used top used_is ok.listed);
          },
          list,
        )
