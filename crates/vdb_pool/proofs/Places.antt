-- What a storage owns and lends, taken apart place by place and put together again. Assumes `Logic`.
--     some_item, same_item     an index below the length has an item, whatever replaces a missing one
--     split_last               a list that is not empty, and its last item
--     item_lent                a `&` to a storage has a `&` to each item
--     item_out, item_in        one item's place is taken out, and put back with any value
--     free_out, last_in        the first free place is taken out, and put back with an item
--     last_out, free_in        the last item's place is taken out, and put back empty
--     joined, cut              free places are added at the end, and cut off there
--     of_room, to_room         room for an array is a row of free places
use Rattle.vdb_pool.proofs.Common.{◌≡◌, ℕ, zero, suc, ◌+◌, ◌-◌, ◌<◌, List, [], ◌∷◌, ◌++◌, length, take, get_or, set, refl, ap, arith, type_size, Ura, full_share, ent, sep, id⊢, Lft, Fml, ftrue, fsep, froom, Ty, ty_array, Logic, sem, ‵, ◌⊛◌, ◌$◌, ◌∵◌, !, qed, by, move, keep, use1, use2, split, fsplit, fjoin, done, RattleType, lone, Ptr, block_ptr, null_ptr, lies_at, room_for, nothing, lent_at, row_from, storage_owns, storage_lends}
use Rattle.std.proofs.Common.{drop}
use base.Logic.{via, never_e, fst∗, snd∗}
use mir.Raw.{raw as bare}
use types.Kit.{drop as skip, frame}

module _ {X : Type 0} where
  pub some_item : (xs : List X) (i : ℕ) → i < length xs → X
  some_item [] i lt = absurd (omega (arith, lt))
  some_item (x ∷ xs) i lt = x

  pub same_item : (xs : List X) (i : ℕ) (c d : X) → i < length xs → get_or xs i c ≡ get_or xs i d
  same_item [] i c d lt = absurd (omega (arith, lt))
  same_item (x ∷ xs) zero c d lt = refl
  same_item (x ∷ xs) (suc i) c d lt = same_item xs i c d (omega (arith, lt))

  pub split_last : (xs : List X) (n : ℕ) → length xs ≡ n + 1 → (ys : List X) × (y : X) × (xs ≡ ys ++ y ∷ []) × (length ys ≡ n)
  split_last [] n e = absurd (omega (arith, e))
  split_last (x ∷ []) n e = ([], x, refl, omega (arith, e))
  split_last (x ∷ z ∷ xs) n e =
      let more = split_last (z ∷ xs) (n - 1) (omega (arith, e)) in let long = more.3 in
      (x ∷ more.0, more.1, ap (λ l. x ∷ l) more.2, omega (arith, e, long))

module _ (R : RattleType) where
  -- the address of the i-th item
  abbrev pub place_of : List Ptr → ℕ → Ptr
  place_of ps i = get_or ps i null_ptr

  -- the type of a place
  abbrev pub type_of : Ty
  type_of = lone R.mir

  -- all except the i-th item's place
  abbrev pub all_but : List Ptr → List R.Denot → ℕ → Fml
  all_but [] xs i = ftrue
  all_but (p ∷ ps) [] i = ftrue
  all_but (p ∷ ps) (x ∷ xs) zero = storage_owns R ps xs
  all_but (p ∷ ps) (x ∷ xs) (suc i) = fsep (lies_at R full_share p x) (all_but ps xs i)

  -- all except the first free place
  abbrev pub around : List Ptr → List R.Denot → Fml
  around [] xs = ftrue
  around (p ∷ ps) [] = storage_owns R ps []
  around (p ∷ ps) (x ∷ xs) = fsep (lies_at R full_share p x) (around ps xs)

module _ (R : RattleType) {M : Type 1} {𝓤 : Ura M} (𝓛 : Logic 𝓤) where
  open 𝓛 use {H}

  abbrev Own : List Ptr → List R.Denot → Fml
  Own = storage_owns R

  abbrev Lies : Ptr → R.Denot → Fml
  Lies = lies_at R full_share

  abbrev Free : Ptr → Fml
  Free = room_for (bare (type_of R))

  pub item_lent : (ps : List Ptr) (xs : List R.Denot) (i : ℕ) (d : R.Denot) (κ : Lft) → i < length xs
      → ent 𝓤 (sem 𝓛 (storage_lends R ps xs κ)) (sem 𝓛 (lent_at R (place_of R ps i) (get_or xs i d) κ))
  item_lent ps [] i d κ lt = absurd (omega (arith, lt))
  item_lent [] (x ∷ xs) i d κ lt = never_e 𝓤 _
  item_lent (p ∷ ps) (x ∷ xs) zero d κ lt = fst∗ 𝓤 (sem 𝓛 (lent_at R p x κ)) (sem 𝓛 (storage_lends R ps xs κ))
  item_lent (p ∷ ps) (x ∷ xs) (suc i) d κ lt =
      via 𝓤 (sem 𝓛 (storage_lends R ps xs κ)) (snd∗ 𝓤 (sem 𝓛 (lent_at R p x κ)) (sem 𝓛 (storage_lends R ps xs κ))) (item_lent ps xs i d κ (omega (arith, lt)))

  pub item_out : (ps : List Ptr) (xs : List R.Denot) (i : ℕ) (d : R.Denot) → i < length xs
      → ent 𝓤 (sem 𝓛 (Own ps xs)) (sep 𝓤 (sem 𝓛 (Lies (place_of R ps i) (get_or xs i d))) (sem 𝓛 (all_but R ps xs i)))
  item_out ps [] i d lt = absurd (omega (arith, lt))
  item_out [] (x ∷ xs) i d lt = never_e 𝓤 _
  item_out (p ∷ ps) (x ∷ xs) zero d lt = id⊢ 𝓤 _
  item_out (p ∷ ps) (x ∷ xs) (suc i) d lt = qed 𝓛 (‵ (Lies p x) ∷ ‵ (Own ps xs) ∷ []) ∵ move ! (1 ∷ []) $
      use1 𝓛 (‵ (Lies (place_of R ps i) (get_or xs i d)) ⊛ ‵ (all_but R ps xs i)) (item_out ps xs i d (omega (arith, lt))) $ split ! $ move ! (2 ∷ 1 ∷ []) $ fjoin ! $ move ! (1 ∷ 0 ∷ []) $ done !

  pub item_in : (ps : List Ptr) (xs : List R.Denot) (i : ℕ) (y : R.Denot) → i < length xs
      → ent 𝓤 (sep 𝓤 (sem 𝓛 (Lies (place_of R ps i) y)) (sem 𝓛 (all_but R ps xs i))) (sem 𝓛 (Own ps (set xs i y)))
  item_in ps [] i y lt = absurd (omega (arith, lt))
  item_in [] (x ∷ xs) i y lt = via 𝓤 (sem 𝓛 (Lies null_ptr y)) (fst∗ 𝓤 (sem 𝓛 (Lies null_ptr y)) (sem 𝓛 ftrue)) (never_e 𝓤 _)
  item_in (p ∷ ps) (x ∷ xs) zero y lt = id⊢ 𝓤 _
  item_in (p ∷ ps) (x ∷ xs) (suc i) y lt = qed 𝓛 (‵ (Lies (place_of R ps i) y) ∷ ‵ (all_but R (p ∷ ps) (x ∷ xs) (suc i)) ∷ []) ∵ move ! (1 ∷ []) $ fsplit ! $ move ! (2 ∷ 1 ∷ []) $
      use2 𝓛 (‵ (Own ps (set xs i y))) (item_in ps xs i y (omega (arith, lt))) $ move ! (1 ∷ 0 ∷ []) $ fjoin ! $ done !

  pub free_out : (ps : List Ptr) (xs : List R.Denot) → length xs < length ps
      → ent 𝓤 (sem 𝓛 (Own ps xs)) (sep 𝓤 (sem 𝓛 (Free (place_of R ps (length xs)))) (sem 𝓛 (around R ps xs)))
  free_out [] xs lt = absurd (omega (arith, lt))
  free_out (p ∷ ps) [] lt = id⊢ 𝓤 _
  free_out (p ∷ ps) (x ∷ xs) lt = qed 𝓛 (‵ (Lies p x) ∷ ‵ (Own ps xs) ∷ []) ∵ move ! (1 ∷ []) $
      use1 𝓛 (‵ (Free (place_of R ps (length xs))) ⊛ ‵ (around R ps xs)) (free_out ps xs (omega (arith, lt))) $ split ! $ move ! (2 ∷ 1 ∷ []) $ fjoin ! $ move ! (1 ∷ 0 ∷ []) $ done !

  pub free_in : (ps : List Ptr) (xs : List R.Denot)
      → ent 𝓤 (sep 𝓤 (sem 𝓛 (Free (place_of R ps (length xs)))) (sem 𝓛 (around R ps xs))) (sem 𝓛 (Own ps xs))
  free_in [] xs = via 𝓤 (sem 𝓛 (Free null_ptr)) (fst∗ 𝓤 (sem 𝓛 (Free null_ptr)) (sem 𝓛 ftrue)) (never_e 𝓤 _)
  free_in (p ∷ ps) [] = id⊢ 𝓤 _
  free_in (p ∷ ps) (x ∷ xs) = qed 𝓛 (‵ (Free (place_of R ps (length xs))) ∷ ‵ (around R (p ∷ ps) (x ∷ xs)) ∷ []) ∵ move ! (1 ∷ []) $ fsplit ! $ move ! (2 ∷ 1 ∷ []) $
      use2 𝓛 (‵ (Own ps xs)) (free_in ps xs) $ move ! (1 ∷ 0 ∷ []) $ fjoin ! $ done !

  pub last_in : (ps : List Ptr) (xs : List R.Denot) (y : R.Denot)
      → ent 𝓤 (sep 𝓤 (sem 𝓛 (Lies (place_of R ps (length xs)) y)) (sem 𝓛 (around R ps xs))) (sem 𝓛 (Own ps (xs ++ y ∷ [])))
  last_in [] xs y = via 𝓤 (sem 𝓛 (Lies null_ptr y)) (fst∗ 𝓤 (sem 𝓛 (Lies null_ptr y)) (sem 𝓛 ftrue)) (never_e 𝓤 _)
  last_in (p ∷ ps) [] y = id⊢ 𝓤 _
  last_in (p ∷ ps) (x ∷ xs) y = qed 𝓛 (‵ (Lies (place_of R ps (length xs)) y) ∷ ‵ (around R (p ∷ ps) (x ∷ xs)) ∷ []) ∵ move ! (1 ∷ []) $ fsplit ! $ move ! (2 ∷ 1 ∷ []) $
      use2 𝓛 (‵ (Own ps (xs ++ y ∷ []))) (last_in ps xs y) $ move ! (1 ∷ 0 ∷ []) $ fjoin ! $ done !

  pub last_out : (ps : List Ptr) (xs : List R.Denot) (y : R.Denot)
      → ent 𝓤 (sem 𝓛 (Own ps (xs ++ y ∷ []))) (sep 𝓤 (sem 𝓛 (Lies (place_of R ps (length xs)) y)) (sem 𝓛 (around R ps xs)))
  last_out [] [] y = never_e 𝓤 _
  last_out [] (x ∷ xs) y = never_e 𝓤 _
  last_out (p ∷ ps) [] y = id⊢ 𝓤 _
  last_out (p ∷ ps) (x ∷ xs) y = qed 𝓛 (‵ (Lies p x) ∷ ‵ (Own ps (xs ++ y ∷ [])) ∷ []) ∵ move ! (1 ∷ []) $
      use1 𝓛 (‵ (Lies (place_of R ps (length xs)) y) ⊛ ‵ (around R ps xs)) (last_out ps xs y) $ split ! $ move ! (2 ∷ 1 ∷ []) $ fjoin ! $ move ! (1 ∷ 0 ∷ []) $ done !

  pub joined : (ps qs : List Ptr) (xs : List R.Denot) → ent 𝓤 (sep 𝓤 (sem 𝓛 (Own ps xs)) (sem 𝓛 (Own qs []))) (sem 𝓛 (Own (ps ++ qs) xs))
  joined [] qs [] = qed 𝓛 (‵ ftrue ∷ ‵ (Own qs []) ∷ []) ∵ skip ! $ done !
  joined [] qs (x ∷ xs) = via 𝓤 (sem 𝓛 (Own [] (x ∷ xs))) (fst∗ 𝓤 (sem 𝓛 (Own [] (x ∷ xs))) (sem 𝓛 (Own qs []))) (never_e 𝓤 _)
  joined (p ∷ ps) qs [] = qed 𝓛 (‵ (Own (p ∷ ps) []) ∷ ‵ (Own qs []) ∷ []) ∵ fsplit ! $ move ! (1 ∷ 2 ∷ []) $
      use2 𝓛 (‵ (Own (ps ++ qs) [])) (joined ps qs []) $ move ! (1 ∷ 0 ∷ []) $ fjoin ! $ done !
  joined (p ∷ ps) qs (x ∷ xs) = qed 𝓛 (‵ (Own (p ∷ ps) (x ∷ xs)) ∷ ‵ (Own qs []) ∷ []) ∵ fsplit ! $ move ! (1 ∷ 2 ∷ []) $
      use2 𝓛 (‵ (Own (ps ++ qs) xs)) (joined ps qs xs) $ move ! (1 ∷ 0 ∷ []) $ fjoin ! $ done !

  pub cut : (n : ℕ) (ps : List Ptr) → ent 𝓤 (sem 𝓛 (Own ps [])) (sep 𝓤 (sem 𝓛 (Own (take n ps) [])) (sem 𝓛 (Own (drop n ps) [])))
  cut zero ps = qed 𝓛 (‵ (Own ps []) ∷ []) ∵ nothing ! $ done !
  cut (suc n) [] = qed 𝓛 (‵ ftrue ∷ []) ∵ nothing ! $ done !
  cut (suc n) (p ∷ ps) = qed 𝓛 (‵ (Own (p ∷ ps) []) ∷ []) ∵ fsplit ! $ move ! (1 ∷ []) $
      use1 𝓛 (‵ (Own (take n ps) []) ⊛ ‵ (Own (drop n ps) [])) (cut n ps) $ split ! $ move ! (2 ∷ 0 ∷ []) $ fjoin ! $ done !

  pub of_room : (n b o : ℕ) → ent 𝓤 (H.room (ty_array (type_of R) n) b o) (sem 𝓛 (Own (row_from (type_size R) (block_ptr b o) n) []))
  of_room zero b o = qed 𝓛 (‵ (froom (ty_array (type_of R) 0) b o) ∷ []) ∵ keep ! [] $ done !
  of_room (suc n) b o = qed 𝓛 (‵ (froom (ty_array (type_of R) (suc n)) b o) ∷ []) ∵
      use1 𝓛 (‵ (froom (type_of R) b o) ⊛ ‵ (froom (ty_array (type_of R) n) b (o + type_size R))) (𝓛.laws.room_uncons (type_of R) n b o) $ split ! $
      use1 𝓛 (‵ (Free (block_ptr b o))) (𝓛.laws.room-raw (type_of R) b o) $ frame ! $ by ! (of_room n b (o + type_size R))

  pub to_room : (n b o : ℕ) → ent 𝓤 (sem 𝓛 (Own (row_from (type_size R) (block_ptr b o) n) [])) (H.room (ty_array (type_of R) n) b o)
  to_room zero b o = 𝓛.laws.room_nil (type_of R) b o
  to_room (suc n) b o = qed 𝓛 (‵ (Own (row_from (type_size R) (block_ptr b o) (suc n)) []) ∷ []) ∵ fsplit ! $
      use1 𝓛 (‵ (froom (type_of R) b o)) (𝓛.laws.raw-room (type_of R) b o) $ move ! (1 ∷ []) $
      use1 𝓛 (‵ (froom (ty_array (type_of R) n) b (o + type_size R))) (to_room n b (o + type_size R)) $ move ! (1 ∷ 0 ∷ []) $ by ! (𝓛.laws.room_cons (type_of R) n b o)
