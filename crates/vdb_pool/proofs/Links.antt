-- The stack of vacant slots: what a write to a slot does to the links.
use Rattle.vdb_pool.proofs.Common.{◌≡◌, ◌≢◌, inl, inr, ℕ, zero, suc, ◌<◌, List, [], ◌∷◌, ◌++◌, length, get_or, set, map, Option, Some, None, IsSome, slice_get, refl, sym, ap, subst, ◌∙◌, arith, true≢false, node_of, IsAmong, linked, IsStack, AreListed, Slot, Vacant, Held}
use Rattle.std.proofs.Common.{◌⊎◌}
use Rattle.vdb_pool.specs.Contents.{AreDistinct}
use Rattle.vdb_pool.specs.internal.Stack.{link_of}

module _ {X : Type 0} where
  -- what a write does elsewhere, and at its own index
  pub get_set_other : (xs : List X) (i j : ℕ) (y : X) → j ≢ i → slice_get (set xs i y) j ≡ slice_get xs j
  get_set_other [] i j y ne = refl
  get_set_other (x ∷ xs) zero zero y ne = absurd (ne refl)
  get_set_other (x ∷ xs) zero (suc j) y ne = refl
  get_set_other (x ∷ xs) (suc i) zero y ne = refl
  get_set_other (x ∷ xs) (suc i) (suc j) y ne = get_set_other xs i j y (λ e. ne (ap suc e))

  pub get_set_same : (xs : List X) (i : ℕ) (y : X) → i < length xs → slice_get (set xs i y) i ≡ Some y
  get_set_same [] i y lt = absurd (omega (arith, lt))
  get_set_same (x ∷ xs) zero y lt = refl
  get_set_same (x ∷ xs) (suc i) y lt = get_set_same xs i y (omega (arith, lt))

  -- what is read after a write was written, or was there
  pub get_set_either : (xs : List X) (i j : ℕ) (y x : X) → slice_get (set xs i y) j ≡ Some x → (j ≡ i) × (x ≡ y) ⊎ (slice_get xs j ≡ Some x)
  get_set_either [] i j y x e = inr e
  get_set_either (z ∷ xs) zero zero y x e = inl (refl, cc)
  get_set_either (z ∷ xs) zero (suc j) y x e = inr e
  get_set_either (z ∷ xs) (suc i) zero y x e = inr e
  get_set_either (z ∷ xs) (suc i) (suc j) y x e =
      elim (get_set_either xs i j y x e) as (λ _. (suc j ≡ suc i) × (x ≡ y) ⊎ (slice_get xs j ≡ Some x)) [
        | inl new ↦ inl (ap suc new.0, new.1)
        | inr old ↦ inr old
      ]

  -- what is read of a longer list was there, or is its last item
  pub get_pushed : (xs : List X) (y x : X) (j : ℕ) → slice_get xs j ≡ Some x → slice_get (xs ++ y ∷ []) j ≡ Some x
  get_pushed [] y x j e = cc
  get_pushed (z ∷ xs) y x zero e = e
  get_pushed (z ∷ xs) y x (suc j) e = get_pushed xs y x j e

  pub get_pushed_either : (xs : List X) (y x : X) (j : ℕ) → slice_get (xs ++ y ∷ []) j ≡ Some x → (x ≡ y) ⊎ (slice_get xs j ≡ Some x)
  get_pushed_either [] y x zero e = inl cc
  get_pushed_either [] y x (suc j) e = cc
  get_pushed_either (z ∷ xs) y x zero e = inr e
  get_pushed_either (z ∷ xs) y x (suc j) e = get_pushed_either xs y x j e

  pub get_pushed_where : (xs : List X) (y x : X) (j : ℕ) → slice_get (xs ++ y ∷ []) j ≡ Some x → (j ≡ length xs) ⊎ (slice_get xs j ≡ Some x)
  get_pushed_where [] y x zero e = inl refl
  get_pushed_where [] y x (suc j) e = cc
  get_pushed_where (z ∷ xs) y x zero e = inr e
  get_pushed_where (z ∷ xs) y x (suc j) e =
      elim (get_pushed_where xs y x j e) as (λ _. (suc j ≡ suc (length xs)) ⊎ (slice_get xs j ≡ Some x)) [
        | inl last ↦ inl (ap suc last)
        | inr old ↦ inr old
      ]

  pub get_pushed_last : (xs : List X) (y : X) (j : ℕ) → j ≡ length xs → slice_get (xs ++ y ∷ []) j ≡ Some y
  get_pushed_last [] y j e = ap (λ k. slice_get (y ∷ []) k) e
  get_pushed_last (z ∷ xs) y zero e = absurd (omega (arith, e))
  get_pushed_last (z ∷ xs) y (suc j) e = get_pushed_last xs y j (omega (arith, e))

module _ {T : Type 0} where
  -- a slot with a node is held, and one without is vacant
  pub held_at : (xs : List (Slot T)) (i : ℕ) → IsSome (get_or (map node_of xs) i None) → (x : T) × (slice_get xs i ≡ Some (Held x))
  held_at [] i some = absurd (true≢false (sym some))
  held_at (Vacant _ ∷ xs) zero some = absurd (true≢false (sym some))
  held_at (Held x ∷ xs) zero some = (x, refl)
  held_at (y ∷ xs) (suc i) some = held_at xs i some

  pub vacant_at : (xs : List (Slot T)) (i : ℕ) → i < length xs → get_or (map node_of xs) i None ≡ None → (next : Option ℕ) × (slice_get xs i ≡ Some (Vacant next))
  vacant_at [] i lt none = absurd (omega (arith, lt))
  vacant_at (Vacant next ∷ xs) zero lt none = (next, refl)
  vacant_at (Held x ∷ xs) zero lt none = cc
  vacant_at (y ∷ xs) (suc i) lt none = vacant_at xs i (omega (arith, lt)) none

  -- the stack, from its first slot on
  pub linked_top : (n : ℕ) (top : Option ℕ) (xs : List (Slot T)) (slot : ℕ) (next : Option ℕ) → top ≡ Some slot → slice_get xs slot ≡ Some (Vacant next)
      → linked (suc n) top xs ≡ slot ∷ linked n next xs
  linked_top n top xs slot next e found =
      ap (λ t. linked (suc n) t xs) e ∙ ap (λ (s : Option (Slot T)). slot ∷ linked n (link_of s) xs) found

  pub length-linked : (n : ℕ) (top : Option ℕ) (xs : List (Slot T)) → IsStack n top xs → length (linked n top xs) ≡ n
  length-linked zero top xs s = refl
  length-linked (suc n) top xs s = ap length (linked_top n top xs s.0 s.1 s.2 s.3) ∙ ap suc (length-linked n s.1 xs s.5)

  -- a write at a slot that is not on the stack keeps it
  pub kept : (n : ℕ) (top : Option ℕ) (xs : List (Slot T)) (i : ℕ) (y : Slot T) → IsStack n top xs → (IsAmong i (linked n top xs) → ⊥)
      → (linked n top (set xs i y) ≡ linked n top xs) × IsStack n top (set xs i y)
  kept zero top xs i y s off = (refl, s)
  kept (suc n) top xs i y s off =
      let first : linked (suc n) top xs ≡ s.0 ∷ linked n s.1 xs = linked_top n top xs s.0 s.1 s.2 s.3 in
      let other : s.0 ≢ i = λ same. off (subst (IsAmong i) (sym first) (inl (sym same))) in
      let rest = kept n s.1 xs i y s.5 (λ m. off (subst (IsAmong i) (sym first) (inr m))) in
      let found : slice_get (set xs i y) s.0 ≡ Some (Vacant s.1) = get_set_other xs i s.0 y other ∙ s.3 in (
        linked_top n top (set xs i y) s.0 s.1 s.2 found ∙ ap (λ l. s.0 ∷ l) rest.0 ∙ sym first,
        (s.0, s.1, s.2, found, (λ m. s.4 (subst (IsAmong s.0) rest.0 m)), rest.1),
      )

  -- one more slot keeps it
  pub pushed : (n : ℕ) (top : Option ℕ) (xs : List (Slot T)) (y : Slot T) → IsStack n top xs
      → (linked n top (xs ++ y ∷ []) ≡ linked n top xs) × IsStack n top (xs ++ y ∷ [])
  pushed zero top xs y s = (refl, s)
  pushed (suc n) top xs y s =
      let first : linked (suc n) top xs ≡ s.0 ∷ linked n s.1 xs = linked_top n top xs s.0 s.1 s.2 s.3 in
      let rest = pushed n s.1 xs y s.5 in
      let found : slice_get (xs ++ y ∷ []) s.0 ≡ Some (Vacant s.1) = get_pushed xs y (Vacant s.1) s.0 s.3 in (
        linked_top n top (xs ++ y ∷ []) s.0 s.1 s.2 found ∙ ap (λ l. s.0 ∷ l) rest.0 ∙ sym first,
        (s.0, s.1, s.2, found, (λ m. s.4 (subst (IsAmong s.0) rest.0 m)), rest.1),
      )

  -- each slot on the stack is vacant, so a held one is not on it
  pub on_stack : (n : ℕ) (top : Option ℕ) (xs : List (Slot T)) (i : ℕ) → IsStack n top xs → IsAmong i (linked n top xs)
      → (next : Option ℕ) × (slice_get xs i ≡ Some (Vacant next))
  on_stack zero top xs i s m = absurd m
  on_stack (suc n) top xs i s m =
      elim (subst (IsAmong i) (linked_top n top xs s.0 s.1 s.2 s.3) m) as (λ _. (next : Option ℕ) × (slice_get xs i ≡ Some (Vacant next))) [
        | inl same ↦ (s.1, ap (λ k. slice_get xs k) same ∙ s.3)
        | inr more ↦ on_stack n s.1 xs i s.5 more
      ]

  pub off_held : (n : ℕ) (top : Option ℕ) (xs : List (Slot T)) (i : ℕ) (x : T) → IsStack n top xs → slice_get xs i ≡ Some (Held x) → IsAmong i (linked n top xs) → ⊥
  off_held n top xs i x s found m = let other = (on_stack n top xs i s m).1 in cc

  -- no slot is on the stack twice
  pub linked_once : (n : ℕ) (top : Option ℕ) (xs : List (Slot T)) → IsStack n top xs → AreDistinct (linked n top xs)
  linked_once zero top xs s = tt
  linked_once (suc n) top xs s = subst AreDistinct (sym (linked_top n top xs s.0 s.1 s.2 s.3)) (s.4, linked_once n s.1 xs s.5)

  -- an empty stack, the slot on top of another one, and the rest below that
  pub none_of : (n : ℕ) (top : Option ℕ) (xs : List (Slot T)) → IsStack n top xs → top ≡ None → n ≡ 0
  none_of zero top xs s e = refl
  none_of (suc n) top xs s e = let some = s.2 in cc

  pub top_found : (n : ℕ) (top : Option ℕ) (xs : List (Slot T)) (slot : ℕ) → IsStack n top xs → top ≡ Some slot → (next : Option ℕ) × (slice_get xs slot ≡ Some (Vacant next))
  top_found zero top xs slot s e = cc
  top_found (suc n) top xs slot s e = let first = s.2 in let same : s.0 ≡ slot = cc in (s.1, subst (λ k. slice_get xs k ≡ Some (Vacant s.1)) same s.3)

  pub top_of : (n : ℕ) (top : Option ℕ) (xs : List (Slot T)) (slot : ℕ) (next : Option ℕ) → IsStack n top xs → top ≡ Some slot → slice_get xs slot ≡ Some (Vacant next)
      → (m : ℕ) × (n ≡ suc m) × (linked n top xs ≡ slot ∷ linked m next xs) × (IsAmong slot (linked m next xs) → ⊥) × IsStack m next xs
  top_of zero top xs slot next s e found = cc
  top_of (suc n) top xs slot next s e found =
      let first = s.2 in let there = s.3 in
      let same : s.0 ≡ slot = cc in let next_is : s.1 ≡ next = cc in (
        n,
        refl,
        linked_top n top xs slot next e found,
        (λ m. s.4 (subst (λ k. IsAmong k (linked n s.1 xs)) (sym same) (subst (λ k. IsAmong slot (linked n k xs)) (sym next_is) m))),
        subst (λ k. IsStack n k xs) next_is s.5,
      )

  -- which slots are listed, after each kind of write
  pub listed_held : (xs : List (Slot T)) (list : List ℕ) (i : ℕ) (x : T) → AreListed xs list → AreListed (set xs i (Held x)) list
  listed_held xs list i x all slot next found =
      elim (get_set_either xs i slot (Held x) (Vacant next) found) as (λ _. IsAmong slot list) [
        | inl new ↦ let same = new.1 in absurd cc
        | inr old ↦ all slot next old
      ]

  pub listed_vacant : (xs : List (Slot T)) (list : List ℕ) (i : ℕ) (link : Option ℕ) → AreListed xs list → AreListed (set xs i (Vacant link)) (i ∷ list)
  listed_vacant xs list i link all slot next found =
      elim (get_set_either xs i slot (Vacant link) (Vacant next) found) as (λ _. IsAmong slot (i ∷ list)) [
        | inl new ↦ inl new.0
        | inr old ↦ inr (all slot next old)
      ]

  pub listed_refilled : (xs : List (Slot T)) (list : List ℕ) (i : ℕ) (x : T) → i < length xs → AreListed xs (i ∷ list) → AreListed (set xs i (Held x)) list
  listed_refilled xs list i x within all slot next found =
      elim (listed_held xs (i ∷ list) i x all slot next found) as (λ _. IsAmong slot list) [
        | inl same ↦
            let written : slice_get (set xs i (Held x)) i ≡ Some (Held x) = get_set_same xs i (Held x) within in
            let read : slice_get (set xs i (Held x)) i ≡ Some (Vacant next) = subst (λ k. slice_get (set xs i (Held x)) k ≡ Some (Vacant next)) same found in absurd cc
        | inr more ↦ more
      ]

  pub listed_pushed : (xs : List (Slot T)) (list : List ℕ) (x : T) → AreListed xs list → AreListed (xs ++ Held x ∷ []) list
  listed_pushed xs list x all slot next found =
      elim (get_pushed_either xs (Held x) (Vacant next) slot found) as (λ _. IsAmong slot list) [
        | inl same ↦ absurd cc
        | inr old ↦ all slot next old
      ]

  pub listed_pushed_vacant : (xs : List (Slot T)) (list : List ℕ) (used : ℕ) (link : Option ℕ) → used ≡ length xs → AreListed xs list → AreListed (xs ++ Vacant link ∷ []) (used ∷ list)
  listed_pushed_vacant xs list used link e all slot next found =
      elim (get_pushed_where xs (Vacant link) (Vacant next) slot found) as (λ _. IsAmong slot (used ∷ list)) [
        | inl last ↦ inl (last ∙ sym e)
        | inr old ↦ inr (all slot next old)
      ]
