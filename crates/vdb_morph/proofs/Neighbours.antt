-- Tests of the neighbours of a coordinate, which all lie within the range.
use Rattle.vdb_morph.proofs.Common.{◌≡◌, refl, ◌∙◌, Bool, true, false, ◌||◌, inl, inr, List, [], ◌∷◌, cons_option, filter_map, list_all, list_any, ◌⊎◌, Some, None, if◌then◌else◌, faces, neighbour, neighbours, toward, everywhere, is_inside, Coord, Face, or_cases, or_first, or_second}
use Rattle.std.specs.List.{AllByRecursion}

-- ---- any list

module _ {X : Type 0} (P : X → Type 0) (s t : X → Bool) where
  -- a test that follows from another where P holds
  any_weaker : (xs : List X) → AllByRecursion P xs → ((x : X) → P x → s x ≡ true → t x ≡ true) → list_any s xs ≡ true → list_any t xs ≡ true
  any_weaker [] all h e = e
  any_weaker (x ∷ xs) all h e = elim (or_cases (s x) (list_any s xs) e) [
    | inl here ↦ or_first (t x) (list_any t xs) (h x all.0 here)
    | inr there ↦ or_second (t x) (list_any t xs) (any_weaker xs all.1 h there)
  ]

  -- tests that agree if P holds
  any_alike : (xs : List X) → AllByRecursion P xs → ((x : X) → P x → s x ≡ t x) → list_any s xs ≡ list_any t xs
  any_alike [] all h = refl
  any_alike (x ∷ xs) all h = rw (h x all.0, any_alike xs all.1 h) refl

  all_alike : (xs : List X) → AllByRecursion P xs → ((x : X) → P x → s x ≡ t x) → list_all s xs ≡ list_all t xs
  all_alike [] all h = refl
  all_alike (x ∷ xs) all h = rw (h x all.0, all_alike xs all.1 h) refl

-- one of two tests passes
any_either : {X : Type 0} (s t : X → Bool) (xs : List X) → list_any (λ x. s x || t x) xs ≡ true → (list_any s xs ≡ true) ⊎ (list_any t xs ≡ true)
any_either s t [] e = inl e
any_either s t (x ∷ xs) e = elim (or_cases (s x || t x) (list_any (λ y. s y || t y) xs) e) [
  | inl here ↦ elim (or_cases (s x) (t x) here) [
    | inl one ↦ inl (or_first (s x) (list_any s xs) one)
    | inr other ↦ inr (or_first (t x) (list_any t xs) other)
  ]
  | inr there ↦ elim (any_either s t xs there) [
    | inl one ↦ inl (or_second (s x) (list_any s xs) one)
    | inr other ↦ inr (or_second (t x) (list_any t xs) other)
  ]
]

-- nothing passes a test that always fails
any_never : {X : Type 0} (xs : List X) → list_any (λ x. false) xs ≡ false
any_never [] = refl
any_never (x ∷ xs) = any_never xs

-- ---- neighbours

-- p lies within the range
abbrev pub InRange : Coord → Type 0
InRange p = is_inside everywhere p ≡ true

module _ (q : Coord) where
  -- a coordinate that lies there, before others
  one_more : (i : Bool) (p : Coord) (ps : List Coord) → is_inside everywhere p ≡ i → AllByRecursion InRange ps → AllByRecursion InRange (cons_option (if i then Some p else None) ps)
  one_more true p ps e all = (e, all)
  one_more false p ps e all = all

  -- each neighbour does
  behind_inside : (fs : List Face) → AllByRecursion InRange (filter_map (λ face. neighbour face q) fs)
  behind_inside [] = tt
  behind_inside (face ∷ fs) = one_more (is_inside everywhere (toward face q)) (toward face q) (filter_map (λ f. neighbour f q) fs) refl (behind_inside fs)

  all_inside : AllByRecursion InRange (neighbours q)
  all_inside = behind_inside faces

  -- tests that agree within the range agree for the neighbours
  pub any_near : (s t : Coord → Bool) → ((p : Coord) → InRange p → s p ≡ t p) → list_any s (neighbours q) ≡ list_any t (neighbours q)
  any_near s t h = any_alike InRange s t (neighbours q) all_inside h

  pub all_near : (s t : Coord → Bool) → ((p : Coord) → InRange p → s p ≡ t p) → list_all s (neighbours q) ≡ list_all t (neighbours q)
  all_near s t h = all_alike InRange s t (neighbours q) all_inside h

  -- if a neighbour passes a test, it also passes each test that follows from it within the range
  pub some_near : (s t : Coord → Bool) → ((p : Coord) → InRange p → s p ≡ true → t p ≡ true) → list_any s (neighbours q) ≡ true → list_any t (neighbours q) ≡ true
  some_near s t h = any_weaker InRange s t (neighbours q) all_inside h

  -- no neighbour passes a test that nothing passes within the range
  pub none_near : (s : Coord → Bool) → ((p : Coord) → InRange p → s p ≡ false) → list_any s (neighbours q) ≡ false
  none_near s h = any_near s (λ p. false) h ∙ any_never (neighbours q)

  -- a neighbour that passes one of two tests
  pub either_near : (r s t : Coord → Bool) → ((p : Coord) → InRange p → r p ≡ true → (s p || t p) ≡ true) → list_any r (neighbours q) ≡ true → (list_any s (neighbours q) ≡ true) ⊎ (list_any t (neighbours q) ≡ true)
  either_near r s t h e = any_either s t (neighbours q) (some_near r (λ p. s p || t p) h e)
