-- Items that a listing yields.
use Rattle.vdb_script.proofs.Common.{◌≡◌, ◌≢◌, refl, sym, ap, ◌∙◌, ℕ, zero, suc, ◌<◌, ◌≤◌, Bool, true, false, List, [], ◌∷◌, Some, None, ◌⊎◌, inl, inr, length, take, drop, IsTrue, arith, nat_lt, Coord}
use Rattle.std.proofs.lemmas.Bool.{le-ltb, lt-ltb}
use Rattle.vdb_walk.specs.Reports.{Yields, Listed}

either : (n m : ℕ) → (n < m) ⊎ (m ≤ n)
either n m = grind arith

not_true : (b : Bool) → (IsTrue b → ⊥) → b ≡ false
not_true true h = absurd (h refl)
not_true false h = refl

module _ {V : Type 0} where
  some_none : (x : Coord × V) (xs : List (Coord × V)) → x ∷ xs ≡ [] → ⊥
  some_none x xs e = cc

  -- the next is the first of those before the listing
  pub next_of : (old new : Listed V) (item : Coord × V) → Yields old (Some item) new → take old.left old.rest ≡ item ∷ take new.left new.rest
  next_of old new item h = ap (λ n. take n old.rest) h.1 ∙ ap (take (suc new.left)) h.0

  -- the voxels after its limit stay
  pub behind_next : (old new : Listed V) (item : Coord × V) → Yields old (Some item) new → drop new.left new.rest ≡ drop old.left old.rest
  behind_next old new item h = sym (ap (λ n. drop n old.rest) h.1 ∙ ap (drop (suc new.left)) h.0)

  take_none : (n : ℕ) (xs : List (Coord × V)) → xs ≡ [] → take n xs ≡ []
  take_none zero xs e = refl
  take_none (suc n) [] e = refl
  take_none (suc n) (x ∷ xs) e = absurd (some_none x xs e)

  drop_none : (n : ℕ) (xs : List (Coord × V)) → xs ≡ [] → drop n xs ≡ []
  drop_none zero xs e = e
  drop_none (suc n) [] e = refl
  drop_none (suc n) (x ∷ xs) e = absurd (some_none x xs e)

  -- at the end no voxel is left to yield
  pub none_of : (old new : Listed V) → Yields old None new → take old.left old.rest ≡ []
  none_of old new h = elim h.0 [ inl none ↦ take_none old.left old.rest none | inr limit ↦ ap (λ n. take n old.rest) limit ]

  drop_some : (n : ℕ) (xs : List (Coord × V)) → n < length xs → drop n xs ≡ [] → ⊥
  drop_some n [] h e = omega (arith, h)
  drop_some zero (x ∷ xs) h e = some_none x xs e
  drop_some (suc n) (x ∷ xs) h e = drop_some n xs (omega (arith, h)) e

  drop_all : (n : ℕ) (xs : List (Coord × V)) → length xs ≤ n → drop n xs ≡ []
  drop_all n [] h = drop_none n [] refl
  drop_all zero (x ∷ xs) h = absurd (omega (arith, h))
  drop_all (suc n) (x ∷ xs) h = drop_all n xs (omega (arith, h))

  -- whether more follow than a limit
  pub more_than : (more : Bool) (n : ℕ) (xs rest : List (Coord × V)) → rest ≡ drop n xs → (IsTrue more → rest ≢ []) × (rest ≢ [] → IsTrue more) → more ≡ nat_lt n (length xs)
  more_than more n xs rest is h = elim (either n (length xs)) [
    | inl over ↦ h.1 (λ none. drop_some n xs over (sym is ∙ none)) ∙ sym (lt-ltb n (length xs) over)
    | inr within ↦ not_true more (λ yes. h.0 yes (is ∙ drop_all n xs within)) ∙ sym (le-ltb n (length xs) within)
  ]

-- a listing from the first voxel on
module _ {V : Type 0} (l : Listed V) (m limit : ℕ) (xs : List (Coord × V)) (is : l ≡ record { rest = xs; left = limit }) (same : m ≡ limit) where
  pub first_items : take m l.rest ≡ take limit xs
  first_items = ap (λ n. take n l.rest) same ∙ ap (λ (k : Listed V). take limit k.rest) is

  pub last_items : drop m l.rest ≡ drop limit xs
  last_items = ap (λ n. drop n l.rest) same ∙ ap (λ (k : Listed V). drop limit k.rest) is
