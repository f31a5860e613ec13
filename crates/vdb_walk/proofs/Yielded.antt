-- The first voxel that a listing yields is the first of those left before.
use Rattle.vdb_walk.proofs.Common.{◌≡◌, inl, inr, sym, ap, ◌∙◌, refl, Bool, true, false, List, [], ◌∷◌, Option, Some, None, find, is_past, Bits, Coord, Listed, past}
use Rattle.std.specs.Prelude.{filter}
use Rattle.vdb_walk.specs.Reports.{Yields}

module _ {X : Type 0} (test : X → Bool) where
  head_found : (xs : List X) (x : X) (rest : List X) → filter test xs ≡ x ∷ rest → find test xs ≡ Some x
  head_found [] x rest e = cc
  head_found (y ∷ ys) x rest e = by (test y) refl (head_found ys x rest)
    where
      head_of : (l : List X) → y ∷ l ≡ x ∷ rest → y ≡ x
      head_of l h = cc

      by : (b : Bool) → test y ≡ b → (filter test ys ≡ x ∷ rest → find test ys ≡ Some x) → find test (y ∷ ys) ≡ Some x
      by true t more = rw t (ap (λ (z : X). Some z) (head_of (filter test ys) (rw t at e)))
      by false t more = rw t (more (rw t at e))

  none_found : (xs : List X) → filter test xs ≡ [] → find test xs ≡ None
  none_found [] e = refl
  none_found (y ∷ ys) e = by (test y) refl (none_found ys)
    where
      cons_nil : (l : List X) → y ∷ l ≡ [] → ⊥
      cons_nil l h = cc

      by : (b : Bool) → test y ≡ b → (filter test ys ≡ [] → find test ys ≡ None) → find test (y ∷ ys) ≡ None
      by true t more = absurd (cons_nil (filter test ys) (rw t at e))
      by false t more = rw t (more (rw t at e))

pub first_yielded : {V : Type 0} (bits : Bits) (last : Option Coord) (xs : List (Coord × V)) (old new : Listed V) (result : Option (Coord × V))
    → old ≡ record { rest = past bits last xs; left = 1 } → Yields old result new → result ≡ find (λ item. is_past bits last item.0) xs
first_yielded {V} bits last xs old new (Some item) e h = sym (head_found (λ (i : Coord × V). is_past bits last i.0) xs item new.rest (sym (ap (λ (l : Listed V). l.rest) e) ∙ h.0))
first_yielded {V} bits last xs old new None e h = elim h.0 [
  | inl none ↦ sym (none_found (λ (i : Coord × V). is_past bits last i.0) xs (sym (ap (λ (l : Listed V). l.rest) e) ∙ none))
  | inr nothing ↦ let one = ap (λ (l : Listed V). l.left) e in cc
]
