-- Arrays that calls fill element by element.
use Rattle.vdb_c.proofs.Common.{◌≡◌, ◌<◌, ◌≤◌, ◌≢◌, ◌⊎◌, inl, inr, ℕ, ◌+◌, refl, sym, ◌∙◌, ap, subst, Bool, true, false, IsTrue, List, length, take, set, get_or, arith, get_or-set_same, get_or-set_other, cases_eq, nat_tests, length-set, length-take-le, get_or_default, Coord, Cell, as_cell_of, as_field_of, field, as_field_of_cell, state_byte, Corner}
use Rattle.std.proofs.Common.{map}
use mir.Val.{bool_byte}
use Rattle.std.proofs.lemmas.List.{length-map, same_lists, get_or-map, get_or-take}
use Rattle.std.proofs.Math.Path.{fun_ext}
use Rattle.vdb_c.specs.Many.{IsReadAt, is_beside}

module _ {A X : Type 0} (f : A → X) where
  -- the first k elements of an array have what f makes of those of another one
  abbrev pub IsFilled : List A → List X → ℕ → Type 0
  IsFilled at xs k = (i : ℕ) (a : A) (d : X) → i < k → i < length xs → get_or xs i d ≡ f (get_or at i a)

  filled_at : (at : List A) (xs : List X) (k : ℕ) (a : A) → k < length at → a ≡ get_or at k a → IsFilled at xs k
      → (i : ℕ) (b : A) (d : X) → i < k + 1 → i < length xs → (i ≡ k) ⊎ (i ≢ k) → get_or (set xs k (f a)) i d ≡ f (get_or at i b)
  filled_at at xs k a l e h i b d lt within (inl same) =
      let here : k < length xs = omega arith in
      rw same (get_or-set_same xs k (f a) d here ∙ ap f (e ∙ get_or_default at k a b l))
  filled_at at xs k a l e h i b d lt within (inr other) =
      get_or-set_other xs k i (f a) d other ∙ h i b d (omega arith) within

  -- one more element
  pub filled_next : (at : List A) (xs ys : List X) (k : ℕ) (a : A) (x : X) → k < length at → a ≡ get_or at k a → x ≡ f a → ys ≡ set xs k x → IsFilled at xs k → IsFilled at ys (k + 1)
  filled_next at xs ys k a x l e is stored h =
      let now : ys ≡ set xs k (f a) = stored ∙ ap (set xs k) is in
      subst (λ (zs : List X). IsFilled at zs (k + 1)) (sym now)
      (λ i b d lt within. filled_at at xs k a l e h i b d lt (omega (arith, within, length-set xs k (f a))) (cases_eq i k))

  -- all elements
  pub filled_all : (at : List A) (old xs : List X) (k : ℕ) (a : A) → length xs ≡ length old → length at ≤ k → length old ≤ length at → IsFilled at xs k → xs ≡ map f (take (length old) at)
  filled_all at old xs k a len e fits h =
      let size : length (take (length old) at) ≡ length old = length-take-le (length old) at fits in
      same_lists xs (map f (take (length old) at)) (len ∙ sym (length-map (take (length old) at) f ∙ size))
      (λ i d lt.
      let below : i < length old = omega arith in
      let within : i < length (take (length old) at) = omega arith in
      h i a d (omega arith) lt ∙ sym (get_or-map f (take (length old) at) i a d within ∙ ap f (get_or-take (length old) at i a below)))

-- an array beside voxels isn't longer
pub beside_fits : (count len : ℕ) → IsTrue (is_beside count len) → len ≤ count
beside_fits count len h = grind (arith, nat_tests)

-- a state as a byte
pub byte_is : (on : Bool) → bool_byte on ≡ state_byte on
byte_is true = refl
byte_is false = refl

-- what arrays have of a field, and of the field with its values mapped
module _ {V W X : Type 0} (make : V → W) (background : V) (cells : Coord → Cell V) (of : Cell V → X) (by : Cell W → X) (same : (c : Cell V) → of c ≡ by (as_cell_of make c)) where
  pub read_as : (at : List Corner) (old new : List X) → IsReadAt (λ p. of ((field background cells).cell p)) at old new → IsReadAt (λ p. by ((as_field_of make (field background cells)).cell p)) at old new
  read_as at old new h =
      subst (λ (f : Coord → X). IsReadAt f at old new) (fun_ext (λ p. same ((field background cells).cell p) ∙ ap by (sym (as_field_of_cell make background cells p)))) h
