-- Which keys of a table may belong to upper extents that meet a box.
use Rattle.vdb_tree.proofs.Common.{◌≡◌, ◌⊎◌, inl, inr, true, false, List, refl, sym, subst, ◌∙◌, IsTrue, Option, Some, None, IsSome, is_some, is_eq, is_gt, is_lt, Ordering, Less, Equal, Greater, key, Box, coord_cmp, is_inside, Bits, Coord, Upper, key_less, which_before, coord_equiv, none_before, Entry, root_at, IsNextMet}
use Rattle.vdb_tree.specs.Capacity.{IsNextMetEntry}
use Rattle.std.specs.Ordering.{is_some_and, ordering_then, partial_ordering_then}
use Rattle.vdb_tree.proofs.Levels.{some_held}

pub not_greater : (o : Ordering) → is_eq o ≡ true → is_gt o ≡ false
not_greater Less h = refl
not_greater Equal h = refl
not_greater Greater h = cc

-- what the test of two keys means
pub comes_past : (a b c : Ordering) → is_some_and is_lt (partial_ordering_then (Some a) (partial_ordering_then (Some b) (Some c))) ≡ true → ordering_then a (ordering_then b c) ≡ Less
comes_past Less b c h = refl
comes_past Equal Less c h = refl
comes_past Equal Equal Less h = refl
comes_past Equal Equal Equal h = cc
comes_past Equal Equal Greater h = cc
comes_past Equal Greater c h = cc
comes_past Greater b c h = cc

-- an option that has no value is absent
pub none_not : {A : Type 0} (o : Option A) → is_some o ≡ false → o ≡ None
none_not None h = refl
none_not (Some x) h = cc

module _ {V : Type 0} (bits : Bits) (box : Box) (root : List (Coord × Entry V)) where
  -- the key of a coordinate of the box comes no earlier than the key of the box's least corner
  from_first : (q : Coord) → IsTrue (is_inside box q) → (key bits q ≡ key bits box.min) ⊎ (coord_cmp (key bits box.min) (key bits q) ≡ Less)
  from_first q inside = elim (which_before (key bits q) (key bits box.min)) [
    | inl before ↦ absurd (none_before bits Upper box q inside before)
    | inr r ↦ elim r [
      | inl same ↦ inl same
      | inr later ↦ inr (key_less (key bits box.min) (key bits q) later)
    ]
  ]

  -- if the key of the least corner has an entry, it is the first
  pub met_first : IsSome (root_at root (key bits box.min)) → IsNextMet bits box root None (Some (key bits box.min))
  met_first held = (
    held,
    tt,
    λ k past met some. elim (from_first met.0 met.1) [
      | inl same ↦ subst (λ (j : Coord). is_gt (coord_cmp (key bits box.min) j) ≡ false) (sym same ∙ met.2) (not_greater _ (coord_equiv.refl (key bits box.min)))
      | inr later ↦ let e = subst (λ (j : Coord). coord_cmp (key bits box.min) j ≡ Less) met.2 later in rw e refl
    ],
  )

  -- if the key of the least corner has no entry, the next key past it is the first
  pub met_past_first : root_at root (key bits box.min) ≡ None → (o : Option Coord) → IsNextMet bits box root (Some (key bits box.min)) o → IsNextMet bits box root None o
  met_past_first none None next = λ k past met. elim (from_first met.0 met.1) [
    | inl same ↦ subst (λ (j : Coord). root_at root j ≡ None) (sym same ∙ met.2) none
    | inr later ↦ next k (subst (λ (j : Coord). coord_cmp (key bits box.min) j ≡ Less) met.2 later) met
  ]
  met_past_first none (Some n) next = (
    next.0,
    tt,
    λ k past met held. elim (from_first met.0 met.1) [
      | inl same ↦ absurd (some_held (root_at root k) held (subst (λ (j : Coord). root_at root j ≡ None) (sym same ∙ met.2) none))
      | inr later ↦ next.2 k (subst (λ (j : Coord). coord_cmp (key bits box.min) j ≡ Less) met.2 later) met held
    ],
  )

  -- the same for the next key with its entry
  pub met_past_first_entry : root_at root (key bits box.min) ≡ None → (o : Option (Coord × Entry V)) → IsNextMetEntry bits box root (Some (key bits box.min)) o → IsNextMetEntry bits box root None o
  met_past_first_entry none None next = met_past_first none None next
  met_past_first_entry none (Some n) next = (met_past_first none (Some n.0) next.0, next.1)
