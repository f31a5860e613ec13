-- What a leaf extent makes active around it, face by face and voxel by voxel.
use Rattle.vdb_morph.proofs.Common.{◌≡◌, ◌≢◌, refl, sym, ap, ◌∙◌, inl, inr, ◌⊎◌, ℕ, Bool, false, ◌&&◌, ◌||◌, List, IsTrue, list_any, or-false, block_number, block_numbers, offset, AreBits, faces, toward, coord_eq, everywhere, is_inside, Bits, Coord, Leaf, Face, block_in_range, number_in_range, is_on, Field, coord_cases, like_coords, unlike_coords, opposite, state_beside, is_over, is_around, is_marked, spread, with_active}
use Rattle.std.proofs.lemmas.Bool.{both_ways, and_left, and_right}
use Rattle.vdb_morph.proofs.Activating.{active_same, active_twice, spread_is}
use Rattle.vdb_morph.proofs.Crossings.{back, crosses, forth, toward_apart}

module _ (bits : Bits) (p : Coord) (mask : List Bool) where
  -- no voxel outside the range is marked
  pub marked_inside : AreBits bits → IsTrue (is_inside everywhere p) → (q : Coord) → is_inside everywhere q ≡ false → is_marked bits p mask q ≡ false
  marked_inside few inside q out =
      elim (coord_cases (block_number bits Leaf q) (block_number bits Leaf p)) [
        | inl e ↦ absurd (both_ways _ out (block_in_range bits Leaf few p q inside e))
        | inr d ↦ and_left _ _ (unlike_coords _ _ d)
      ]

  -- ---- by the states behind a face

  module _ (none over : List Bool) (face : Face) (off : (i : ℕ) → is_on none i ≡ false) (beside : (q : Coord) → is_on over (offset bits Leaf q) ≡ state_beside bits none mask face q) where
    -- q lies in the block behind the opposite face, and its mask says which voxels lie over the face
    abbrev IsThere : Coord → Type 0
    IsThere q = (block_number bits Leaf q ≡ toward (opposite face) (block_number bits Leaf p)) × (is_over bits p mask face q ≡ is_on over (offset bits Leaf q))

    -- or no voxel lies over the face at q, and the mask has none if q lies in that block
    abbrev IsNowhere : Coord → Type 0
    IsNowhere q = (is_over bits p mask face q ≡ false) × (block_number bits Leaf q ≡ toward (opposite face) (block_number bits Leaf p) → is_on over (offset bits Leaf q) ≡ false)

    -- the neighbour behind the face lies in q's own block
    within : (q : Coord) → block_number bits Leaf (toward face q) ≡ block_number bits Leaf q → is_on over (offset bits Leaf q) ≡ false
    within q e = beside q ∙ rw (like_coords (block_number bits Leaf (toward face q)) (block_number bits Leaf q) e) (off _)

    -- it lies in another block
    without : (q : Coord) → block_number bits Leaf (toward face q) ≡ toward face (block_number bits Leaf q) → is_on over (offset bits Leaf q) ≡ is_on mask (offset bits Leaf (toward face q))
    without q e = beside q ∙ rw (unlike_coords (block_number bits Leaf (toward face q)) (block_number bits Leaf q) (λ s. toward_apart face (block_number bits Leaf q) (sym e ∙ s))) refl

    -- the neighbour lies in p's block
    over_at : (q : Coord) → block_number bits Leaf (toward face q) ≡ block_number bits Leaf p → IsThere q ⊎ IsNowhere q
    over_at q e =
        elim (crosses bits face q) [
          | inl c ↦ inr (rw (like_coords (block_number bits Leaf q) (block_number bits Leaf p) (sym c ∙ e)) refl, λ _. within q c)
          | inr c ↦
              let here : block_number bits Leaf q ≡ toward (opposite face) (block_number bits Leaf p) = sym (back face (block_number bits Leaf q)) ∙ ap (toward (opposite face)) (sym c ∙ e) in
              let apart : block_number bits Leaf q ≢ block_number bits Leaf p = λ s. toward_apart face (block_number bits Leaf q) (sym c ∙ e ∙ sym s) in
              inl (here, rw (unlike_coords (block_number bits Leaf q) (block_number bits Leaf p) apart, like_coords (block_number bits Leaf (toward face q)) (block_number bits Leaf p) e) (sym (without q c)))
        ]

    -- it lies outside p's block
    over_away : (q : Coord) → block_number bits Leaf (toward face q) ≢ block_number bits Leaf p → IsNowhere q
    over_away q d = (
      and_right _ _ (and_left _ _ (unlike_coords (block_number bits Leaf (toward face q)) (block_number bits Leaf p) d)),
      λ here. elim (crosses bits face q) [
        | inl c ↦ within q c
        | inr c ↦ absurd (d (c ∙ ap (toward face) here ∙ forth face (block_number bits Leaf p)))
      ],
    )

    over_cases : (q : Coord) → IsThere q ⊎ IsNowhere q
    over_cases q =
        elim (coord_cases (block_number bits Leaf (toward face q)) (block_number bits Leaf p)) [
          | inl e ↦ over_at q e
          | inr d ↦ inr (over_away q d)
        ]

    -- the voxels over the face, if the block behind the opposite face is r's
    pub over_is : (r : Coord) → block_number bits Leaf r ≡ toward (opposite face) (block_number bits Leaf p) → (q : Coord) → is_marked bits r over q ≡ is_over bits p mask face q
    over_is r e q =
        elim (over_cases q) [
          | inl h ↦ rw (like_coords (block_number bits Leaf q) (block_number bits Leaf r) (h.0 ∙ sym e)) (sym h.1)
          | inr h ↦
              elim (coord_cases (block_number bits Leaf q) (block_number bits Leaf r)) [
                | inl s ↦ and_right _ _ (h.1 (s ∙ e)) ∙ sym h.0
                | inr d ↦ and_left _ _ (unlike_coords _ _ d) ∙ sym h.0
              ]
        ]

    -- no voxel in the range, if no such block exists
    pub over_beyond : is_inside (block_numbers bits Leaf) (toward (opposite face) (block_number bits Leaf p)) ≡ false
        → (q : Coord) → IsTrue (is_inside everywhere q) → is_over bits p mask face q ≡ false
    over_beyond out q inside =
        elim (over_cases q) [
          | inl h ↦ absurd (both_ways _ out (ap (is_inside (block_numbers bits Leaf)) (sym h.0) ∙ number_in_range bits Leaf q inside))
          | inr h ↦ h.0
        ]

  -- the block spreads to what it activates within itself and over its faces
  module _ (own : List Bool) (among : (q : Coord) → is_on own (offset bits Leaf q) ≡ list_any (λ face. is_around bits q (toward face q) && is_on mask (offset bits Leaf (toward face q))) faces) where
    words_at : (q : Coord) → (is_marked bits p own q || list_any (λ face. is_over bits p mask face q) faces) ≡ list_any (λ face. is_marked bits p mask (toward face q)) faces
    words_at q =
        elim (coord_cases (block_number bits Leaf q) (block_number bits Leaf p)) [
          | inl e ↦ rw (like_coords (block_number bits Leaf q) (block_number bits Leaf p) e) (or-false _ ∙ among q
              ∙ ap (λ n. list_any (λ face. coord_eq (block_number bits Leaf (toward face q)) n && is_on mask (offset bits Leaf (toward face q))) faces) e)
          | inr d ↦ rw (unlike_coords (block_number bits Leaf q) (block_number bits Leaf p) d) refl
        ]

    pub words_spread : {V : Type 0} (f : Field V) → AreBits bits → IsTrue (is_inside everywhere p)
        → with_active (λ q. list_any (λ face. is_over bits p mask face q) faces) (with_active (is_marked bits p own) f) ≡ spread (is_marked bits p mask) f
    words_spread f few inside =
        active_twice f _ _ ∙ active_same f _ _ (λ q _. words_at q) ∙ sym (spread_is f (is_marked bits p mask) (marked_inside few inside))
