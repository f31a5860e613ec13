-- Erosion face by face, in a leaf extent and at a voxel.
use Rattle.vdb_morph.proofs.Common.{◌≡◌, refl, sym, ap, ◌∙◌, ℕ, ◌+◌, ◌<◌, Bool, true, false, List, [], ◌∷◌, take, get_or, inl, inr, IsTrue, ◌&&◌, if◌then◌else◌, filter_map, list_all, block_number, block_numbers, offset, AreBits, faces, neighbour, toward, everywhere, is_inside, Bits, Coord, Leaf, Face, block_in_range, number_in_range, is_on, Field, erode, bool_cases, state_beside, HasStates, state_behind, is_around}
use Rattle.std.proofs.Math.Bool.{and-true}
use Rattle.std.proofs.lemmas.List.Folds.{list_all_more}
use Rattle.vdb_morph.specs.internal.BlockStates.{HasStatesBehind}
use Rattle.vdb_morph.proofs.BlockStates.{around_number, number_around}
use Rattle.vdb_morph.proofs.Crossings.{crosses}

kept : (s : Coord → Bool) (q : Coord) (xs : List Face)
    → list_all s (filter_map (λ face. neighbour face q) xs) ≡ list_all (λ face. if is_inside everywhere (toward face q) then s (toward face q) else true) xs
kept s q [] = refl
kept s q (face ∷ xs) =
    elim (bool_cases (is_inside everywhere (toward face q))) [
      | inl e ↦ rw (e, kept s q xs) refl
      | inr e ↦ rw (e, kept s q xs) refl
    ]

module _ {V : Type 0} (f : Field V) where
  -- whether a voxel is active and the voxels behind each of these faces are active
  abbrev pub stays_by : List Face → Coord → Bool
  stays_by xs q = (f.cell q).on && list_all (λ face. state_behind f face q) xs

  -- a voxel stays active by its six faces
  pub eroded_is : (q : Coord) → IsTrue (is_inside everywhere q) → stays_by faces q ≡ ((erode f).cell q).on
  eroded_is q inside = rw inside (ap (λ b. (f.cell q).on && b) (sym (kept (λ r. (f.cell r).on) q faces)))

  and_more : (a b c : Bool) → ((a && b) && c) ≡ (a && (b && c))
  and_more true b c = refl
  and_more false b c = refl

  -- by no face
  pub stays_first : (q : Coord) → (f.cell q).on ≡ stays_by [] q
  stays_first q = sym (and-true (f.cell q).on)

  -- by one face more
  pub stays_more : (i : ℕ) (face : Face) (q : Coord) → i < 6 → (stays_by (take i faces) q && state_behind f (get_or faces i face) q) ≡ stays_by (take (i + 1) faces) q
  stays_more i face q few =
      and_more (f.cell q).on (list_all (λ x. state_behind f x q) (take i faces)) (state_behind f (get_or faces i face) q)
      ∙ ap (λ b. (f.cell q).on && b) (sym (list_all_more (λ x. state_behind f x q) faces i face few))

module _ {V : Type 0} (bits : Bits) (configured : AreBits bits) (f : Field V) (face : Face) (p : Coord) where
  -- the voxel behind the face of a voxel of p's block, if it leaves that block, lies in the block behind the block's face
  next_block : (q : Coord) → IsTrue (is_around bits p q) → is_around bits q (toward face q) ≡ false → block_number bits Leaf (toward face q) ≡ toward face (block_number bits Leaf p)
  next_block q around past =
      elim (crosses bits face q) [
        | inl e ↦ absurd (unlike past (number_around bits q (toward face q) e))
        | inr e ↦ e ∙ ap (toward face) (around_number bits p q around)
      ]
    where
      unlike : {b : Bool} → b ≡ false → b ≡ true → ⊥
      unlike n y = let never : false ≡ true = sym n ∙ y in cc

  -- so its state is in that block
  pub there_behind : (r : Coord) (mask : List Bool) → IsTrue (is_inside everywhere r) → block_number bits Leaf r ≡ toward face (block_number bits Leaf p) → HasStates bits f r mask → HasStatesBehind bits f face p mask
  there_behind r mask inside_r behind has q inside around past =
      let e : block_number bits Leaf (toward face q) ≡ block_number bits Leaf r = next_block q around past ∙ sym behind in
      let inside_there = block_in_range bits Leaf configured r (toward face q) inside_r e in
      rw inside_there (has (toward face q) inside_there (number_around bits r (toward face q) e))

  -- and if there is no such block, the voxel lies past the range
  pub nowhere_behind : (mask : List Bool) → ((q : Coord) → is_on mask (offset bits Leaf q) ≡ true) → is_inside (block_numbers bits Leaf) (toward face (block_number bits Leaf p)) ≡ false
      → HasStatesBehind bits f face p mask
  nowhere_behind mask on nowhere q inside around past =
      elim (bool_cases (is_inside everywhere (toward face q))) [
        | inl e ↦
            let within : is_inside (block_numbers bits Leaf) (block_number bits Leaf (toward face q)) ≡ true = number_in_range bits Leaf (toward face q) e in
            let never : false ≡ true = sym nowhere ∙ ap (is_inside (block_numbers bits Leaf)) (sym (next_block q around past)) ∙ within in cc
        | inr e ↦ rw e (on (toward face q))
      ]

  -- the state behind a face of a voxel, from the masks of both blocks
  pub beside_behind : IsTrue (is_inside everywhere p) → (own other : List Bool) → HasStates bits f p own → HasStatesBehind bits f face p other
      → (q : Coord) → IsTrue (is_inside everywhere q) → IsTrue (is_around bits p q) → state_beside bits own other face q ≡ state_behind f face q
  beside_behind inside_p own other has behind q inside around =
      elim (bool_cases (is_around bits q (toward face q))) [
        | inl e ↦
            let same = around_number bits q (toward face q) e ∙ around_number bits p q around in
            let inside_there = block_in_range bits Leaf configured p (toward face q) inside_p same in
            rw (e, inside_there) (has (toward face q) inside_there (number_around bits p (toward face q) same))
        | inr e ↦ rw e (behind q inside around e)
      ]
