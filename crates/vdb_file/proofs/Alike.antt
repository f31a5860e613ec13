-- The encoding of a scene depends only on the cells in the range of coordinates.
use Rattle.vdb_file.proofs.Common.{◌≡◌, ℕ, suc, true, List, [], ◌∷◌, ◌++◌, length, refl, sym, ap, subst, codes, Contains, flat_map, w16, w32, to_be_bytes, block, block_numbers, vdb, coordinates, everywhere, is_inside, Coord, Upper, numbered_in_range, number_in_block, Field, kind_of, scalar_bytes, scalar_eq, Grid, Scene, Scalar, counted, grid_bytes, head_bytes, kind_bytes, pairs_bytes, spelling}
use Rattle.vdb_file.specs.Alike.{AreAlike, IsLike}
use Rattle.vdb_file.specs.Bodies.{roots_bytes}
use Rattle.vdb_file.proofs.Agreement.{Agree}
use Rattle.vdb_file.proofs.RowInstances.{is_root_row, member_inside}
use Rattle.vdb_file.proofs.Rows.{held_same, texts_same}
use Rattle.vdb_file.proofs.Scenes.{scalar_values}
use Rattle.vdb_file.proofs.Standard.{standard_bits}

-- ---- fields with one background and the same cells in the range

module _ (f g : Field Scalar) (background : f.background ≡ g.background) (agree : Agree f g everywhere) where
  -- each root block lies in the range
  agree_in_root : (k : Coord) → Contains (coordinates (block_numbers vdb Upper)) k → Agree f g (block vdb Upper k)
  agree_in_root k member = record {
    same = λ p inside.
        agree.same p
        (numbered_in_range vdb Upper standard_bits p (subst (λ (n : Coord). is_inside (block_numbers vdb Upper) n ≡ true) (sym (number_in_block vdb Upper k p inside)) (member_inside vdb k member)));
  }

  -- the fields have the same root blocks, with the same bytes
  roots_same : roots_bytes scalar_eq scalar_bytes vdb f ≡ roots_bytes scalar_eq scalar_bytes vdb g
  unfolding roots_bytes
  roots_same =
      let values = scalar_values (kind_of f.background) in
      let row = is_root_row values vdb standard_bits in
      let keys = held_same values row f g background agree_in_root in
      let texts = texts_same values row f g background agree_in_root in
      λ j. to_be_bytes w32 (length (keys j)) ++ texts j

-- ---- grids and scenes

-- grids that are like each other have the same bytes
grid_same : (d e : List ℕ × Grid) → IsLike d e → grid_bytes head_bytes d ≡ grid_bytes head_bytes e
grid_same d e like =
    let roots = roots_same d.1.field e.1.field like.background (record { same = like.cells }) in
    λ j. counted (like.name j) ++ (kind_bytes (like.background j) ++ ((to_be_bytes w32 (like.limit j) ++ pairs_bytes (like.pairs j)) ++ roots j))

grids_same : (a b : Scene) → AreAlike a b → (length a ≡ length b) × (flat_map (grid_bytes head_bytes) a ≡ flat_map (grid_bytes head_bytes) b)
grids_same [] [] alike = (refl, refl)
grids_same [] (e ∷ b) alike = absurd alike
grids_same (d ∷ a) [] alike = absurd alike
grids_same (d ∷ a) (e ∷ b) alike =
    let one = grid_same d e alike.0 in
    let rest = grids_same a b alike.1 in
    (ap suc rest.0, λ j. one j ++ rest.1 j)

-- scenes that are alike have the same encoding
pub same_spelling : (a b : Scene) → AreAlike a b → spelling a ≡ spelling b
same_spelling a b alike =
    let grids = grids_same a b alike in
    λ j. codes "VDBS" ++ (to_be_bytes w16 2 ++ (to_be_bytes w16 (grids.0 j) ++ grids.1 j))
