-- The voxels around a box that it activates, face after face.
use Rattle.vdb_morph.proofs.Common.{◌≡◌, ◌∙◌, sym, refl, ap, true, false, Bool, not, ◌&&◌, ◌||◌, cond, List, [], ◌∷◌, IsTrue, Option, Some, None, if◌then◌else◌, cons_option, filter_map, list_any, is_bounds, faces, neighbour, neighbours, toward, Box, everywhere, is_box, is_inside, is_within, Coord, Face, MinusX, PlusX, MinusY, PlusY, MinusZ, PlusZ, both, not_true, within_each, Cell, Field, field, fill, cell_inside, same_cells, is_behind, is_behind_any, spread, with_active}
use Rattle.vdb_morph.proofs.Layers.{apart}

-- ---- a face after others

-- the cell that the boxes behind faces get
abbrev pub active : Cell Bool
active = record { value = false; on = true }

or_true : (o : Bool) → true ≡ (o || true)
or_true true = refl
or_true false = refl

one_more : (t o r v : Bool) → v ≡ false → cond t active (record { value = v; on = o || r }) ≡ record { value = v; on = o || (t || r) }
one_more true o r v e = λ i. record { value = sym e i; on = or_true o i }
one_more false o r v e = refl

module _ (background : Bool) (cells : Coord → Cell Bool) (b : Box) where
  abbrev f : Field Bool
  f = field background cells

  module _ (face : Face) (rest : List Face) where
    abbrev others : Coord → Cell Bool
    others q = record { value = (f.cell q).value; on = (f.cell q).on || is_behind_any rest b q }

    -- the box behind the first face, after the later ones
    pub behind_next : (slab : Box) → ((q : Coord) → is_inside slab q ≡ is_behind face b q) → ((q : Coord) → (f.cell q).value ≡ false)
        → fill slab active (with_active (is_behind_any rest b) f) ≡ with_active (is_behind_any (face ∷ rest) b) f
    behind_next slab same values = same_cells background _ _ (λ q inside.
        let at = cell_inside background others q inside in
        ap (λ c. cond (is_inside slab q) active c) at ∙ one_more (is_inside slab q) (f.cell q).on (is_behind_any rest b q) (f.cell q).value (values q)
        ∙ ap (λ t. record { value = (f.cell q).value; on = (f.cell q).on || (t || is_behind_any rest b q) }) (same q))

    -- nothing lies there
    pub behind_skip : ((q : Coord) → IsTrue (is_inside everywhere q) → is_behind face b q ≡ false) → with_active (is_behind_any rest b) f ≡ with_active (is_behind_any (face ∷ rest) b) f
    behind_skip nowhere = same_cells background _ _ (λ q inside.
        ap (λ t. record { value = (f.cell q).value; on = (f.cell q).on || (t || is_behind_any rest b q) }) (sym (nowhere q inside)))

-- ---- all six faces

-- a test of the existing items
abbrev found : (Coord → Bool) → Option Coord → Bool
found t None = false
found t (Some q) = t q

any_found : (t : Coord → Bool) (g : Face → Option Coord) (fs : List Face) → list_any t (filter_map g fs) ≡ list_any (λ face. found t (g face)) fs
any_found t g [] = refl
any_found t g (face ∷ fs) = first (g face) (filter_map g fs) ∙ ap (λ r. found t (g face) || r) (any_found t g fs)
  where
    first : (o : Option Coord) (rest : List Coord) → list_any t (cons_option o rest) ≡ (found t o || list_any t rest)
    first None rest = refl
    first (Some q) rest = refl

swapped : (a b r s : Bool) → r ≡ s → ((b && true) || ((a && true) || r)) ≡ (a || (b || s))
swapped true true r s e = refl
swapped true false r s e = refl
swapped false true r s e = refl
swapped false false r s e = e

exchanged : (o i mx px my py mz pz : Bool) → (i ≡ true → o ≡ true)
    → (o || ((px && not i) || ((mx && not i) || ((py && not i) || ((my && not i) || ((pz && not i) || ((mz && not i) || false))))))) ≡ (o || (mx || (px || (my || (py || (mz || (pz || false)))))))
exchanged o true mx px my py mz pz on = rw (on refl) refl
exchanged o false mx px my py mz pz on = ap (λ t. o || t) (swapped mx px _ _ (swapped my py _ _ (swapped mz pz false false refl)))

module _ (b : Box) (bounds : is_bounds b ≡ true) (q : Coord) where
  -- the box has a neighbour at each voxel that lies behind one of its faces
  within : (face : Face) → found (is_inside b) (neighbour face q) ≡ is_inside b (toward face q)
  within face = either (is_inside everywhere (toward face q)) (toward face q) (within_each b everywhere (toward face q) (both (is_box b) (is_within b everywhere) bounds).1)
    where
      either : (t : Bool) (r : Coord) → (is_inside b r ≡ true → t ≡ true) → found (is_inside b) (if t then Some r else None) ≡ is_inside b r
      either true r h = refl
      either false r h = sym (not_true (is_inside b r) (λ i. apart (h i)))

  any_within : (fs : List Face) → list_any (λ face. found (is_inside b) (neighbour face q)) fs ≡ list_any (λ face. is_inside b (toward face q)) fs
  any_within [] = refl
  any_within (face ∷ fs) = ap (λ t. t || list_any (λ face. found (is_inside b) (neighbour face q)) fs) (within face) ∙ ap (λ t. is_inside b (toward face q) || t) (any_within fs)

  near : list_any (is_inside b) (neighbours q) ≡ list_any (λ face. is_inside b (toward face q)) faces
  near = any_found (is_inside b) (λ face. neighbour face q) faces ∙ any_within faces

  -- a voxel outside the box with a neighbour in it lies behind a face
  around : (o : Bool) → (is_inside b q ≡ true → o ≡ true) → (o || is_behind_any faces b q) ≡ (o || list_any (is_inside b) (neighbours q))
  around o on =
      exchanged o (is_inside b q) (is_inside b (toward MinusX q)) (is_inside b (toward PlusX q)) (is_inside b (toward MinusY q)) (is_inside b (toward PlusY q)) (is_inside b (toward MinusZ q)) (is_inside b (toward PlusZ q)) on
      ∙ ap (λ t. o || t) (sym near)

module _ (background : Bool) (cells : Coord → Cell Bool) (b : Box) (bounds : is_bounds b ≡ true) where
  -- if the box is active, it spreads to the voxels behind its faces
  pub active_behind : ((q : Coord) → IsTrue (is_inside b q) → ((field background cells).cell q).on ≡ true)
      → with_active (is_behind_any faces b) (field background cells) ≡ spread (is_inside b) (field background cells)
  active_behind on = same_cells background _ _ (λ q inside.
      let f = field background cells in
      ap (λ t. record { value = (f.cell q).value; on = t }) (around b bounds q (f.cell q).on (on q)))
