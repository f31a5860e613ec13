-- Parts in an array, before and after values are mapped to those of any type.
use Rattle.vdb_c.proofs.Common.{refl, ◌≡◌, ◌⊎◌, ◌∙◌, ap, inl, inr, sym, ℕ, ℤ, List, Option, vdb, Coord, Cell, as_cell_of, as_field_of, as_field_of_cell, Layout, cell_at, field_of, Scalar, value_number}
use Rattle.vdb_scene.specs.declared.scalar.Scalar.TheVariants as scalars
use Rattle.vdb_c.specs.Parts.{ArePartsPast, IsFlat, IsInParts, IsPartOf}
use Rattle.vdb_c.specs.Values.{state_number}
use Rattle.vdb_c.specs.declared.parts.GridPart.{GridPart}
use Rattle.vdb_c.proofs.parts.copy.Goals as goal

module _ {V : Type 0} (make : V → Scalar) (number : V → ℤ) (same : (v : V) → number v ≡ value_number (make v)) (t : Layout V) where
  made_cell : (q : Coord) → (as_field_of make (field_of vdb t)).cell q ≡ as_cell_of make ((field_of vdb t).cell q)
  made_cell q = as_field_of_cell make t.background (cell_at vdb t) q

  part_as : (p : GridPart) → IsPartOf number (field_of vdb t) p → IsPartOf value_number (as_field_of make (field_of vdb t)) p
  part_as p (inl leaf) = inl leaf
  part_as p (inr tile) = inr (λ q i. let is = tile q i in (
    is.0 ∙ same ((field_of vdb t).cell q).value ∙ ap (λ (c : Cell Scalar). value_number c.value) (sym (made_cell q)),
    is.1 ∙ ap (λ (c : Cell Scalar). state_number c.on) (sym (made_cell q)),
  ))

  either_as : (parts : List GridPart) (n : ℕ) (q : Coord) → IsInParts parts n q ⊎ IsFlat (field_of vdb t) q → IsInParts parts n q ⊎ IsFlat (as_field_of make (field_of vdb t)) q
  either_as parts n q (inl is_in) = inl is_in
  either_as parts n q (inr flat) = inr (made_cell q ∙ ap (as_cell_of make) flat)

  parts_as : (after : Option Coord) (n : ℕ) (old new : List GridPart) → ArePartsPast number (field_of vdb t) after n old new → ArePartsPast value_number (as_field_of make (field_of vdb t)) after n old new
  parts_as after n old new h = record {
    size = h.size;
    fits = h.fits;
    each = λ k l. part_as _ (h.each k l);
    on = h.on;
    apart = h.apart;
    all = λ q i past cases. either_as new n q (h.all q i past cases);
    others = h.others;
  }

pub returns-in-Bool : goal.returns-in-Bool
returns-in-Bool c = rw (c.in-Bool.is, ← c.tree.ensures) (parts_as scalars.Bool _ (λ v. refl) c.tree.result.now _ _ _ _ c.copy_parts.ensures)

pub returns-in-I32 : goal.returns-in-I32
returns-in-I32 c = rw (c.in-I32.is, ← c.tree-in-I32.ensures) (parts_as scalars.I32 _ (λ v. refl) c.tree-in-I32.result.now _ _ _ _ c.copy_parts-in-I32.ensures)

pub returns-in-I64 : goal.returns-in-I64
returns-in-I64 c = rw (c.in-I64.is, ← c.tree-in-I64.ensures) (parts_as scalars.I64 _ (λ v. refl) c.tree-in-I64.result.now _ _ _ _ c.copy_parts-in-I64.ensures)
