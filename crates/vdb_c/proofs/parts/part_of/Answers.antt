use Rattle.vdb_c.proofs.Common.{◌≡◌, ◌∙◌, ap, arith, inl, inr, ints, of_z, refl, rules, subst, sym, to_z, vdb, w32, w64, Box, Cell, IsInOneLeaf, IsTrue, is_inside}
use Rattle.vdb_c.specs.Values.{state_number}
use Rattle.vdb_c.proofs.PartsPast.{box_by}
use Rattle.vdb_c.proofs.parts.part_of.Goals as goal

pub returns-in-Tile-clause-part : goal.returns-in-Tile-clause-part
returns-in-Tile-clause-part g c =
    let box = box_by _ _ c.args.bounds (c.corner.ensures ∙ c.min.ensures.corner) (c.corner-2.ensures ∙ c.max.ensures.corner) in
    let cells = rw c.in-Tile.is at c.requires.tile in
    let value : to_z w64 (of_z w64 c.number.result) ≡ c.number.result = first_of (search rules, omega (arith, ints)) in
    let state : to_z w32 (of_z w32 c.state_number.result) ≡ c.state_number.result = first_of (search rules, omega (arith, ints)) in
    inr (λ q i.
    let here = cells q (subst (λ (b : Box). IsTrue (is_inside b q)) box i) in (
      value ∙ c.number.ensures ∙ ap (λ (x : Cell g.row.V.Denot). g.V.Number.number_of x.value) (sym here),
      state ∙ c.state_number.ensures ∙ ap (λ (x : Cell g.row.V.Denot). state_number x.on) (sym here),
    ))

pub returns-in-Leaf-clause-part : goal.returns-in-Leaf-clause-part
returns-in-Leaf-clause-part g c =
    let box = box_by _ _ c.args.bounds (c.corner.ensures ∙ c.min.ensures.corner) (c.corner-2.ensures ∙ c.max.ensures.corner) in
    let leaf = rw c.in-Leaf.is at c.requires.leaf in
    inl (refl, subst (IsInOneLeaf vdb) (sym box) leaf.block)
