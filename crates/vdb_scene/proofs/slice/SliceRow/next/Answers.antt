use Rattle.vdb_scene.proofs.Common.{◌≡◌, ◌∙◌, ap, refl, rules, map, ◌∷◌, Cell, numbers_left, Scalar}
use Rattle.vdb_scene.specs.Slices.{row_cell}
use Rattle.vdb_scene.proofs.slice.SliceRow.next.Goals as goal

pub returns-in-Some : goal.returns-in-Some
returns-in-Some c =
    let row = c.args.self.now in
    let x = c.in-Some.x in
    let ahead : numbers_left row.x row.last ≡ x ∷ numbers_left c.advance.new.next row.last = search rules in
    let cell : row_cell row x ≡ c.cell.result = search rules in
    rw c.cell.ensures.same (ap (map (row_cell row)) ahead ∙ ap (λ (first : Cell Scalar). first ∷ map (row_cell row) (numbers_left c.advance.new.next row.last)) cell, refl)
