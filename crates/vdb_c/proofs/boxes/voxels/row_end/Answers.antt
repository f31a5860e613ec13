use Rattle.vdb_c.proofs.Common.{subst, sym, rules, IsTrue, SFits, w32, to_z-of_z, coord, is_inside, Coord}
use Rattle.vdb_c.proofs.RowFields.{end_inside}
use Rattle.vdb_c.proofs.boxes.voxels.row_end.Goals as goal

pub returns-clause-inside : goal.returns-clause-inside
returns-clause-inside c =
    let x : SFits w32 c.args.p.x = search rules in
    let y : SFits w32 c.args.p.y = search rules in
    let z : SFits w32 c.max-max.result.z = search rules in
    rw (to_z-of_z w32 c.args.p.x x, to_z-of_z w32 c.args.p.y y, to_z-of_z w32 c.max-max.result.z z)
    (subst (λ (m : Coord). IsTrue (is_inside c.args.bounds (coord c.args.p.x c.args.p.y m.z))) (sym c.max-max.ensures.corner) (end_inside c.args.bounds c.args.p c.requires))
