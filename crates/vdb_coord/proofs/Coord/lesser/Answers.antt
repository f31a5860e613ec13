-- Each component is the lesser of two.
use Rattle.vdb_coord.proofs.Common.{SFits, w32, rules, refl, to_z-of_z}
use Rattle.vdb_coord.proofs.Coord.lesser.Goals as goal

pub returns : goal.returns
returns c =
    let sx : SFits w32 c.args.self.x = search rules in
    let sy : SFits w32 c.args.self.y = search rules in
    let sz : SFits w32 c.args.self.z = search rules in
    let ox : SFits w32 c.args.other.x = search rules in
    let oy : SFits w32 c.args.other.y = search rules in
    let oz : SFits w32 c.args.other.z = search rules in
    let rx : SFits w32 c.min.result = search rules in
    let ry : SFits w32 c.min-2.result = search rules in
    let rz : SFits w32 c.min-3.result = search rules in
    let x = simp to_z-of_z at c.min.ensures.value in
    let y = simp to_z-of_z at c.min-2.ensures.value in
    let z = simp to_z-of_z at c.min-3.ensures.value in
    simp to_z-of_z (rw (x, y, z) refl)
