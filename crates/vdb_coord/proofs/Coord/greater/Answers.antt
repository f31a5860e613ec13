-- Each component is the greater of two.
use Rattle.vdb_coord.proofs.Common.{SFits, w32, rules, refl, to_z-of_z}
use Rattle.vdb_coord.proofs.Coord.greater.Goals as goal

pub returns : goal.returns
returns c =
    let sx : SFits w32 c.args.self.x = search rules in
    let sy : SFits w32 c.args.self.y = search rules in
    let sz : SFits w32 c.args.self.z = search rules in
    let ox : SFits w32 c.args.other.x = search rules in
    let oy : SFits w32 c.args.other.y = search rules in
    let oz : SFits w32 c.args.other.z = search rules in
    let rx : SFits w32 c.max.result = search rules in
    let ry : SFits w32 c.max-2.result = search rules in
    let rz : SFits w32 c.max-3.result = search rules in
    let x = simp to_z-of_z at c.max.ensures.value in
    let y = simp to_z-of_z at c.max-2.ensures.value in
    let z = simp to_z-of_z at c.max-3.ensures.value in
    simp to_z-of_z (rw (x, y, z) refl)
