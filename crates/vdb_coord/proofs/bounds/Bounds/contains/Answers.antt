-- A box holds a coordinate if each component lies between the corners'.
use Rattle.vdb_coord.proofs.Common.{SFits, w32, rules, refl, to_z-of_z}
use Rattle.vdb_coord.proofs.bounds.Bounds.contains.Goals as goal

pub returns : goal.returns
returns c =
    let lx : SFits w32 c.self.inside.min.x = search rules in
    let ly : SFits w32 c.self.inside.min.y = search rules in
    let lz : SFits w32 c.self.inside.min.z = search rules in
    let hx : SFits w32 c.self.inside.max.x = search rules in
    let hy : SFits w32 c.self.inside.max.y = search rules in
    let hz : SFits w32 c.self.inside.max.z = search rules in
    let px : SFits w32 c.args.p.x = search rules in
    let py : SFits w32 c.args.p.y = search rules in
    let pz : SFits w32 c.args.p.z = search rules in
    let x = simp to_z-of_z at c.is_between-x.ensures in
    let y = simp to_z-of_z at c.is_between-y.ensures in
    let z = simp to_z-of_z at c.is_between-z.ensures in
    rw (← c.self.view_is) (rw (x, y, z) refl)
