-- Two boxes meet if they do along each axis.
use Rattle.vdb_coord.proofs.Common.{SFits, w32, rules, refl, to_z-of_z}
use Rattle.vdb_coord.proofs.bounds.Bounds.meets.Goals as goal

pub returns : goal.returns
returns c =
    let lx : SFits w32 c.self.inside.min.x = search rules in
    let ly : SFits w32 c.self.inside.min.y = search rules in
    let lz : SFits w32 c.self.inside.min.z = search rules in
    let hx : SFits w32 c.self.inside.max.x = search rules in
    let hy : SFits w32 c.self.inside.max.y = search rules in
    let hz : SFits w32 c.self.inside.max.z = search rules in
    let olx : SFits w32 c.other.inside.min.x = search rules in
    let oly : SFits w32 c.other.inside.min.y = search rules in
    let olz : SFits w32 c.other.inside.min.z = search rules in
    let ohx : SFits w32 c.other.inside.max.x = search rules in
    let ohy : SFits w32 c.other.inside.max.y = search rules in
    let ohz : SFits w32 c.other.inside.max.z = search rules in
    let x = simp to_z-of_z at c.touches-x.ensures in
    let y = simp to_z-of_z at c.touches-y.ensures in
    let z = simp to_z-of_z at c.touches-z.ensures in
    rw (← c.self.view_is, ← c.other.view_is) (rw (x, y, z) refl)
