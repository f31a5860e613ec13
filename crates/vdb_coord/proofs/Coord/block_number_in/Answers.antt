-- The number along each axis, which lies among those of the range.
use Rattle.vdb_coord.proofs.Common.{SFits, w32, rules, refl, to_z-of_z}
use Rattle.vdb_coord.proofs.Meeting.{fits_everywhere, number_within}
use Rattle.vdb_coord.proofs.Coord.block_number_in.Goals as goal

pub returns-clause-number : goal.returns-clause-number
returns-clause-number c =
    let fx : SFits w32 c.args.self.x = search rules in
    let fy : SFits w32 c.args.self.y = search rules in
    let fz : SFits w32 c.args.self.z = search rules in
    let rx : SFits w32 c.number_at-x.result = search rules in
    let ry : SFits w32 c.number_at-y.result = search rules in
    let rz : SFits w32 c.number_at-z.result = search rules in
    let x = simp to_z-of_z at c.number_at-x.ensures in
    let y = simp to_z-of_z at c.number_at-y.ensures in
    let z = simp to_z-of_z at c.number_at-z.ensures in
    simp to_z-of_z (rw (x, y, z, c.block_bits-low.ensures) refl)

pub returns-clause-within : goal.returns-clause-within
returns-clause-within c =
    let fx : SFits w32 c.args.self.x = search rules in
    let fy : SFits w32 c.args.self.y = search rules in
    let fz : SFits w32 c.args.self.z = search rules in
    let rx : SFits w32 c.number_at-x.result = search rules in
    let ry : SFits w32 c.number_at-y.result = search rules in
    let rz : SFits w32 c.number_at-z.result = search rules in
    let x = simp to_z-of_z at c.number_at-x.ensures in
    let y = simp to_z-of_z at c.number_at-y.ensures in
    let z = simp to_z-of_z at c.number_at-z.ensures in
    simp to_z-of_z (rw (x, y, z, c.block_bits-low.ensures) (number_within c.args.bits c.args.level c.args.self (fits_everywhere c.args.self fx fy fz)))
