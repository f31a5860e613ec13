-- The ends of the block along each axis make its corners.
use Rattle.vdb_coord.proofs.Common.{SFits, w32, rules, refl, ◌∙◌, to_z-of_z}
use Rattle.vdb_coord.proofs.Coord.numbered_block_in.Goals as goal

pub returns : goal.returns
returns c =
    let sx : SFits w32 c.args.self.x = search rules in
    let sy : SFits w32 c.args.self.y = search rules in
    let sz : SFits w32 c.args.self.z = search rules in
    let fx : SFits w32 c.first_numbered.result = search rules in
    let fy : SFits w32 c.first_numbered-2.result = search rules in
    let fz : SFits w32 c.first_numbered-3.result = search rules in
    let lx : SFits w32 c.last_numbered.result = search rules in
    let ly : SFits w32 c.last_numbered-2.result = search rules in
    let lz : SFits w32 c.last_numbered-3.result = search rules in
    let ex = simp to_z-of_z at c.first_numbered.ensures in
    let ey = simp to_z-of_z at c.first_numbered-2.ensures in
    let ez = simp to_z-of_z at c.first_numbered-3.ensures in
    let gx = simp to_z-of_z at c.last_numbered.ensures in
    let gy = simp to_z-of_z at c.last_numbered-2.ensures in
    let gz = simp to_z-of_z at c.last_numbered-3.ensures in
    let made = simp to_z-of_z at c.between.ensures in
    made ∙ rw (ex, ey, ez, gx, gy, gz, c.block_bits-low.ensures) refl
