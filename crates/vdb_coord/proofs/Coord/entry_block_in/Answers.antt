-- The positions of an index make the corners of its entry.
use Rattle.vdb_coord.proofs.Common.{SFits, w32, rules, sym, ◌∙◌, to_z-of_z}
use Rattle.vdb_coord.proofs.Positions.{index_positions, sub_block_is}
use Rattle.vdb_coord.proofs.Coord.entry_block_in.Goals as goal

pub entry_first-requires-clause-within : goal.entry_first-requires-clause-within
entry_first-requires-clause-within c =
    rw (c.from.ensures, c.width-count.ensures.value, c.node_bits-node.ensures) (index_positions c.args.bits c.args.level c.args.index c.requires.within).0

pub entry_last-requires-clause-within : goal.entry_last-requires-clause-within
entry_last-requires-clause-within c =
    rw (c.from.ensures, c.width-count.ensures.value, c.node_bits-node.ensures) (index_positions c.args.bits c.args.level c.args.index c.requires.within).0

pub returns : goal.returns
returns c =
    let sx : SFits w32 c.args.self.x = search rules in
    let sy : SFits w32 c.args.self.y = search rules in
    let sz : SFits w32 c.args.self.z = search rules in
    let fx : SFits w32 c.entry_first.result = search rules in
    let fy : SFits w32 c.entry_first-2.result = search rules in
    let fz : SFits w32 c.entry_first-3.result = search rules in
    let lx : SFits w32 c.entry_last.result = search rules in
    let ly : SFits w32 c.entry_last-2.result = search rules in
    let lz : SFits w32 c.entry_last-3.result = search rules in
    let ex = simp to_z-of_z at c.entry_first.ensures in
    let ey = simp to_z-of_z at c.entry_first-2.ensures in
    let ez = simp to_z-of_z at c.entry_first-3.ensures in
    let gx = simp to_z-of_z at c.entry_last.ensures in
    let gy = simp to_z-of_z at c.entry_last-2.ensures in
    let gz = simp to_z-of_z at c.entry_last-3.ensures in
    let made = simp to_z-of_z at c.between.ensures in
    made ∙ rw (ex, ey, ez, gx, gy, gz, c.from.ensures, c.from-2.ensures, c.width-count.ensures.value, c.entry_bits-low.ensures, c.node_bits-node.ensures)
    (sym (sub_block_is c.args.bits c.args.level c.args.self c.args.index))
