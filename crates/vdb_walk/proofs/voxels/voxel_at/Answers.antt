-- The positions of an entry make its voxel.
use Rattle.vdb_walk.proofs.Common.{SFits, w32, rules, to_z-of_z, Leaf}
use Rattle.vdb_coord.proofs.Positions.{index_positions}
use Rattle.vdb_walk.proofs.VoxelRows.{voxel_positions}
use Rattle.vdb_walk.proofs.voxels.voxel_at.Goals as goal

pub component_at-requires-clause-within : goal.component_at-requires-clause-within
component_at-requires-clause-within c = rw (c.width-count.ensures.value, c.from-leaf.ensures) (index_positions c.args.bits Leaf c.args.entry c.requires.within).0

pub returns : goal.returns
returns c =
    let px : SFits w32 c.args.p.x = search rules in
    let py : SFits w32 c.args.p.y = search rules in
    let pz : SFits w32 c.args.p.z = search rules in
    let fx : SFits w32 c.component_at.result = search rules in
    let fy : SFits w32 c.component_at-2.result = search rules in
    let fz : SFits w32 c.component_at-3.result = search rules in
    let ex = simp to_z-of_z at c.component_at.ensures in
    let ey = simp to_z-of_z at c.component_at-2.ensures in
    let ez = simp to_z-of_z at c.component_at-3.ensures in
    simp to_z-of_z (rw (ex, ey, ez, c.width-count.ensures.value, c.from-leaf.ensures) (voxel_positions c.args.bits c.args.p c.args.entry))
