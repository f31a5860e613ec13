use Rattle.vdb_file.proofs.Common.{◌+◌, ◌*◌}
use Rattle.vdb_file.proofs.LeafVoxels.{AreEncoded}
use Rattle.vdb_file.proofs.saving.leaves.encode_voxels.Given as goal

-- the voxels of the rows passed are encoded
abbrev pub invariant-rows : goal.invariant-rows
invariant-rows g l = AreEncoded g.V.PartialEq.eq g.V.Voxel.bytes_of l.leaf l.background (64 * l.k) l.len l.count l.bytes

-- and those before this one in its row
abbrev pub invariant-row : goal.invariant-row
invariant-row g l = AreEncoded g.V.PartialEq.eq g.V.Voxel.bytes_of l.leaf l.background (64 * l.k + l.j) l.len l.count l.bytes
