use Rattle.vdb_file.proofs.Common.{◌≡◌, ◌<◌, ℕ, ◌+◌, ◌*◌, length, byte_count}
use Rattle.std.specs.List.{slice_range}
use Rattle.std.specs.Prelude.{slice_index_or}
use Rattle.vdb_file.specs.internal.LeafVoxels.{IsActive}
use Rattle.vdb_file.proofs.loading.leaf.next_row.Given as goal

-- the voxels so far are active, and their numbers are consecutive
abbrev pub invariant-row : goal.invariant-row
invariant-row g l = record {
  size : length l.values ≡ 8;
  voxels : (j : ℕ) (d : g.row.V.Denot) → j < l.k → IsActive g.V.PartialEq.eq g.V.Voxel.bytes_of g.V.Voxel.is_value (l.first + j) (slice_index_or l.values j d)
      (slice_range l.bytes (j * (3 + byte_count g.V.Voxel.KIND)) (j * (3 + byte_count g.V.Voxel.KIND) + (3 + byte_count g.V.Voxel.KIND)));
}
