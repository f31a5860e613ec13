use Rattle.vdb_file.proofs.Common.{◌≡◌, ◌≤◌, ℕ, ◌-◌, ◌*◌, ◌+◌, List, length, take, Option, byte_count, cell_in, off, vdb, Coord, Stock, position}
use Rattle.vdb_file.specs.internal.Reading.{passed}
use Rattle.vdb_file.proofs.LeafReads.{AreCells, HasRead}
use Rattle.vdb_file.proofs.loading.leaf.read_voxels.Given as goal

-- the voxels of the bytes so far were read into the leaf, whatever is behind the bytes
abbrev pub invariant-rows : goal.invariant-rows
invariant-rows g l = record {
  few : l.n ≤ l.count;
  reached : l.at ≡ l.n * (3 + byte_count g.V.Voxel.KIND);
  cells : AreCells g.V.Voxel.is_value vdb (cell_in (off l.background) l.leaf);
  each : (p : Coord) (s : Stock) (known : Option (List ℕ)) → l.bytes ≡ take (length l.bytes) s.unread → length l.bytes ≤ s.capacity
      → HasRead g.V.PartialEq.eq g.V.Voxel.bytes_of vdb l.background p (cell_in (off l.background) l.leaf) (position s known) (position (passed l.at s) known) l.n l.before;
}

-- the same without rows
abbrev pub invariant-voxels : goal.invariant-voxels
invariant-voxels g l = record {
  few : l.n ≤ l.count;
  reached : l.at ≡ l.n * (3 + byte_count g.V.Voxel.KIND);
  cells : AreCells g.V.Voxel.is_value vdb (cell_in (off l.background) l.leaf);
  each : (p : Coord) (s : Stock) (known : Option (List ℕ)) → l.bytes ≡ take (length l.bytes) s.unread → length l.bytes ≤ s.capacity
      → HasRead g.V.PartialEq.eq g.V.Voxel.bytes_of vdb l.background p (cell_in (off l.background) l.leaf) (position s known) (position (passed l.at s) known) l.n l.before;
}

-- the voxels that are left
abbrev pub decreases-rows : goal.decreases-rows
decreases-rows g l = l.count - l.n

abbrev pub decreases-voxels : goal.decreases-voxels
decreases-voxels g l = l.count - l.n
