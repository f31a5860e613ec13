use Rattle.vdb_c.proofs.Common.{◌≡◌, ◌+◌, ◌*◌, ◌<◌, ◌≤◌, ℕ, false, length, slice_index_or}
use Rattle.vdb_mask.specs.Mask.{is_on}
use Rattle.vdb_c.specs.FromBox.{cell_at}
use Rattle.vdb_c.proofs.boxes.from_box.read_row.Given as goal

abbrev pub invariant-voxels : goal.invariant-voxels
invariant-voxels g l = record {
  size : length l.row ≡ length l.fn.row;
  cells : (j : ℕ) (d : g.row.V.Denot) → j < l.k → record { value = slice_index_or l.row j d; on = is_on l.states j } ≡ cell_at g.V.PartialEq.eq g.T.Given.value l.background l.values (l.first + j * l.stride);
  past : (j : ℕ) → l.k ≤ j → is_on l.states j ≡ false;
}
