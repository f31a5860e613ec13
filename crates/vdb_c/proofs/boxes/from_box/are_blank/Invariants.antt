use Rattle.vdb_c.proofs.Common.{◌≡◌, ◌+◌, ◌*◌, ◌<◌, ℕ, true, off}
use Rattle.vdb_c.specs.FromBox.{cell_at}
use Rattle.vdb_c.proofs.boxes.from_box.are_blank.Given as goal

abbrev pub invariant-voxels : goal.invariant-voxels
invariant-voxels g l = l.blank ≡ true → (j : ℕ) → j < l.k → cell_at g.V.PartialEq.eq g.T.Given.value l.background l.values (l.first + j * l.stride) ≡ off l.background
