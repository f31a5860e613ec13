use Rattle.vdb_c.proofs.Common.{◌+◌, ◌*◌, ◌<◌, ℕ, Cell, off}
use Rattle.vdb_c.specs.FromBox.{cell_at, cells_of}
use Rattle.vdb_c.proofs.GivenLeaves.{HaveCells, IsPartAt}
use Rattle.vdb_c.proofs.boxes.from_box.lay.Given as goal

abbrev pub invariant-planes : goal.invariant-planes
invariant-planes g l = record {
  part : IsPartAt l.fn.bounds l.strides l.fn.part l.fn.part.min l.offset l.first l.dx l.dy l.dz;
  given : (d : Cell g.row.V.Denot) → HaveCells (λ (n : ℕ × ℕ). (n.0 < l.dy + 1) × (n.1 < l.dz + 1)) (λ x n. l.offset + 64 * x + 8 * n.0 + n.1)
      (λ x n. cell_at g.V.PartialEq.eq g.T.Given.value l.background l.values (l.first + x * l.strides.x + n.0 * l.strides.y + n.1 * l.strides.z)) l.x (λ i. off l.background) (cells_of l.background l.blank l.leaf d);
}
