use Rattle.vdb_c.proofs.Common.{◌+◌, ◌*◌, ◌<◌, ℕ, Cell}
use Rattle.vdb_c.specs.FromBox.{cell_at, cells_of}
use Rattle.vdb_c.proofs.GivenLeaves.{HaveCells}
use Rattle.vdb_c.proofs.boxes.from_box.lay_rows.Given as goal

abbrev pub invariant-rows : goal.invariant-rows
invariant-rows g l =
    (d : Cell g.row.V.Denot) → HaveCells (λ (k : ℕ). k < l.count) (λ y k. l.offset + 8 * y + k) (λ y k. cell_at g.V.PartialEq.eq g.T.Given.value l.background l.values (l.first + y * l.step + k * l.stride))
    l.y (cells_of l.background l.fn.blank l.fn.leaf d) (cells_of l.background l.blank l.leaf d)
