use Rattle.vdb_c.proofs.Common.{◌≤◌, coordinates_after, cell_in, Cell, vdb, content_cell}
use Rattle.vdb_c.proofs.RowsLaid.{AreLaidUpTo}
use Rattle.vdb_c.proofs.boxes.reading.lay_voxels.Given as goal

abbrev pub invariant-row : goal.invariant-row
invariant-row g l = AreLaidUpTo {D = Cell g.row.V.Denot} l.bounds l.strides l.part (λ d q. g.S.Shown.of (content_cell vdb (λ leaf. cell_in d leaf.now) l.content q)) l.max l.p l.index l.fn.out l.out × (coordinates_after l.p ≤ coordinates_after l.initial.p)

abbrev pub decreases-row : goal.decreases-row
decreases-row g l = coordinates_after l.p

abbrev pub invariant-rows : goal.invariant-rows
invariant-rows g l = AreLaidUpTo {D = Cell g.row.V.Denot} l.bounds l.strides l.part (λ d q. g.S.Shown.of (content_cell vdb (λ leaf. cell_in d leaf.now) l.content q)) l.max l.p l.index l.fn.out l.out

abbrev pub decreases-rows : goal.decreases-rows
decreases-rows g l = coordinates_after l.p
