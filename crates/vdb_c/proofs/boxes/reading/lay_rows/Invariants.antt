use Rattle.vdb_c.proofs.Common.{◌≡◌, IsTrue, length, offset, vdb, is_inside, coordinates_after, cell_in, Cell, is_first, rank, IsLaid}
use Rattle.vdb_coord.specs.declared.Level.TheVariants.{Leaf as leaf_level}
use Rattle.vdb_c.proofs.boxes.reading.lay_rows.Given as goal

abbrev pub invariant-rows : goal.invariant-rows
invariant-rows g l = record {
  inside : IsTrue (is_inside l.part l.p);
  size : length l.out ≡ length l.fn.out;
  laid : (d : Cell g.row.V.Denot) → IsLaid l.bounds l.strides (is_first l.part (rank l.part l.p)) (λ q. g.S.Shown.of (cell_in d l.leaf (offset vdb leaf_level q))) l.fn.out l.out;
}

abbrev pub decreases-rows : goal.decreases-rows
decreases-rows g l = coordinates_after l.p
