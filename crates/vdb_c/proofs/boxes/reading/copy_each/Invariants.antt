use Rattle.vdb_c.proofs.Common.{◌≡◌, ◌+◌, ◌<◌, ℕ, length, slice_index_or, cell_in, Cell}
use Rattle.vdb_c.proofs.boxes.reading.copy_each.Given as goal

abbrev pub invariant-loop-i : goal.invariant-loop-i
invariant-loop-i g l = record {
  size : length l.into ≡ length l.fn.into;
  copied : (d : Cell g.row.V.Denot) (j : ℕ) (e : g.row.T.Denot) → j < l.i → slice_index_or l.into j e ≡ g.S.Shown.of (cell_in d l.leaf (l.from + j));
}
