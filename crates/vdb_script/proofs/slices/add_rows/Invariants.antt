use Rattle.vdb_script.proofs.Common.{◌≡◌, length, has_failed, source, row_line}
use Rattle.vdb_scene.specs.Slices.{rows_left}
use Rattle.vdb_script.proofs.Pages.{AddedSoFar}
use Rattle.vdb_script.proofs.slices.add_rows.Given as goal

-- the rows so far were added, and the others are left
abbrev pub invariant-loop-row : goal.invariant-loop-row
invariant-loop-row g l = record {
  added : AddedSoFar row_line (rows_left l.fn.slice) (rows_left l.slice) (g.W.Write.contents (source l.fn.writer)) (g.W.Write.contents (source l.writer)) l.fn.page.items l.page.items;
  failed : has_failed l.writer ≡ has_failed l.fn.writer;
}

abbrev pub decreases-loop-row : goal.decreases-loop-row
decreases-loop-row g l = length (rows_left l.slice)
