use Rattle.vdb_script.proofs.Common.{◌≡◌, ◌∷◌, length, has_failed, source, cell_text}
use Rattle.vdb_scene.specs.Slices.{cells_left}
use Rattle.vdb_script.proofs.Pages.{AddedSoFar}
use Rattle.vdb_script.proofs.slices.add_cells.Given as goal

-- the cells so far were added, and the others are left
abbrev pub invariant-loop-cell : goal.invariant-loop-cell
invariant-loop-cell g l = record {
  added : AddedSoFar (λ c. 32 ∷ cell_text c) (cells_left l.fn.row) (cells_left l.row) (g.W.Write.contents (source l.fn.writer)) (g.W.Write.contents (source l.writer)) l.fn.page.items l.page.items;
  failed : has_failed l.writer ≡ has_failed l.fn.writer;
}

abbrev pub decreases-loop-cell : goal.decreases-loop-cell
decreases-loop-cell g l = length (cells_left l.row)
