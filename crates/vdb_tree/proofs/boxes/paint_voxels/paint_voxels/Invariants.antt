use Rattle.vdb_coord.specs.Walk.{coordinates_after}
use Rattle.vdb_tree.proofs.PaintedVoxels.{PaintsVoxelsTo}
use Rattle.vdb_tree.proofs.boxes.paint_voxels.paint_voxels.Given as goal

abbrev pub invariant-loop-next : goal.invariant-loop-next
invariant-loop-next g l = PaintsVoxelsTo l.fn.bits l.fn.part l.fn.cell l.fn.leaf l.leaf l.p

abbrev pub decreases-loop-next : goal.decreases-loop-next
decreases-loop-next g l = coordinates_after l.p
