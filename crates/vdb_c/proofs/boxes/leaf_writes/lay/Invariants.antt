use Rattle.vdb_c.proofs.Common.{◌≤◌, coordinates_after, change_at}
use Rattle.vdb_c.proofs.LeafFields.{AreLaidUpTo}
use Rattle.vdb_c.proofs.boxes.leaf_writes.lay.Given as goal

abbrev pub invariant-row : goal.invariant-row
invariant-row g l = AreLaidUpTo g.V.GridValue.as_scalar (change_at g.V.Voxel.KIND l.values l.states) l.bounds l.strides l.part l.max l.p l.index l.fn.leaf l.leaf × (coordinates_after l.p ≤ coordinates_after l.initial.p)

abbrev pub decreases-row : goal.decreases-row
decreases-row g l = coordinates_after l.p

abbrev pub invariant-rows : goal.invariant-rows
invariant-rows g l = AreLaidUpTo g.V.GridValue.as_scalar (change_at g.V.Voxel.KIND l.values l.states) l.bounds l.strides l.part l.max l.p l.index l.fn.leaf l.leaf

abbrev pub decreases-rows : goal.decreases-rows
decreases-rows g l = coordinates_after l.p
