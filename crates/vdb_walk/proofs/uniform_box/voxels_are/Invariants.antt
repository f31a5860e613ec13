use Rattle.vdb_tree.specs.Layout.{bits_of, field_of}
use Rattle.vdb_walk.proofs.PartCells.{IsCellBelow}
use Rattle.vdb_walk.proofs.uniform_box.voxels_are.Given as goal

abbrev pub invariant-loop-index : goal.invariant-loop-index
invariant-loop-index g l =
    let bits = bits_of g.row.U g.row.L g.row.F in
    IsCellBelow bits (field_of bits l.tree) l.part l.cell l.index
