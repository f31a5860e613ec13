use Rattle.vdb_composite.proofs.Common.{vdb, Field, field_of, blended}
use Rattle.vdb_composite.proofs.MixLeaves.{leaf_adds}
use Rattle.vdb_composite.proofs.build.add_leaf.Goals as goal

pub returns-in-Ok-clause-adds : goal.returns-in-Ok-clause-adds
returns-in-Ok-clause-adds g c = λ _.
    let f : Field g.row.V.Denot = field_of vdb c.args.tree.now in
    let h : Field g.row.V.Denot = field_of vdb c.args.other.now in
    leaf_adds (blended g.V.Voxel.greater g.V.Voxel.lesser g.V.Voxel.sum_of) c.args.mix c.args.bounds c.min-corner.ensures.bounds f h (field_of vdb c.args.made.now) (field_of vdb c.write_leaf.new.self) vdb c.requires.block c.mix_cells.new.scratch
    (λ d q i. rw (c.take_cells.ensures d q i) (c.mix_cells.ensures c.if-not-mix_cells.false d q i))
    (rw c.min-corner.ensures.corner at c.in-Ok.ensures.outcome.0)
