use Rattle.vdb_composite.proofs.Common.{◌∙◌, ap, sym, vdb, Field, fill, field_of, blended}
use Rattle.vdb_composite.proofs.MixLeaves.{tile_adds}
use Rattle.vdb_composite.proofs.build.add_tile.Goals as goal

pub returns-in-Ok-clause-adds : goal.returns-in-Ok-clause-adds
returns-in-Ok-clause-adds g c = λ _.
    let f : Field g.row.V.Denot = field_of vdb c.args.tree.now in
    let h : Field g.row.V.Denot = field_of vdb c.args.other.now in
    let made : Field g.row.V.Denot = field_of vdb c.args.made.now in
    tile_adds (blended g.V.Voxel.greater g.V.Voxel.lesser g.V.Voxel.sum_of) c.args.mix c.args.bounds c.min.ensures.bounds f h made (field_of vdb c.paint.new.self) c.in-Some.cell
    (λ q i. rw (c.requires.first q i, c.requires.second q i) (sym c.of.ensures ∙ c.in-Some.is))
    (c.paint.ensures.field ∙ ap (λ (a : Field g.row.V.Denot). fill c.args.bounds c.in-Some.cell a) c.in-Ok.ensures.field)
