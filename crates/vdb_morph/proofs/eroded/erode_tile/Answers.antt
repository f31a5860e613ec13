use Rattle.vdb_morph.proofs.Common.{vdb, Field, cell_at, field_of, same_boxes, is_around}
use Rattle.vdb_morph.proofs.Eroding.{bounds_within, erodes_taken, is_around_block, taken_eroded}
use Rattle.vdb_morph.proofs.eroded.erode_tile.Goals as goal

pub returns-clause-here : goal.returns-clause-here
returns-clause-here g c =
    let f : Field g.row.V.Denot = field_of vdb c.args.tree.now in
    let old = c.args.states.now in
    let p = c.min-corner.result in
    let same = same_boxes c.args.bounds c.block.result c.if-ne.ensures in
    λ ok q i either. taken_eroded f (is_around vdb p) old.background (cell_at vdb old) (field_of vdb c.erode_block.new.states) (c.erode_block.ensures ok) q (bounds_within c.args.bounds c.min-corner.ensures.bounds q i)
    (is_around_block vdb p c.args.bounds c.block.result same c.block.ensures q i)

pub returns-clause-erodes : goal.returns-clause-erodes
returns-clause-erodes g c =
    let f : Field g.row.V.Denot = field_of vdb c.args.tree.now in
    let old = c.args.states.now in
    λ ok. erodes_taken f (is_around vdb c.min-corner.result) old.background (cell_at vdb old) (field_of vdb c.erode_block.new.states) (c.erode_block.ensures ok)
