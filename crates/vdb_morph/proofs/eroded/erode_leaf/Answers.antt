use Rattle.vdb_morph.proofs.Common.{vdb, Field, cell_at, field_of, is_around}
use Rattle.vdb_morph.proofs.Eroding.{bounds_within, erodes_taken, is_around_part, taken_eroded}
use Rattle.vdb_morph.proofs.eroded.erode_leaf.Goals as goal

pub returns-clause-here : goal.returns-clause-here
returns-clause-here g c =
    let f : Field g.row.V.Denot = field_of vdb c.args.tree.now in
    let old = c.args.states.now in
    let part = c.args.part in
    let p = c.min.result in
    λ ok q i. taken_eroded f (is_around vdb p) old.background (cell_at vdb old) (field_of vdb c.erode_block.new.states) (c.erode_block.ensures ok) q (bounds_within part c.min.ensures.bounds q i)
    (is_around_part vdb f part c.args.leaf.now c.requires c.min.ensures.bounds p c.min.ensures.corner q i)

pub returns-clause-erodes : goal.returns-clause-erodes
returns-clause-erodes g c =
    let f : Field g.row.V.Denot = field_of vdb c.args.tree.now in
    let old = c.args.states.now in
    λ ok. erodes_taken f (is_around vdb c.min.result) old.background (cell_at vdb old) (field_of vdb c.erode_block.new.states) (c.erode_block.ensures ok)
