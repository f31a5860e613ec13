-- A box spreads to the voxels behind its faces.
use Rattle.vdb_morph.proofs.Common.{◌∙◌, vdb, cell_at}
use Rattle.vdb_morph.proofs.SpreadBoxes.{active_behind}
use Rattle.vdb_morph.proofs.dilated.spread_box.Goals as goal

pub returns : goal.returns
returns c = λ ok.
    let old = c.args.states.now in
    c.fill_behind.ensures ok ∙ active_behind old.background (cell_at vdb old) c.args.bounds c.min.ensures.bounds c.requires.on
