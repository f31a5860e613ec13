use Rattle.vdb_morph.proofs.Common.{◌&&◌, ◌∙◌, Bool, vdb, Coord, field_of, is_around, is_marked}
use Rattle.vdb_morph.proofs.Spreading.{marked_states, spread_alike}
use Rattle.vdb_morph.proofs.dilated.spread_leaf.Goals as goal

pub returns : goal.returns
returns g c = λ ok.
    let p = c.args.p in
    let on : Coord → Bool = λ q. ((field_of vdb c.args.tree.now).cell q).on in
    c.spread_block.ensures ok
    ∙ spread_alike (is_marked vdb p c.block_states-marks.result) (λ q. is_around vdb p q && on q) (field_of vdb c.args.states.now) (marked_states vdb p on c.block_states-marks.result c.block_states-marks.ensures)
