use Rattle.vdb_morph.proofs.Common.{◌≡◌, ◌∙◌, true, arith, block_around, offset, vdb, is_inside, Coord, Leaf, is_on, field_of, same_boxes, is_marked}
use Rattle.vdb_morph.proofs.BesideStates.{offset_low}
use Rattle.vdb_morph.proofs.Spreading.{marked_block, spread_alike}
use Rattle.vdb_morph.proofs.dilated.spread_voxels.Goals as goal

pub returns : goal.returns
returns c = λ ok.
    let block : c.args.bounds ≡ block_around vdb Leaf c.min-corner.result = same_boxes c.args.bounds c.block.result c.if-ne.ensures ∙ c.block.ensures in
    let all : (q : Coord) → is_on c.filled.result (offset vdb Leaf q) ≡ true = λ q. c.filled.ensures.within (offset vdb Leaf q) (offset_low q 8 (omega arith)) in
    c.spread_block.ensures ok
    ∙ spread_alike (is_marked vdb c.min-corner.result c.filled.result) (is_inside c.args.bounds) (field_of vdb c.args.states.now) (λ q inside. marked_block vdb c.min-corner.result c.args.bounds c.filled.result block all q)
