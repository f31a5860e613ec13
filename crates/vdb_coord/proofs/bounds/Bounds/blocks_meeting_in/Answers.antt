-- The blocks that meet a box are counted by their numbers.
use Rattle.vdb_coord.proofs.Common.{sym, ◌∙◌, ap, everywhere, is_box, is_within, volume}
use Rattle.vdb_coord.proofs.Boxes.{both}
use Rattle.vdb_coord.proofs.Counts.{blocks_meeting_is}
use Rattle.vdb_coord.proofs.bounds.Bounds.blocks_meeting_in.Goals as goal

pub returns : goal.returns
returns c =
    let b = c.args.self in
    c.volume.ensures.value ∙ ap volume c.block_numbers_in.ensures.numbers
    ∙ sym (blocks_meeting_is c.args.bits c.args.level b (both (is_box b) (is_within b everywhere) c.block_numbers_in.ensures.bounds).1)
