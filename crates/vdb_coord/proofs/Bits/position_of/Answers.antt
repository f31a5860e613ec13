-- The positions of an index are small.
use Rattle.vdb_coord.proofs.Ranges.{signed_positions}
use Rattle.vdb_coord.proofs.Bits.position_of.Goals as goal

pub returns : goal.returns
returns c =
    rw (c.from.ensures, c.from-2.ensures, c.width-count.ensures.value, c.node_bits.ensures) (signed_positions c.args.self c.args.level c.args.index c.requires.configured c.requires.within)
