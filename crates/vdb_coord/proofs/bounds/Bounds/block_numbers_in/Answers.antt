-- The numbers of blocks keep the order of corners.
use Rattle.vdb_coord.proofs.Meeting.{numbers_are_box}
use Rattle.vdb_coord.proofs.bounds.Bounds.block_numbers_in.Goals as goal

pub between-requires : goal.between-requires
between-requires c =
    rw (c.block_number_in.ensures.number, c.block_number_in-2.ensures.number)
    (numbers_are_box c.args.bits c.args.level (record { min = c.self.inside.min; max = c.self.inside.max }) c.self.invariant)
