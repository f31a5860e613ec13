-- Three times the bits of a node give its entries.
use Rattle.vdb_coord.proofs.Positions.{entries_power}
use Rattle.vdb_coord.proofs.Bits.entries.Goals as goal

pub returns : goal.returns
returns c = rw c.node_bits-bits.ensures (entries_power c.args.self c.args.level c.requires)
