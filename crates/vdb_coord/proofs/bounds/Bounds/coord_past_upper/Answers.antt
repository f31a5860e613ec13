-- The next upper extent that meets the box.
use Rattle.vdb_coord.proofs.NextCoord.{upper_found, upper_none}
use Rattle.vdb_coord.proofs.bounds.Bounds.coord_past_upper.Goals as goal

pub returns-in-Some-clause-next : goal.returns-in-Some-clause-next
returns-in-Some-clause-next c = upper_found c.args.bits c.args.self c.args.p c.in-Some.next c.first_in_block.result c.in-Some.ensures.next c.first_in_block.ensures.first

pub returns-in-None-clause-next : goal.returns-in-None-clause-next
returns-in-None-clause-next c = upper_none c.args.bits c.args.self c.args.p c.in-None.ensures.next
