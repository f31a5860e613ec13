-- The next leaf extent that meets what the box has of the lower extent around p.
use Rattle.vdb_coord.proofs.Common.{refl, Lower}
use Rattle.vdb_coord.proofs.NextCoord.{leaf_found, leaf_none, in_part, part_inside}
use Rattle.vdb_coord.proofs.bounds.Bounds.coord_past_leaf.Goals as goal

pub next_block_in-requires-clause-inside : goal.next_block_in-requires-clause-inside
next_block_in-requires-clause-inside c = in_part c.args.bits Lower c.args.self c.args.p c.part_around-part.result c.part_around-part.ensures c.args.p c.requires.inside refl

pub first_in_block-requires-clause-inside : goal.first_in_block-requires-clause-inside
first_in_block-requires-clause-inside c = part_inside c.args.bits Lower c.args.self c.args.p c.part_around-part.result c.part_around-part.ensures c.in-Some.next c.in-Some.ensures.next.0

pub returns-in-Some-clause-next : goal.returns-in-Some-clause-next
returns-in-Some-clause-next c =
    leaf_found c.args.bits c.args.self c.part_around-part.result c.args.p c.part_around-part.ensures c.in-Some.next c.first_in_block.result c.in-Some.ensures.next c.first_in_block.ensures.first

pub returns-in-None-clause-next : goal.returns-in-None-clause-next
returns-in-None-clause-next c =
    leaf_none c.args.bits c.args.self c.part_around-part.result c.args.p c.part_around-part.ensures c.in-None.ensures.next c.coord_past_lower.result c.coord_past_lower.ensures.next
