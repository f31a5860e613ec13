use Rattle.std.proofs.Common.{◌∙◌}
use Rattle.vdb_walk.proofs.LeafSeeks.{first_entry}
use Rattle.vdb_walk.proofs.first_active.first_entry.Goals as goal

pub returns-in-Some-clause-past : goal.returns-in-Some-clause-past
returns-in-Some-clause-past c =
    first_entry c.args.bits c.args.part c.requires.block c.args.after c.in-Some.start c.in-Some.ensures _ (c.from.ensures ∙ c.offset_in.ensures.value)
