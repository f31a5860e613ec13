use Rattle.std.proofs.Common.{◌∙◌, ap, sym, ◌+◌}
use Rattle.vdb_walk.proofs.LeafSeeks.{past_entry}
use Rattle.vdb_walk.proofs.first_active.entry_past.Goals as goal

pub returns-then-contains-clause-past : goal.returns-then-contains-clause-past
returns-then-contains-clause-past c =
    rw c.in-Some.is
    (past_entry c.args.bits c.args.part c.requires.block c.in-Some.p (sym c.contains.ensures ∙ c.if-contains.true) _ (ap (λ n. n + 1) (c.from.ensures ∙ c.offset_in.ensures.value)))
