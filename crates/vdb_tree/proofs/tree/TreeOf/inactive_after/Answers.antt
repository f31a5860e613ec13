use Rattle.vdb_tree.proofs.tree.TreeOf.inactive_after.Goals as goal

pub returns-then-is_inactive-clause-done : goal.returns-then-is_inactive-clause-done
returns-then-is_inactive-clause-done g c = c.start_past_inactive.ensures.done (c.is_inactive.ensures.inactive c.if-is_inactive.true)
