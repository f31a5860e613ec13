use Rattle.std.proofs.lemmas.Map.Keys.{IsDistinct-from_sorted}
use Rattle.vdb_tree.proofs.root.RootTable.remove.Goals as goal

pub returns-clause-updates : goal.returns-clause-updates
returns-clause-updates g c = λ k. rw (← c.self.view_is) (c.remove.ensures.updates.0 k)

pub returns-clause-apart : goal.returns-clause-apart
returns-clause-apart g c = IsDistinct-from_sorted _ _ c.remove.ensures.ordered
