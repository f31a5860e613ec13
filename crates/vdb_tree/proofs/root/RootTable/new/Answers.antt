use Rattle.std.proofs.lemmas.Map.Keys.{IsDistinct-from_sorted}
use Rattle.vdb_tree.proofs.root.RootTable.new.Goals as goal

pub returns-clause-apart : goal.returns-clause-apart
returns-clause-apart g c = IsDistinct-from_sorted _ _ c.new.ensures.ordered
