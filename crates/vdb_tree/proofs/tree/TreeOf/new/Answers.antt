use Rattle.vdb_tree.proofs.Empty.{empty_field}
use Rattle.vdb_tree.proofs.tree.TreeOf.new.Goals as goal

pub returns-clause-field : goal.returns-clause-field
returns-clause-field g c = empty_field _ _ c.new.ensures.none
