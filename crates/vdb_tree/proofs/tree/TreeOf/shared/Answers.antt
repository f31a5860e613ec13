use Rattle.vdb_tree.proofs.Paths.{common_lives}
use Rattle.vdb_tree.proofs.tree.TreeOf.shared.Goals as goal

pub returns-clause-lives : goal.returns-clause-lives
returns-clause-lives g c = rw c.common.ensures (common_lives _ c.args.self.now _ _ _ c.requires)
