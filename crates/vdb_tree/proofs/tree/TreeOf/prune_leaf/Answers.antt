use Rattle.vdb_tree.proofs.Common.{refl, Leaf}
use Rattle.vdb_tree.proofs.Passes.{block_of_tile_needed, fills_keeps, leaf_descent, non_constant_needed, none_non_constant}
use Rattle.vdb_tree.proofs.tree.TreeOf.prune_leaf.Goals as goal

pub returns-in-Tile-clause-needed : goal.returns-in-Tile-clause-needed
returns-in-Tile-clause-needed g c = block_of_tile_needed _ Leaf c.args.self.now c.args.p _ c.in-Tile.ensures.value

pub returns-in-Some-clause-keeps : goal.returns-in-Some-clause-keeps
returns-in-Some-clause-keeps g c = fills_keeps _ Leaf c.args.self.now c.drop_leaf.new.self c.args.p _ c.drop_leaf.ensures.fills ((c.in-Some.ensures c.in-Some.cell).0 refl)

pub returns-in-Some-clause-others : goal.returns-in-Some-clause-others
returns-in-Some-clause-others g c = λ q d. leaf_descent _ c.args.self.now c.drop_leaf.new.self c.drop_leaf.ensures.above q (c.drop_leaf.ensures.entries.there q d)

pub returns-in_default-clause-needed : goal.returns-in_default-clause-needed
returns-in_default-clause-needed g c = non_constant_needed _ Leaf c.args.self.now c.args.p (none_non_constant _ Leaf c.args.self.now c.args.p _ c.in_default.is (λ cell. (c.leaf_constant.ensures cell).1))
