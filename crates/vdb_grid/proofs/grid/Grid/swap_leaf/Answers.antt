use Rattle.std.proofs.Common.{ap}
use Rattle.vdb_coord.specs.declared.Level.TheVariants.{Leaf}
use Rattle.vdb_tree.specs.Paths.{is_child}
use Rattle.vdb_grid.proofs.EachAccessor.{near_kept}
use Rattle.vdb_grid.proofs.grid.Grid.swap_leaf.Goals as goal

pub invariant_of-self : goal.invariant_of-self
invariant_of-self g c = (λ k p e. c.swap_leaf.ensures.paths _ _ (c.self.invariant.0 k p e), c.self.invariant.1, near_kept _ _ _ _ c.swap_leaf.ensures.paths c.self.invariant.2)

pub returns-clause-leaves : goal.returns-clause-leaves
returns-clause-leaves g c = rw (← c.self.view_is) (λ q. ap is_child (c.swap_leaf.ensures.same q Leaf))
