use Rattle.vdb_grid.proofs.EachAccessor.{unused_moved, whole_moved}
use Rattle.vdb_grid.proofs.grid.Grid.write_near.Goals as goal

pub invariant_of-self : goal.invariant_of-self
invariant_of-self g c =
    (whole_moved _ _ _ _ _ c.self.invariant.0 (rw (← c.self.view_is) at (c.write_in_leaf.ensures.whole c.if-not-write_in_leaf.false)), unused_moved _ _ _ _ c.self.invariant.1, c.self.invariant.2)

pub returns-clause-alone : goal.returns-clause-alone
returns-clause-alone g c = λ t. rw (← c.self.view_is) at (c.write_in_leaf.ensures.alone c.if-not-write_in_leaf.false)

pub returns-clause-elsewhere : goal.returns-clause-elsewhere
returns-clause-elsewhere g c = rw (← c.self.view_is) at c.write_in_leaf.ensures.elsewhere
