use Rattle.std.proofs.Common.{Option, Some, subst, sym, ◌∙◌}
use Rattle.vdb_coord.specs.declared.Coord.{Coord}
use Rattle.vdb_grid.specs.Grid.{IsInLastLeaf}
use Rattle.vdb_grid.proofs.EachAccessor.{near_kept}
use Rattle.vdb_grid.proofs.NearLeaves.{last_leaf_found, whole_here}
use Rattle.vdb_grid.proofs.grid.Grid.write_in_leaf.Goals as goal

pub invariant_of-self : goal.invariant_of-self
invariant_of-self g c = (λ k p e. c.write_near-written.ensures.paths _ _ (c.self.invariant.0 k p e), c.self.invariant.1, near_kept _ _ _ _ c.write_near-written.ensures.paths c.self.invariant.2)

pub returns-in_default-clause-found : goal.returns-in_default-clause-found
returns-in_default-clause-found g c =
    rw (← c.self.view_is) (λ near. absurd (subst (λ (o : Option Coord). IsInLastLeaf c.self.inside.tree o c.args.p) c.in_default.is near))

pub returns-clause-found : goal.returns-clause-found
returns-clause-found g c = rw (← c.self.view_is) (λ near.
    c.write_near-written.ensures.answer ∙ last_leaf_found c.self.inside.tree c.args.p _ _ c.args.k (Some c.in-Some.q) c.self.invariant.0 c.in-Some.is (rw c.in-Some.is at near))

pub returns-clause-alone : goal.returns-clause-alone
returns-clause-alone g c = λ t. rw (← c.self.view_is) (c.write_near-written.ensures.alone t)

pub returns-clause-whole : goal.returns-clause-whole
returns-clause-whole g c = λ t.
    c.write_near-written.ensures.paths _ _ (whole_here _ c.in-Some.q c.args.p _ (sym c.write_near-written.ensures.answer ∙ t) (c.self.invariant.0 c.args.k c.in-Some.q c.in-Some.is))

pub returns-clause-elsewhere : goal.returns-clause-elsewhere
returns-clause-elsewhere g c = rw (← c.self.view_is) c.write_near-written.ensures.elsewhere
