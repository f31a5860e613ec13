use Rattle.std.proofs.Common.{arith, sym}
use Rattle.vdb_grid.proofs.EachAccessor.{unused_moved, whole_moved}
use Rattle.vdb_grid.proofs.NearLeaves.{near_below, near_down}
use Rattle.vdb_grid.proofs.grid.Grid.probe.Goals as goal

pub invariant_of-self : goal.invariant_of-self
invariant_of-self g c =
    (whole_moved _ _ _ _ _ c.self.invariant.0 (rw (← c.self.view_is) at c.in-Some.ensures.whole), unused_moved _ _ _ _ c.self.invariant.1, c.self.invariant.2)

pub returns-in-Some-clause-below : goal.returns-in-Some-clause-below
returns-in-Some-clause-below g c = λ q e.
    rw (← c.self.view_is) (near_below _ _ _ c.args.k q c.args.p _ _ c.self.invariant.0 (rw (← c.self.view_is) at e) (rw (← c.self.view_is) at (sym c.in-Some.ensures.answer)) c.in-Some.ensures.steps)

pub returns-in-None-clause-below : goal.returns-in-None-clause-below
returns-in-None-clause-below g c = λ q e. omega (arith, rw c.copied.ensures at (c.go_to.ensures.below q e), c.in-None.ensures.steps)

pub returns-in-None-clause-near : goal.returns-in-None-clause-near
returns-in-None-clause-near g c = λ q e b. omega (arith, c.go_to.ensures.near q e (rw (← c.copied.ensures) at b), c.in-None.ensures.steps)

pub returns-in-Some-clause-down : goal.returns-in-Some-clause-down
returns-in-Some-clause-down g c =
    rw (← c.self.view_is) (near_down _ _ _ c.args.k c.args.p _ _ c.self.invariant.0 (rw (← c.self.view_is) at (sym c.in-Some.ensures.answer)) c.in-Some.ensures.steps)

pub returns-in-None-clause-down : goal.returns-in-None-clause-down
returns-in-None-clause-down g c = omega (arith, rw c.copied.ensures at c.go_to.ensures.down, c.in-None.ensures.steps)
