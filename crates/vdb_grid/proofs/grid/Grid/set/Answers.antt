use Rattle.std.proofs.Common.{arith}
use Rattle.vdb_grid.proofs.grid.Grid.set.Goals as goal

pub returns-then-near_set-2-clause-outcome : goal.returns-then-near_set-2-clause-outcome
returns-then-near_set-2-clause-outcome g c =
    let e = c.near_set.ensures.untouched c.if-near_set.false in
    rw (← e, ← c.far_get.ensures.kept) (c.near_set-2.ensures.outcome c.if-near_set-2.true)

pub returns-then-near_set-2-clause-elsewhere : goal.returns-then-near_set-2-clause-elsewhere
returns-then-near_set-2-clause-elsewhere g c =
    let e = c.near_set.ensures.untouched c.if-near_set.false in
    rw (← e, ← c.far_get.ensures.kept) (λ _. c.near_set-2.ensures.elsewhere)

pub returns-clause-outcome : goal.returns-clause-outcome
returns-clause-outcome g c =
    let e = c.near_set.ensures.untouched c.if-near_set.false in
    let f = c.near_set-2.ensures.untouched c.if-near_set-2.false in
    rw (← e, ← c.far_get.ensures.kept, ← f) c.write.ensures.outcome

pub returns-clause-unchanged : goal.returns-clause-unchanged
returns-clause-unchanged g c =
    let e = c.near_set.ensures.untouched c.if-near_set.false in
    let f = c.near_set-2.ensures.untouched c.if-near_set-2.false in
    rw (← e, ← c.far_get.ensures.kept, ← f) c.write.ensures.unchanged

pub returns-clause-leaf : goal.returns-clause-leaf
returns-clause-leaf g c =
    let e = c.near_set.ensures.untouched c.if-near_set.false in
    let f = c.near_set-2.ensures.untouched c.if-near_set-2.false in
    rw (← e, ← c.far_get.ensures.kept, ← f) c.write.ensures.leaf

pub returns-clause-non_constant : goal.returns-clause-non_constant
returns-clause-non_constant g c =
    let e = c.near_set.ensures.untouched c.if-near_set.false in
    let f = c.near_set-2.ensures.untouched c.if-near_set-2.false in
    rw (← e, ← c.far_get.ensures.kept, ← f) c.write.ensures.non_constant

pub returns-clause-elsewhere : goal.returns-clause-elsewhere
returns-clause-elsewhere g c =
    let e = c.near_set.ensures.untouched c.if-near_set.false in
    let f = c.near_set-2.ensures.untouched c.if-near_set-2.false in
    rw (← e, ← c.far_get.ensures.kept, ← f) c.write.ensures.elsewhere

pub returns-clause-steps : goal.returns-clause-steps
returns-clause-steps g c =
    let e = c.near_set.ensures.untouched c.if-near_set.false in
    let f = c.near_set-2.ensures.untouched c.if-near_set-2.false in
    let first = rw c.if-near_set.false at c.near_set.ensures.steps in
    let second = rw c.if-near_set-2.false at c.near_set-2.ensures.steps in
    rw (← e, ← c.far_get.ensures.kept, ← f) (λ has. omega (arith, c.write.ensures.steps has, c.far_get.ensures.steps, first, second))
