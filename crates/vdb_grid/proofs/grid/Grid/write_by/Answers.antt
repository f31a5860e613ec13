use Rattle.std.proofs.Common.{List, Option, Some, arith, ap, refl, set-set, slice_set, sym, ◌∙◌}
use Rattle.vdb_coord.specs.declared.Coord.{Coord}
use Rattle.vdb_grid.specs.Grid.{GridOf}
use Rattle.vdb_grid.proofs.NearLeaves.{apart}
use Rattle.vdb_grid.proofs.grid.Grid.write_by.Goals as goal

pub returns-then-write_near-2-clause-outcome : goal.returns-then-write_near-2-clause-outcome
returns-then-write_near-2-clause-outcome g c =
    let e = c.write_near.ensures.untouched c.if-write_near.false in
    rw (← e, ← c.go_to.ensures.tree) (c.write_near-2.ensures.outcome (rw c.if-write_near-2.true refl))

pub returns-then-write_near-2-clause-last : goal.returns-then-write_near-2-clause-last
returns-then-write_near-2-clause-last g c =
    let e = c.write_near.ensures.untouched c.if-write_near.false in
    rw (← e)
    (c.write_near-2.ensures.last (rw c.if-write_near-2.true refl) ∙ ap (λ (coords : List (Option Coord)). slice_set coords c.args.k (Some c.args.p)) c.go_to.ensures.last ∙ set-set _ _ _ _)

pub returns-clause-outcome : goal.returns-clause-outcome
returns-clause-outcome g c =
    let e = c.write_near.ensures.untouched c.if-write_near.false in
    let f = c.write_near-2.ensures.untouched c.if-write_near-2.false in
    rw (← e, ← c.go_to.ensures.tree, ← f) c.write.ensures.outcome

pub returns-clause-non_constant : goal.returns-clause-non_constant
returns-clause-non_constant g c =
    let e = c.write_near.ensures.untouched c.if-write_near.false in
    let f = c.write_near-2.ensures.untouched c.if-write_near-2.false in
    rw (← e, ← c.go_to.ensures.tree, ← f) c.write.ensures.non_constant

pub returns-clause-steps : goal.returns-clause-steps
returns-clause-steps g c =
    let e = c.write_near.ensures.untouched c.if-write_near.false in
    let f = c.write_near-2.ensures.untouched c.if-write_near-2.false in
    let first = rw c.if-write_near.false at c.write_near.ensures.steps in
    let second = rw c.if-write_near-2.false at c.write_near-2.ensures.steps in
    rw (← e, ← c.go_to.ensures.tree, ← f) (λ has. omega (arith, c.write.ensures.steps has, c.go_to.ensures.steps, first, second))

pub returns-then-write_near-2-clause-elsewhere : goal.returns-then-write_near-2-clause-elsewhere
returns-then-write_near-2-clause-elsewhere g c =
    let e = c.write_near.ensures.untouched c.if-write_near.false in
    rw (← e, ← c.go_to.ensures.tree) (λ _. c.write_near-2.ensures.elsewhere)

pub returns-clause-elsewhere : goal.returns-clause-elsewhere
returns-clause-elsewhere g c =
    let e = c.write_near.ensures.untouched c.if-write_near.false in
    let f = c.write_near-2.ensures.untouched c.if-write_near-2.false in
    rw (← e, ← c.go_to.ensures.tree, ← f) c.write.ensures.elsewhere

pub returns-clause-unchanged : goal.returns-clause-unchanged
returns-clause-unchanged g c =
    let e = c.write_near.ensures.untouched c.if-write_near.false in
    let f = c.write_near-2.ensures.untouched c.if-write_near-2.false in
    rw (← e, ← c.go_to.ensures.tree, ← f) c.write.ensures.unchanged

pub returns-clause-leaf : goal.returns-clause-leaf
returns-clause-leaf g c =
    let e = c.write_near.ensures.untouched c.if-write_near.false in
    let f = c.write_near-2.ensures.untouched c.if-write_near-2.false in
    rw (← e, ← c.go_to.ensures.tree, ← f) c.write.ensures.leaf

pub returns-then-write_near-2-clause-last_leaf : goal.returns-then-write_near-2-clause-last_leaf
returns-then-write_near-2-clause-last_leaf g c = λ near. absurd (apart (sym (c.write_near.ensures.found near) ∙ c.if-write_near.false))

pub returns-clause-last_leaf : goal.returns-clause-last_leaf
returns-clause-last_leaf g c = λ near. absurd (apart (sym (c.write_near.ensures.found near) ∙ c.if-write_near.false))

pub returns-clause-last : goal.returns-clause-last
returns-clause-last g c =
    let e = c.write_near.ensures.untouched c.if-write_near.false in
    let f = c.write_near-2.ensures.untouched c.if-write_near-2.false in
    rw (← e) (c.write.ensures.last ∙ ap (λ (grid : GridOf g.row.V.Denot). grid.coords) f ∙ c.go_to.ensures.last)
