use Rattle.vdb_tree.proofs.Common.{◌≡◌, ◌∙◌, ap, arith, true, is_some, IsDistinct-from_sorted}
use Rattle.vdb_tree.proofs.root.RootTable.set.Goals as goal

pub returns-clause-updates : goal.returns-clause-updates
returns-clause-updates g c = λ k. rw (← c.self.view_is) (c.in-Ok.ensures.updates.0 k)

pub returns-clause-size : goal.returns-clause-size
returns-clause-size g c =
    let k : is_some c.in-Ok.field-0 ≡ true = ap is_some c.in-Ok.ensures.old ∙ (rw (← c.self.view_is) at c.requires) in
    let l = rw k at c.in-Ok.ensures.len in
    rw (← c.self.view_is) (omega (arith, l))

pub returns-clause-apart : goal.returns-clause-apart
returns-clause-apart g c = IsDistinct-from_sorted _ _ c.in-Ok.ensures.ordered
