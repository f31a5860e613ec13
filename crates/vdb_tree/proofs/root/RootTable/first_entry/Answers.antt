use Rattle.vdb_tree.proofs.Common.{arith, common_steps}
use Rattle.vdb_tree.proofs.root.RootTable.first_entry.Goals as goal

pub returns-in-Some : goal.returns-in-Some
returns-in-Some g c =
    let r = c.range.ensures.in_range tt in (
      (
        grind (arith, common_steps, r.1),
        tt,
        λ key p h.
            let m = r.2 key (tt, tt) (rw (← c.self.view_is) at h) in
            grind (arith, common_steps, m),
      ),
      grind (arith, common_steps, r.1),
    )

pub returns-in-None : goal.returns-in-None
returns-in-None g c =
    let r = c.range.ensures.in_range tt in
    λ key _. let m = r.5 in let n = m (grind (arith, common_steps)) key (tt, tt) in rw (← c.self.view_is) n
