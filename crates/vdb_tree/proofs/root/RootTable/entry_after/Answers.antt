use Rattle.vdb_tree.proofs.Common.{arith, common_steps}
use Rattle.vdb_tree.proofs.root.RootTable.entry_after.Goals as goal

pub returns-in-Some : goal.returns-in-Some
returns-in-Some g c =
    let r = c.range.ensures.in_range tt in (
      (
        grind (arith, common_steps, r.1),
        grind (arith, common_steps, r.1),
        λ key p h.
            let m = r.2 key (p, tt) (rw (← c.self.view_is) at h) in
            grind (arith, common_steps, m),
      ),
      grind (arith, common_steps, r.1),
    )
