use Rattle.vdb_tree.proofs.Common.{rules, fits_everywhere, bits_of}
use Rattle.vdb_tree.proofs.ActiveCapacities.{active_key, idle_key}
use Rattle.vdb_tree.proofs.tree.TreeOf.is_active_root.Goals as goal

pub returns-clause-found : goal.returns-clause-found
returns-clause-found g c = λ h.
    active_key (bits_of g.row.U g.row.L g.row.F) c.self.invariant.0.bits c.args.self.now c.args.p (fits_everywhere c.args.p (search rules) (search rules) (search rules)) (c.has_active.ensures.found h)

pub returns-clause-none : goal.returns-clause-none
returns-clause-none g c = λ h.
    idle_key (bits_of g.row.U g.row.L g.row.F) c.self.invariant.0.bits c.args.self.now c.args.p (fits_everywhere c.args.p (search rules) (search rules) (search rules)) (c.has_active.ensures.none h)
