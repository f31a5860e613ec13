use Rattle.vdb_tree.proofs.Capacities.{capacity_at}
use Rattle.vdb_tree.proofs.tree.TreeOf.has_capacity_at.Goals as goal

pub returns : goal.returns
returns g c = rw (← c.self.view_is) (capacity_at _ _ c.args.bounds (rw (← c.self.view_is) at c.requires.capacity) c.args.p c.requires.inside c.self.invariant.1.apart)
