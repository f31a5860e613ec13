use Rattle.vdb_tree.proofs.Common.{subst, IsDistinct, keys_of, key, coord_eq, Layout, bits_of}
use Rattle.vdb_tree.proofs.ActiveCapacities.{active_capacity}
use Rattle.vdb_tree.proofs.tree.TreeOf.has_capacity_around.Goals as goal

pub returns : goal.returns
returns g c =
    let bits = bits_of g.row.U g.row.L g.row.F in
    active_capacity bits c.args.other.now c.args.self.now c.requires.capacity (key bits c.args.p) c.requires.active
    (subst (λ (t : Layout g.row.V.Denot). IsDistinct coord_eq (keys_of t.root)) c.self.view_is c.self.invariant.1.apart)
